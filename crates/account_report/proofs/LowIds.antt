-- Functions with low ids and the others: what one more event changes, and which functions had an event.
use Rattle.std.proofs.Common.{◌≡◌, ◌+◌, ◌<◌, ◌≤◌, ◌++◌, ◌∙◌, ℕ, zero, suc, Bool, true, false, cond, List, [], ◌∷◌, length, map, get_or, refl, ap, sym, subst, arith, nat_eq, Some, None, inl, inr}
use Rattle.std.specs.Prelude.{IsPermutation}
use Rattle.std.proofs.Math.ListN.{set}
use Rattle.std.proofs.lemmas.Bool.{eq-eqb, eqb-true}
use Rattle.std.proofs.lemmas.Grind.{get_or-set_at}
use Rattle.std.proofs.lemmas.List.{append-nil, append_assoc, get_or-set_other, get_or_default, map-append}
use Rattle.std.proofs.lemmas.List.Sorted.{IsPermutation-append_right, IsPermutation-sym, IsPermutation-to_front, IsPermutation-trans}
use Rattle.fdr_record.specs.declared.event.Kind.{Kind}
use Rattle.account_report.specs.declared.row.AccountRow.{AccountRow}
use Rattle.std.specs.Map.{keys_of, lookup}
use Rattle.std.specs.List.{AllByRecursion, IsDistinct}
use Rattle.std.proofs.lemmas.Bool.Decides.{nat_tests}
use Rattle.std.proofs.lemmas.Map.Keys.{IsDistinct-cons}
use Rattle.stack_rebuild.proofs.Items.{IsIn}
use Rattle.account_report.specs.private.Tallies.{Tallied, first_entries, has_events, no_tally, row_of_entry, with_event}

-- ---- one more event

-- ---- a list by ids

-- one more function without an event
pub longer_same : (ts : List Tallied) (func : ℕ) → get_or (ts ++ no_tally ∷ []) func no_tally ≡ get_or ts func no_tally
longer_same [] zero = refl
longer_same [] (suc k) = refl
longer_same (t ∷ ts) zero = refl
longer_same (t ∷ ts) (suc k) = longer_same ts k

pub entries_more : (func : ℕ) (ts : List Tallied) (t : Tallied)
    → first_entries func (ts ++ t ∷ []) ≡ first_entries func ts ++ cond (has_events t) ((func + length ts, t) ∷ []) []
entries_more func [] t =
    let place : func ≡ func + length (let none : List Tallied = [] in none) = omega arith in
    ap (λ (n : ℕ). cond (has_events t) ((n, t) ∷ []) (let none : List (ℕ × Tallied) = [] in none)) place
entries_more func (u ∷ ts) t = by_events (has_events u) (entries_more (func + 1) ts t)
  where
    next : ℕ → List (ℕ × Tallied)
    next n = cond (has_events t) ((n, t) ∷ []) []

    place : func + 1 + length ts ≡ func + length (u ∷ ts)
    place = omega arith

    by_events : (b : Bool) → first_entries (func + 1) (ts ++ t ∷ []) ≡ first_entries (func + 1) ts ++ next (func + 1 + length ts)
        → cond b ((func, u) ∷ first_entries (func + 1) (ts ++ t ∷ [])) (first_entries (func + 1) (ts ++ t ∷ []))
        ≡ cond b ((func, u) ∷ first_entries (func + 1) ts) (first_entries (func + 1) ts) ++ next (func + length (u ∷ ts))
    by_events true later = ap (λ (es : List (ℕ × Tallied)). (func, u) ∷ es) (later ∙ ap (λ n. first_entries (func + 1) ts ++ next n) place)
    by_events false later = later ∙ ap (λ n. first_entries (func + 1) ts ++ next n) place

-- ids rise from the first one on
low_ids : (func : ℕ) (ts : List Tallied) (others : List (ℕ × Tallied)) → ((k : ℕ) → IsIn k (keys_of others) → func + length ts ≤ k)
    → (k : ℕ) → IsIn k (keys_of (first_entries func ts ++ others)) → func ≤ k
low_ids func [] others high k is = omega (arith, high k is)
low_ids func (t ∷ ts) others high k is =
    by_events (has_events t) (low_ids (func + 1) ts others (λ n there. omega (arith, high n there)) k) is
  where
    by_events : (b : Bool) → (IsIn k (keys_of (first_entries (func + 1) ts ++ others)) → func + 1 ≤ k)
        → IsIn k (keys_of (cond b ((func, t) ∷ first_entries (func + 1) ts) (first_entries (func + 1) ts) ++ others)) → func ≤ k
    by_events true later (inl here) = omega (arith, here)
    by_events true later (inr there) = omega (arith, later there)
    by_events false later there = omega (arith, later there)

all_apart : (func : ℕ) (ks : List ℕ) → ((k : ℕ) → IsIn k ks → func + 1 ≤ k) → AllByRecursion (λ y. nat_eq func y ≡ false) ks
all_apart func [] high = tt
all_apart func (k ∷ ks) high =
    let above : func + 1 ≤ k = high k (inl refl) in
    let apart : nat_eq func k ≡ false = grind (arith, nat_tests) in
    (apart, all_apart func ks (λ n there. high n (inr there)))

pub ids_distinct : (func : ℕ) (ts : List Tallied) (others : List (ℕ × Tallied)) → IsDistinct nat_eq (keys_of others)
    → ((k : ℕ) → IsIn k (keys_of others) → func + length ts ≤ k) → IsDistinct nat_eq (keys_of (first_entries func ts ++ others))
ids_distinct func [] others distinct high = distinct
ids_distinct func (t ∷ ts) others distinct high =
    by_events (has_events t) (ids_distinct (func + 1) ts others distinct higher)
  where
    higher : (k : ℕ) → IsIn k (keys_of others) → func + 1 + length ts ≤ k
    higher k there = omega (arith, high k there)

    by_events : (b : Bool) → IsDistinct nat_eq (keys_of (first_entries (func + 1) ts ++ others))
        → IsDistinct nat_eq (keys_of (cond b ((func, t) ∷ first_entries (func + 1) ts) (first_entries (func + 1) ts) ++ others))
    by_events true later =
        IsDistinct-cons nat_eq func (keys_of (first_entries (func + 1) ts ++ others))
        (all_apart func (keys_of (first_entries (func + 1) ts ++ others)) (low_ids (func + 1) ts others higher)) later
    by_events false later = later

-- ---- what is found of an id

not_found : (k : ℕ) (es : List (ℕ × Tallied)) → ((n : ℕ) → IsIn n (keys_of es) → k + 1 ≤ n) → lookup (nat_eq k) es ≡ None
not_found k [] high = refl
not_found k ((n, t) ∷ es) high =
    let above : k + 1 ≤ n = high n (inl refl) in
    let apart : nat_eq k n ≡ false = grind (arith, nat_tests) in
    ap (λ (b : Bool). cond b (Some t) (lookup (nat_eq k) es)) apart ∙ not_found k es (λ m there. high m (inr there))

pub found_first : (k func j : ℕ) (ts : List Tallied) (others : List (ℕ × Tallied)) → k ≡ func + j → j < length ts
    → ((n : ℕ) → IsIn n (keys_of others) → func + length ts ≤ n)
    → lookup (nat_eq k) (first_entries func ts ++ others) ≡ cond (has_events (get_or ts j no_tally)) (Some (get_or ts j no_tally)) None
found_first k func j [] others is within high = absurd (omega arith)
found_first k func zero (t ∷ ts) others is within high =
    by_events (has_events t)
    (not_found k (first_entries (func + 1) ts ++ others)
    (λ n there. omega (arith, is, low_ids (func + 1) ts others (λ m also. omega (arith, high m also)) n there)))
  where
    here : nat_eq k func ≡ true
    here = grind (arith, nat_tests)

    by_events : (b : Bool) → lookup (nat_eq k) (first_entries (func + 1) ts ++ others) ≡ None
        → lookup (nat_eq k) (cond b ((func, t) ∷ first_entries (func + 1) ts) (first_entries (func + 1) ts) ++ others) ≡ cond b (Some t) None
    by_events true none = ap (λ (b : Bool). cond b (Some t) (lookup (nat_eq k) (first_entries (func + 1) ts ++ others))) here
    by_events false none = none
found_first k func (suc j) (t ∷ ts) others is within high =
    by_events (has_events t) (found_first k (func + 1) j ts others (omega (arith, is)) (omega (arith, within)) (λ m also. omega (arith, high m also)))
  where
    apart : nat_eq k func ≡ false
    apart = grind (arith, nat_tests)

    by_events : (b : Bool) → lookup (nat_eq k) (first_entries (func + 1) ts ++ others) ≡ cond (has_events (get_or ts j no_tally)) (Some (get_or ts j no_tally)) None
        → lookup (nat_eq k) (cond b ((func, t) ∷ first_entries (func + 1) ts) (first_entries (func + 1) ts) ++ others)
        ≡ cond (has_events (get_or ts j no_tally)) (Some (get_or ts j no_tally)) None
    by_events true later = ap (λ (b : Bool). cond b (Some t) (lookup (nat_eq k) (first_entries (func + 1) ts ++ others))) apart ∙ later
    by_events false later = later

pub found_other : (k func : ℕ) (ts : List Tallied) (others : List (ℕ × Tallied)) → func + length ts ≤ k
    → lookup (nat_eq k) (first_entries func ts ++ others) ≡ lookup (nat_eq k) others
found_other k func [] others high = refl
found_other k func (t ∷ ts) others high = by_events (has_events t) (found_other k (func + 1) ts others (omega (arith, high)))
  where
    apart : nat_eq k func ≡ false
    apart = grind (arith, nat_tests)

    by_events : (b : Bool) → lookup (nat_eq k) (first_entries (func + 1) ts ++ others) ≡ lookup (nat_eq k) others
        → lookup (nat_eq k) (cond b ((func, t) ∷ first_entries (func + 1) ts) (first_entries (func + 1) ts) ++ others) ≡ lookup (nat_eq k) others
    by_events true later = ap (λ (b : Bool). cond b (Some t) (lookup (nat_eq k) (first_entries (func + 1) ts ++ others))) apart ∙ later
    by_events false later = later

-- ---- rows of a list, the last of which is taken off

abbrev rows_in : List Tallied → List AccountRow
rows_in ts = map row_of_entry (first_entries 0 ts)

last_entries : (ts rest : List Tallied) (t : Tallied) (b : Bool) → ts ≡ rest ++ t ∷ [] → has_events t ≡ b
    → first_entries 0 ts ≡ first_entries 0 rest ++ cond b ((length rest, t) ∷ []) []
last_entries ts rest t b is events =
    let place : 0 + length rest ≡ length rest = omega arith in
    ap (first_entries 0) is
    ∙ (entries_more 0 rest t
    ∙ (ap (λ (a : Bool). first_entries 0 rest ++ cond a ((0 + length rest, t) ∷ []) []) events
    ∙ ap (λ (n : ℕ). first_entries 0 rest ++ cond b ((n, t) ∷ []) []) place))

pub moved : (all rows : List AccountRow) (ts rest : List Tallied) (t : Tallied) → ts ≡ rest ++ t ∷ [] → has_events t ≡ true
    → IsPermutation all (rows_in ts ++ rows) → IsPermutation all (rows_in rest ++ (rows ++ row_of_entry (length rest, t) ∷ []))
moved all rows ts rest t is events before =
    let row = row_of_entry (length rest, t) in
    let split : rows_in ts ++ rows ≡ rows_in rest ++ (row ∷ rows) =
    ap (λ (es : List (ℕ × Tallied)). map row_of_entry es ++ rows) (last_entries ts rest t true is events)
    ∙ (ap (λ (rs : List AccountRow). rs ++ rows) (map-append row_of_entry (first_entries 0 rest) ((length rest, t) ∷ []))
    ∙ append_assoc (rows_in rest) (row ∷ []) rows) in
    IsPermutation-trans all (rows_in rest ++ (row ∷ rows)) (rows_in rest ++ (rows ++ row ∷ [])) (subst (IsPermutation all) split before)
    (IsPermutation-append_right (rows_in rest) (row ∷ rows) (rows ++ row ∷ []) (IsPermutation-sym (rows ++ row ∷ []) (row ∷ rows) (IsPermutation-to_front rows row)))

pub left_out : (all rows : List AccountRow) (ts rest : List Tallied) (t : Tallied) → ts ≡ rest ++ t ∷ [] → has_events t ≡ false
    → IsPermutation all (rows_in ts ++ rows) → IsPermutation all (rows_in rest ++ rows)
left_out all rows ts rest t is events before =
    subst (λ (es : List (ℕ × Tallied)). IsPermutation all (map row_of_entry es ++ rows))
    (last_entries ts rest t false is events ∙ append-nil (first_entries 0 rest)) before

-- ---- one tally of a list is changed

pub set_one : (ts : List Tallied) (at : ℕ) (t : Tallied) (func : ℕ) → at < length ts
    → get_or (set ts at t) func no_tally ≡ cond (nat_eq at func) t (get_or ts func no_tally)
set_one ts at t func within = by_func (nat_eq at func) refl
  where
    by_func : (b : Bool) → nat_eq at func ≡ b → get_or (set ts at t) func no_tally ≡ cond b t (get_or ts func no_tally)
    by_func true is = get_or-set_at ts at func t no_tally (sym (eqb-true at func is)) within
    by_func false is = get_or-set_other ts at func t no_tally (λ same. let also : nat_eq at func ≡ true = eq-eqb at func (sym same) in cc)

pub changed_at : (ts old : List Tallied) (at func : ℕ) (kind : Kind) (ds : List ℕ) (t new : Tallied) → at < length ts
    → ((k : ℕ) → get_or ts k no_tally ≡ get_or old k no_tally) → t ≡ get_or ts at no_tally → new ≡ with_event kind ds t
    → get_or (set ts at new) func no_tally ≡ cond (nat_eq at func) (with_event kind ds (get_or old func no_tally)) (get_or old func no_tally)
changed_at ts old at func kind ds t new within same is changed =
    set_one ts at new func within ∙ by_func (nat_eq at func) refl
  where
    by_func : (b : Bool) → nat_eq at func ≡ b
        → cond b new (get_or ts func no_tally) ≡ cond b (with_event kind ds (get_or old func no_tally)) (get_or old func no_tally)
    by_func true here =
        changed ∙ ap (with_event kind ds) (is ∙ (same at ∙ ap (λ (k : ℕ). get_or old k no_tally) (eqb-true at func here)))
    by_func false here = same func

-- an item of a list, whatever stands for one that isn't there
pub one_item : (ts : List Tallied) (at : ℕ) (t : Tallied) → at < length ts → t ≡ get_or ts at t → t ≡ get_or ts at no_tally
one_item ts at t within is = is ∙ get_or_default ts at t no_tally within
