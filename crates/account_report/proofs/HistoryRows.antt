-- The rows of a table that says what a history says.
use Rattle.std.proofs.Common.{◌≡◌, ◌-◌, ◌∙◌, length, count_by, ℕ, Bool, true, false, cond, List, [], ◌∷◌, map, refl, ap, sym, subst, arith, nat_eq, Some, None, is_some}
use Rattle.std.specs.Prelude.{IsPermutation, All}
use Rattle.std.specs.Cmp.{nat_cmp_total, nat_eq_equiv}
use Rattle.std.specs.FinMap.{nat_cmp-IsAntisymmetric}
use Rattle.std.specs.Ordering.{nat_cmp}
use Rattle.std.specs.List.{IsDistinct}
use Rattle.std.specs.List.Sorted.{IsNonDecreasingBy}
use Rattle.std.specs.Map.{keys_of, lookup}
use Rattle.std.proofs.lemmas.Bool.{eqb-true, eq-eqb}
use Rattle.std.proofs.lemmas.Map.{lookup-none}
use Rattle.std.proofs.lemmas.Map.Entries.{none_past_head}
use Rattle.std.proofs.lemmas.Map.Keys.{IsDistinct-tail, IsDistinct-IsPermutation}
use Rattle.std.proofs.lemmas.Map.Made.{is_some-lookup}
use Rattle.std.proofs.lemmas.List.Elements.{All-cons, All-head, All-nil, All-tail}
use Rattle.std.proofs.lemmas.List.Sorted.{All-permutation, IsPermutation-map, IsPermutation-sym}
use Rattle.fdr_file.specs.ThreadEvents.{ThreadEvent}
use Rattle.stack_rebuild.proofs.AscendingLists.{is_each_once, strict-each_once}
use Rattle.stack_rebuild.proofs.Items.{IsIn, any-in, any-mapped, in-any, in_permutation, mapped-any}
use Rattle.account_report.specs.declared.row.AccountRow.{AccountRow}
use Rattle.account_report.specs.Account.{durations_of, functions_in, is_entry_of, is_exit_of, lone_entries, lone_exits, row_from, function_row}
use Rattle.account_report.specs.Ascending.{ascending}
use Rattle.account_report.specs.private.Tallies.{Tallied, has_event, row_of_entry, tally_of}
use Rattle.account_report.proofs.PairsAndLone.{Laws, each_entry, each_exit}
use Rattle.account_report.proofs.AscendingLists.{distinct_from_strict, length-ascending, rises_from_sorted, strict_from_rising}

abbrev Entries : Type 0
Entries = List (ℕ × Tallied)

abbrev event_func : ThreadEvent → ℕ
event_func e = e.event.func

-- the row of an entry
entry_told : Laws → (history : List ThreadEvent) (func : ℕ) (tally : Tallied) → tally ≡ tally_of history func → row_of_entry (func, tally) ≡ function_row history func
entry_told laws history func tally told =
    let durations = ascending (durations_of func history) in
    let many = length-ascending (durations_of func history) in
    let entries : count_by (is_entry_of func) history - length durations ≡ lone_entries history func = omega (arith, many, each_entry laws func history) in
    let exits : count_by (is_exit_of func) history - length durations ≡ lone_exits history func = omega (arith, many, each_exit func history) in
    ap (λ (t : Tallied). row_of_entry (func, t)) told
    ∙ (ap (λ (n : ℕ). row_from func durations n (count_by (is_exit_of func) history - length durations)) entries
    ∙ ap (λ (n : ℕ). row_from func durations (lone_entries history func) n) exits)

found_here : (func : ℕ) (tally : Tallied) (es : Entries) → lookup (nat_eq func) ((func, tally) ∷ es) ≡ Some tally
found_here func tally es = ap (λ b. cond b (Some tally) (lookup (nat_eq func) es)) (eq-eqb func func refl)

-- what an entry after the first one has is found there
found_after : (k : ℕ) (v : Tallied) (e : ℕ × Tallied) (es : Entries) → IsDistinct nat_eq (keys_of (e ∷ es)) → lookup (nat_eq k) es ≡ Some v
    → lookup (nat_eq k) (e ∷ es) ≡ Some v
found_after k v e es distinct found = by_first (nat_eq k e.0) refl
  where
    by_first : (b : Bool) → nat_eq k e.0 ≡ b → cond b (Some e.1) (lookup (nat_eq k) es) ≡ Some v
    by_first true is = let none : lookup (nat_eq k) es ≡ None = lookup-none (nat_eq k) es (none_past_head nat_eq_equiv k e es distinct is) in cc
    by_first false is = found

pub entries_told : Laws → (history : List ThreadEvent) (es : Entries) → IsDistinct nat_eq (keys_of es)
    → ((k : ℕ) (v : Tallied) → lookup (nat_eq k) es ≡ Some v → v ≡ tally_of history k) → map row_of_entry es ≡ map (function_row history) (keys_of es)
entries_told laws history [] distinct told = refl
entries_told laws history ((func, tally) ∷ es) distinct told =
    let first : row_of_entry (func, tally) ≡ function_row history func = entry_told laws history func tally (told func tally (found_here func tally es)) in
    let following : map row_of_entry es ≡ map (function_row history) (keys_of es) =
    entries_told laws history es (IsDistinct-tail nat_eq func (keys_of es) distinct) (λ k v found. told k v (found_after k v (func, tally) es distinct found)) in
    ap (λ (row : AccountRow). row ∷ map row_of_entry es) first ∙ ap (λ (rows : List AccountRow). function_row history func ∷ rows) following

-- the functions of a table
found_key : (k : ℕ) (es : Entries) → is_some (lookup (nat_eq k) es) ≡ true → IsIn k (keys_of es)
found_key k es found =
    let there = any-in (nat_eq k) (keys_of es) (sym (is_some-lookup (nat_eq k) es) ∙ found) in
    subst (λ (n : ℕ). IsIn n (keys_of es)) (sym (eqb-true k there.0 there.2)) there.1

pub key_found : (k : ℕ) (es : Entries) → IsIn k (keys_of es) → is_some (lookup (nat_eq k) es) ≡ true
key_found k es is = is_some-lookup (nat_eq k) es ∙ in-any (nat_eq k) (keys_of es) k is (eq-eqb k k refl)

pub flipped : (a b : ℕ) → nat_eq a b ≡ nat_eq b a
flipped a b = by_first (nat_eq a b) refl (nat_eq b a) refl
  where
    by_first : (p : Bool) → nat_eq a b ≡ p → (q : Bool) → nat_eq b a ≡ q → p ≡ q
    by_first true is true also = refl
    by_first false is false also = refl
    by_first true is false also = let e : nat_eq b a ≡ true = eq-eqb b a (sym (eqb-true a b is)) in cc
    by_first false is true also = let e : nat_eq a b ≡ true = eq-eqb a b (sym (eqb-true b a also)) in cc

-- if each row is that of its function, the rows are those of their functions
rows_of_functions : (history : List ThreadEvent) (rows : List AccountRow) → All (λ (r : AccountRow). r ≡ function_row history r.func) rows
    → rows ≡ map (function_row history) (map (λ (r : AccountRow). r.func) rows)
rows_of_functions history [] all = refl
rows_of_functions history (r ∷ rows) all =
    ap (λ (x : AccountRow). x ∷ rows) (All-head (λ (x : AccountRow). x ≡ function_row history x.func) r rows all)
    ∙ ap (λ (xs : List AccountRow). function_row history r.func ∷ xs) (rows_of_functions history rows (All-tail (λ (x : AccountRow). x ≡ function_row history x.func) r rows all))

each_its_own : (history : List ThreadEvent) (funcs : List ℕ) → All (λ (r : AccountRow). r ≡ function_row history r.func) (map (function_row history) funcs)
each_its_own history [] = All-nil (λ (r : AccountRow). r ≡ function_row history r.func)
each_its_own history (f ∷ funcs) = All-cons (λ (r : AccountRow). r ≡ function_row history r.func) (function_row history f) (map (function_row history) funcs) refl (each_its_own history funcs)

functions_again : (history : List ThreadEvent) (funcs : List ℕ) → map (λ (r : AccountRow). r.func) (map (function_row history) funcs) ≡ funcs
functions_again history [] = refl
functions_again history (f ∷ funcs) = ap (λ (fs : List ℕ). f ∷ fs) (functions_again history funcs)

-- the rows of a table, sorted by their functions, are the account
pub rows_sorted : Laws → (history : List ThreadEvent) (es : Entries) (rows : List AccountRow) → IsDistinct nat_eq (keys_of es)
    → ((k : ℕ) (v : Tallied) → lookup (nat_eq k) es ≡ Some v → v ≡ tally_of history k)
    → ((k : ℕ) → is_some (lookup (nat_eq k) es) ≡ has_event history k)
    → IsPermutation (map row_of_entry es) rows → IsNonDecreasingBy (λ (r : AccountRow). r.func) rows
    → rows ≡ map (function_row history) (functions_in history)
rows_sorted laws history es rows distinct told present same up =
    let func : AccountRow → ℕ = λ r. r.func in
    let listed : IsPermutation (map (function_row history) (keys_of es)) rows =
    subst (λ (rs : List AccountRow). IsPermutation rs rows) (entries_told laws history es distinct told) same in
    let own = All-permutation (λ (r : AccountRow). r ≡ function_row history r.func) _ rows listed (each_its_own history (keys_of es)) in
    let keys : IsPermutation (keys_of es) (map func rows) =
    subst (λ (fs : List ℕ). IsPermutation fs (map func rows)) (functions_again history (keys_of es)) (IsPermutation-map func _ rows listed) in
    let funcs : map func rows ≡ functions_in history =
    is_each_once nat_cmp nat_cmp_total nat_cmp-IsAntisymmetric (map func rows) (map event_func history)
    (strict_from_rising (map func rows) (rises_from_sorted func rows up) (IsDistinct-IsPermutation nat_eq flipped (keys_of es) (map func rows) keys distinct))
    (λ z is. any-mapped event_func history z (sym (present z) ∙ key_found z es (in_permutation (map func rows) (keys_of es) (IsPermutation-sym (keys_of es) (map func rows) keys) z is)))
    (λ z is. in_permutation (keys_of es) (map func rows) keys z (found_key z es (present z ∙ mapped-any event_func history z is))) in
    rows_of_functions history rows own ∙ ap (map (function_row history)) funcs

-- no function has two rows
pub own_rows : (history : List ThreadEvent) → IsDistinct nat_eq (map (λ (r : AccountRow). r.func) (map (function_row history) (functions_in history)))
own_rows history =
    subst (IsDistinct nat_eq) (sym (functions_again history (functions_in history))) (distinct_from_strict (functions_in history) (strict-each_once nat_cmp nat_cmp_total (map event_func history)))
