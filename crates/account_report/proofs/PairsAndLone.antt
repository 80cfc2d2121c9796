-- Each pair has one entry and one exit of its function. The others aren't in a pair.
use Rattle.std.proofs.Common.{◌≡◌, ◌≢◌, ◌+◌, ◌++◌, ◌<◌, ◌≤◌, ◌∙◌, ℕ, suc, Bool, true, false, not, cond, ◌&&◌, ◌||◌, List, [], ◌∷◌, length, reverse, count_by, refl, ap, sym, subst, arith, nat_eq, Option, Some, None}
use Rattle.std.specs.Prelude.{All, sum_by}
use Rattle.std.specs.List.{AllPairs, list_any, range_with_len}
use Rattle.std.specs.Option.{option_to_list}
use Rattle.std.proofs.Math.ListN.{get_or-append}
use Rattle.std.proofs.Math.Seq.{get_or-append_seam}
use Rattle.std.proofs.lemmas.Bool.{eqb-true, eq-eqb}
use Rattle.std.proofs.lemmas.Bool.Decides.{nat_tests}
use Rattle.std.proofs.lemmas.List.{length-append, length-reverse, reverse-append, reverse-reverse}
use Rattle.std.proofs.lemmas.List.Elements.{All-head, All-tail}
use Rattle.std.proofs.lemmas.List.Folds.{list_any-append}
use Rattle.std.proofs.lemmas.List.Sums.{sum_by-cons}
use Rattle.fdr_record.specs.declared.event.Event.{Event}
use Rattle.fdr_record.specs.declared.event.Kind.{Kind}
use Rattle.fdr_record.specs.declared.event.Kind.TheVariants.{Entry, Exit, TailExit, EntryArgs}
use Rattle.fdr_file.specs.ThreadEvents.{ThreadEvent}
use Rattle.stack_rebuild.specs.declared.call.Call.{Call}
use Rattle.stack_rebuild.specs.declared.call.Pair.{Pair}
use Rattle.stack_rebuild.specs.Calls.{enters, from_innermost, leaves, open_calls, pair_at, pair_at_kind, pair_of_call, pairs_in, pairs_of}
use Rattle.stack_rebuild.specs.Histories.{history_of_thread, pair_after}
use Rattle.stack_rebuild.specs.PairLaws.{IsWholeCall, ends_pair, event_at, no_event}
use Rattle.account_report.specs.Account.{begins_pair, durations_of, enters_into, is_entry_of, is_exit_of, leaves_from, lone_entries, lone_entries_in, lone_exits, lone_exits_in, threads_in}
use Rattle.account_report.specs.private.Tallies.{durations_in}
use Rattle.account_report.proofs.PlacedEvents.{by_position, count_own, count_placed, over_threads}
use Rattle.account_report.proofs.TallySteps.{durations_of-cons}

-- ---- tests of numbers

apart : (m n : ℕ) → m < n → nat_eq m n ≡ false
apart m n less = grind (arith, nat_tests)

apart_too : (m n : ℕ) → m < n → nat_eq n m ≡ false
apart_too m n less = grind (arith, nat_tests)

-- ---- the pairs of a thread

-- a position is that of an entry of one of these pairs, or of an exit of one
abbrev has_entry : List Pair → ℕ → Bool
has_entry pairs i = list_any (λ pair. nat_eq pair.entry i) pairs

abbrev has_exit : List Pair → ℕ → Bool
has_exit pairs i = list_any (λ pair. nat_eq pair.exit i) pairs

-- whether a position of a thread is that of an entry, or of an exit, of one of the thread's own pairs
abbrev entry_taken : List ThreadEvent → (thread position : ℕ) → Bool
entry_taken h thread position = has_entry (pairs_in (history_of_thread thread h)) position

abbrev exit_taken : List ThreadEvent → (thread position : ℕ) → Bool
exit_taken h thread position = has_exit (pairs_in (history_of_thread thread h)) position

-- the event at a position is an entry of a function
abbrev entry_at : ℕ → List Event → ℕ → Bool
entry_at func [] k = false
entry_at func (e ∷ es) k = cond (nat_eq (length es) k) (nat_eq e.func func && enters e.kind) (entry_at func es k)

-- what a pair of an event is made of
pub record Made (e : Event) (at : ℕ) (pair : Pair) : Type 0 where
  pub enters_not : enters e.kind ≡ false
  pub leaves_so : leaves e.kind ≡ true
  pub func : pair.func ≡ e.func
  pub exit : pair.exit ≡ at

some_is : (a b : Pair) → Some a ≡ Some b → a ≡ b
some_is a b e = cc

none_is_not : (a : Pair) → (let none : Option Pair = None in none ≡ Some a) → ⊥
none_is_not a e = cc

made : (e : Event) (at : ℕ) (calls : List Call) (pair : Pair) → pair_at e at calls ≡ Some pair → Made e at pair
made e at calls pair is = by_kind e.kind refl is
  where
    by_found : (enters e.kind ≡ false) → (leaves e.kind ≡ true) → (found : List Call) → pair_of_call e at found ≡ Some pair → Made e at pair
    by_found enters_none so [] p = absurd (none_is_not pair p)
    by_found enters_none so (c ∷ outer) p = record {
      enters_not = enters_none;
      leaves_so = so;
      func = ap (λ (q : Pair). q.func) (sym (some_is _ pair p));
      exit = ap (λ (q : Pair). q.exit) (sym (some_is _ pair p));
    }

    by_kind : (k : Kind) → e.kind ≡ k → pair_at_kind k e at calls ≡ Some pair → Made e at pair
    by_kind Entry k p = absurd (none_is_not pair p)
    by_kind EntryArgs k p = absurd (none_is_not pair p)
    by_kind Exit k p = by_found (ap enters k) (ap leaves k) (from_innermost e.func calls) p
    by_kind TailExit k p = by_found (ap enters k) (ap leaves k) (from_innermost e.func calls) p

-- the entries of pairs after one more event
has_entry-more : (e : Event) (es : List Event) (i : ℕ)
    → has_entry (pairs_in (e ∷ es)) i ≡ (has_entry (pairs_in es) i || has_entry (option_to_list (pair_at e (length es) (open_calls es))) i)
has_entry-more e es i = list_any-append (λ pair. nat_eq pair.entry i) (pairs_in es) (option_to_list (pair_at e (length es) (open_calls es)))

or_false : (b : Bool) → (b || false) ≡ b
or_false true = refl
or_false false = refl

or_both : (a b : Bool) → a ≡ false → b ≡ false → (a || b) ≡ false
or_both a b x y = rw (x, y) refl

unpaired : (e : Event) (es : List Event) (i : ℕ) → pair_at e (length es) (open_calls es) ≡ None → has_entry (pairs_in (e ∷ es)) i ≡ has_entry (pairs_in es) i
unpaired e es i none =
    has_entry-more e es i
    ∙ (ap (λ (p : Option Pair). has_entry (pairs_in es) i || has_entry (option_to_list p) i) none ∙ or_false (has_entry (pairs_in es) i))

paired : (e : Event) (es : List Event) (i : ℕ) (pair : Pair) → pair_at e (length es) (open_calls es) ≡ Some pair
    → has_entry (pairs_in (e ∷ es)) i ≡ (has_entry (pairs_in es) i || nat_eq pair.entry i)
paired e es i pair some =
    has_entry-more e es i
    ∙ (ap (λ (p : Option Pair). has_entry (pairs_in es) i || has_entry (option_to_list p) i) some
    ∙ ap (λ (b : Bool). has_entry (pairs_in es) i || b) (or_false (nat_eq pair.entry i)))

-- ---- what the laws of pairs say of a history

pub record Laws : Type 0 where
  pub apart : (events : List Event) → AllPairs (λ pair later. pair.entry ≢ later.entry) (pairs_of events)
  pub whole : (events : List Event) → All (IsWholeCall events) (pairs_of events)

in_order : (es : List Event) → pairs_of (reverse es) ≡ pairs_in es
in_order es = ap pairs_in (reverse-reverse es)

last_made : (e : Event) (es : List Event) (pair : Pair) → pair_at e (length es) (open_calls es) ≡ Some pair
    → pairs_of (reverse (e ∷ es)) ≡ pairs_in es ++ pair ∷ []
last_made e es pair some = in_order (e ∷ es) ∙ ap (λ (p : Option Pair). pairs_in es ++ option_to_list p) some

whole_made : Laws → (e : Event) (es : List Event) (pair : Pair) → pair_at e (length es) (open_calls es) ≡ Some pair
    → IsWholeCall (reverse (e ∷ es)) pair
whole_made laws e es pair some =
    let all = subst (All (IsWholeCall (reverse (e ∷ es)))) (last_made e es pair some) (laws.whole (reverse (e ∷ es))) in
    subst (IsWholeCall (reverse (e ∷ es))) (get_or-append_seam (pairs_in es) pair [] pair)
    (all (length (pairs_in es)) pair (omega (arith, length-append (pairs_in es) (pair ∷ []))))

differs : (n m : ℕ) → n ≢ m → nat_eq n m ≡ false
differs n m other = by_test (nat_eq n m) refl
  where
    by_test : (b : Bool) → nat_eq n m ≡ b → nat_eq n m ≡ false
    by_test true is = absurd (other (eqb-true n m is))
    by_test false is = is

no_entry : (pairs : List Pair) (i : ℕ) → All (λ pair. pair.entry ≢ i) pairs → has_entry pairs i ≡ false
no_entry [] i all = refl
no_entry (pair ∷ pairs) i all =
    or_both (nat_eq pair.entry i) (has_entry pairs i) (differs pair.entry i (All-head (λ p. p.entry ≢ i) pair pairs all))
    (no_entry pairs i (All-tail (λ p. p.entry ≢ i) pair pairs all))

-- the entry of an event's pair is in no earlier pair
entry_free : Laws → (e : Event) (es : List Event) (pair : Pair) → pair_at e (length es) (open_calls es) ≡ Some pair
    → has_entry (pairs_in es) pair.entry ≡ false
entry_free laws e es pair some =
    let all = subst (AllPairs (λ p later. p.entry ≢ later.entry)) (last_made e es pair some) (laws.apart (reverse (e ∷ es))) in
    no_entry (pairs_in es) pair.entry (λ k d low same.
    all k (length (pairs_in es)) d low (omega (arith, length-append (pairs_in es) (pair ∷ [])))
    (ap (λ (p : Pair). p.entry) (get_or-append (pairs_in es) (pair ∷ []) d k low)
    ∙ (same ∙ sym (ap (λ (p : Pair). p.entry) (get_or-append_seam (pairs_in es) pair [] d)))))

-- the entries of pairs are positions before the end of a history
entry_past : Laws → (es : List Event) (i : ℕ) → length es ≤ i → has_entry (pairs_in es) i ≡ false
entry_past laws es i past =
    let all = subst (All (IsWholeCall (reverse es))) (in_order es) (laws.whole (reverse es)) in
    no_entry (pairs_in es) i (λ k d low same. absurd (omega (arith, (all k d low).rises, (all k d low).within, length-reverse es, past, same)))

below_last : (n k : ℕ) → k < suc n → nat_eq n k ≡ false → k < n
below_last n k low other = grind (arith, nat_tests)

and_so : (b : Bool) → (b && true) ≡ b
and_so true = refl
and_so false = refl

event_before : (e : Event) (es : List Event) (k : ℕ) → k < length es → event_at (reverse (e ∷ es)) k ≡ event_at (reverse es) k
event_before e es k below =
    ap (λ (events : List Event). event_at events k) (reverse-append (e ∷ []) es)
    ∙ get_or-append (reverse es) (e ∷ []) no_event k (omega (arith, below, length-reverse es))

event_last : (e : Event) (es : List Event) → event_at (reverse (e ∷ es)) (length es) ≡ e
event_last e es =
    ap (λ (events : List Event). event_at events (length es)) (reverse-append (e ∷ []) es)
    ∙ (ap (event_at (reverse es ++ e ∷ [])) (sym (length-reverse es)) ∙ get_or-append_seam (reverse es) e [] no_event)

-- an entry at a position is one of its own function
entry_at_is : (func : ℕ) (es : List Event) (k : ℕ) → k < length es → enters (event_at (reverse es) k).kind ≡ true
    → entry_at func es k ≡ nat_eq (event_at (reverse es) k).func func
entry_at_is func [] k low is = absurd (omega (arith, low))
entry_at_is func (e ∷ es) k low is = by_place (nat_eq (length es) k) refl (entry_at_is func es k)
  where
    by_place : (b : Bool) → nat_eq (length es) k ≡ b
        → (k < length es → enters (event_at (reverse es) k).kind ≡ true → entry_at func es k ≡ nat_eq (event_at (reverse es) k).func func)
        → cond b (nat_eq e.func func && enters e.kind) (entry_at func es k) ≡ nat_eq (event_at (reverse (e ∷ es)) k).func func
    by_place true same before =
        let here : event_at (reverse (e ∷ es)) k ≡ e = ap (event_at (reverse (e ∷ es))) (sym (eqb-true (length es) k same)) ∙ event_last e es in
        let kind : enters e.kind ≡ true = sym (ap (λ (x : Event). enters x.kind) here) ∙ is in
        ap (λ (b : Bool). nat_eq e.func func && b) kind
        ∙ (and_so (nat_eq e.func func) ∙ ap (λ (x : Event). nat_eq x.func func) (sym here))
    by_place false other before =
        let below : k < length es = below_last (length es) k low other in
        let kept = event_before e es k below in
        before below (sym (ap (λ (x : Event). enters x.kind) kept) ∙ is) ∙ ap (λ (x : Event). nat_eq x.func func) (sym kept)

-- the entry of an event's pair is one of the event's function
entry_own : Laws → (e : Event) (es : List Event) (pair : Pair) → pair_at e (length es) (open_calls es) ≡ Some pair → (func : ℕ)
    → entry_at func es pair.entry ≡ nat_eq e.func func
entry_own laws e es pair some func =
    let w = whole_made laws e es pair some in
    let m = made e (length es) (open_calls es) pair some in
    let below : pair.entry < length es = omega (arith, w.rises, m.exit) in
    let kept = event_before e es pair.entry below in
    entry_at_is func es pair.entry below (sym (ap (λ (x : Event). enters x.kind) kept) ∙ w.begins)
    ∙ (ap (λ (x : Event). nat_eq x.func func) (sym kept) ∙ ap (λ (f : ℕ). nat_eq f func) (w.entered ∙ m.func))

-- the exits of pairs are positions before the end of a history
exit_past : (es : List Event) (i : ℕ) → length es ≤ i → has_exit (pairs_in es) i ≡ false
exit_past [] i past = refl
exit_past (e ∷ es) i past =
    list_any-append (λ pair. nat_eq pair.exit i) (pairs_in es) (option_to_list (pair_at e (length es) (open_calls es)))
    ∙ or_both _ _ (exit_past es i (omega (arith, past))) (by_pair (pair_at e (length es) (open_calls es)) refl)
  where
    by_pair : (p : Option Pair) → pair_at e (length es) (open_calls es) ≡ p → has_exit (option_to_list p) i ≡ false
    by_pair None none = refl
    by_pair (Some pair) some =
        or_both _ _ (apart pair.exit i (omega (arith, past, (made e (length es) (open_calls es) pair some).exit))) refl

-- ---- the events of all threads

-- one more event, of this thread or of another one, before the part of a thread
own_part : (thread : ℕ) (l : ThreadEvent) (h : List ThreadEvent) → nat_eq l.thread thread ≡ true → history_of_thread thread (l ∷ h) ≡ l.event ∷ history_of_thread thread h
own_part thread l h is = ap (λ (b : Bool). cond b (l.event ∷ history_of_thread thread h) (history_of_thread thread h)) is

other_part : (thread : ℕ) (l : ThreadEvent) (h : List ThreadEvent) → nat_eq l.thread thread ≡ false → history_of_thread thread (l ∷ h) ≡ history_of_thread thread h
other_part thread l h is = ap (λ (b : Bool). cond b (l.event ∷ history_of_thread thread h) (history_of_thread thread h)) is

part_grows : (thread : ℕ) (l : ThreadEvent) (h : List ThreadEvent) → length (history_of_thread thread h) ≤ length (history_of_thread thread (l ∷ h))
part_grows thread l h = by_first (nat_eq l.thread thread)
  where
    by_first : (b : Bool) → length (history_of_thread thread h) ≤ length (cond b (l.event ∷ history_of_thread thread h) (history_of_thread thread h))
    by_first true = omega arith
    by_first false = omega arith

part_grows_own : (l : ThreadEvent) (h : List ThreadEvent) → length (history_of_thread l.thread (l ∷ h)) ≡ suc (length (history_of_thread l.thread h))
part_grows_own l h = ap (λ (es : List Event). length es) (own_part l.thread l h (eq-eqb l.thread l.thread refl))

-- tests that agree on the events of a history count the same
agree : (s t : ThreadEvent → ℕ → Bool) (h : List ThreadEvent) → ((l : ThreadEvent) (i : ℕ) → i < length (history_of_thread l.thread h) → s l i ≡ t l i)
    → count_placed s h ≡ count_placed t h
agree s t [] same = refl
agree s t (l ∷ h) same =
    let i = length (history_of_thread l.thread h) in
    let first : s l i ≡ t l i = same l i (omega (arith, part_grows_own l h)) in
    let rest : count_placed s h ≡ count_placed t h = agree s t h (λ x j below. same x j (omega (arith, below, part_grows x.thread l h))) in
    ap (λ (b : Bool). cond b 1 0 + count_placed s h) first ∙ ap (λ (n : ℕ). cond (t l i) 1 0 + n) rest

abbrev one_if : Bool → ℕ
one_if b = cond b 1 0

-- the entries of a function at positions other than these
abbrev free_entry : ℕ → (ℕ → ℕ → Bool) → ThreadEvent → ℕ → Bool
free_entry func taken l i = is_entry_of func l && not (taken l.thread i)

-- how many entries and exits of a function are left over
abbrev left_entries : List ThreadEvent → ℕ → ℕ
left_entries h func = count_placed (free_entry func (entry_taken h)) h

-- the exits of a function at positions other than these
abbrev free_exit : ℕ → (ℕ → ℕ → Bool) → ThreadEvent → ℕ → Bool
free_exit func taken l i = is_exit_of func l && not (taken l.thread i)

abbrev left_exits : List ThreadEvent → ℕ → ℕ
left_exits h func = count_placed (free_exit func (exit_taken h)) h

and_none : (b : Bool) → (b && false) ≡ false
and_none true = refl
and_none false = refl

or_true : (b : Bool) → (b || true) ≡ true
or_true true = refl
or_true false = refl

-- if one more position is taken, one entry fewer is free, provided that it is an entry of the function
one_taken : (func thread k : ℕ) (old new : ℕ → ℕ → Bool) → ((t i : ℕ) → new t i ≡ (old t i || (nat_eq t thread && nat_eq k i)))
    → old thread k ≡ false → (h : List ThreadEvent) → k < length (history_of_thread thread h)
    → count_placed (free_entry func new) h + cond (entry_at func (history_of_thread thread h) k) 1 0 ≡ count_placed (free_entry func old) h
one_taken func thread k old new more was [] within = absurd (omega arith)
one_taken func thread k old new more was (l ∷ h) within = by_thread (nat_eq l.thread thread) refl (one_taken func thread k old new more was h)
  where
    i : ℕ
    i = length (history_of_thread l.thread h)

    Before : Type 0
    Before =
        k < length (history_of_thread thread h)
        → count_placed (free_entry func new) h + cond (entry_at func (history_of_thread thread h) k) 1 0 ≡ count_placed (free_entry func old) h

    -- any other position is taken as before
    as_before : (t j : ℕ) → (nat_eq t thread && nat_eq k j) ≡ false → new t j ≡ old t j
    as_before t j is = more t j ∙ (ap (λ (b : Bool). old t j || b) is ∙ or_false (old t j))

    same_head : (nat_eq l.thread thread && nat_eq k i) ≡ false → one_if (free_entry func new l i) ≡ one_if (free_entry func old l i)
    same_head is = ap {B = ℕ} (λ (b : Bool). cond (is_entry_of func l && not b) 1 0) (as_before l.thread i is)

    other : nat_eq l.thread thread ≡ false → Before
        → count_placed (free_entry func new) (l ∷ h) + cond (entry_at func (history_of_thread thread (l ∷ h)) k) 1 0 ≡ count_placed (free_entry func old) (l ∷ h)
    other is following =
        let part = other_part thread l h is in
        let inside : k < length (history_of_thread thread h) = subst (λ (es : List Event). k < length es) part within in
        let at : cond (entry_at func (history_of_thread thread (l ∷ h)) k) 1 0 ≡ cond (entry_at func (history_of_thread thread h) k) 1 0 =
        ap {B = ℕ} (λ (es : List Event). cond (entry_at func es k) 1 0) part in
        omega (arith, same_head (ap (λ (b : Bool). b && nat_eq k i) is), following inside, at)

    later : nat_eq l.thread thread ≡ true → nat_eq i k ≡ false → i ≡ length (history_of_thread thread h) → Before
        → count_placed (free_entry func new) (l ∷ h) + cond (entry_at func (history_of_thread thread (l ∷ h)) k) 1 0 ≡ count_placed (free_entry func old) (l ∷ h)
    later is not_here size following =
        let part = own_part thread l h is in
        let under : k < suc (length (history_of_thread thread h)) = subst (λ (es : List Event). k < length es) part within in
        let not_it : nat_eq (length (history_of_thread thread h)) k ≡ false = ap (λ (n : ℕ). nat_eq n k) (sym size) ∙ not_here in
        let inside : k < length (history_of_thread thread h) = grind (arith, nat_tests) in
        let at : cond (entry_at func (history_of_thread thread (l ∷ h)) k) 1 0 ≡ cond (entry_at func (history_of_thread thread h) k) 1 0 =
        ap {B = ℕ} (λ (es : List Event). cond (entry_at func es k) 1 0) part
        ∙ ap {B = ℕ} (λ (b : Bool). cond (cond b (nat_eq l.event.func func && enters l.event.kind) (entry_at func (history_of_thread thread h) k)) 1 0) not_it in
        let flip : nat_eq k i ≡ false = grind (arith, nat_tests) in
        omega (
          arith,
          same_head (ap (λ (b : Bool). nat_eq l.thread thread && b) flip ∙ and_none (nat_eq l.thread thread)),
          following inside,
          at,
        )

    here : nat_eq l.thread thread ≡ true → nat_eq i k ≡ true → i ≡ length (history_of_thread thread h)
        → count_placed (free_entry func new) (l ∷ h) + cond (entry_at func (history_of_thread thread (l ∷ h)) k) 1 0 ≡ count_placed (free_entry func old) (l ∷ h)
    here is it size =
        let same_thread : l.thread ≡ thread = eqb-true l.thread thread is in
        let same_place : i ≡ k = eqb-true i k it in
        let at : cond (entry_at func (history_of_thread thread (l ∷ h)) k) 1 0 ≡ cond (is_entry_of func l) 1 0 =
        ap {B = ℕ} (λ (es : List Event). cond (entry_at func es k) 1 0) (own_part thread l h is)
        ∙ ap {B = ℕ} (λ (b : Bool). cond (cond b (nat_eq l.event.func func && enters l.event.kind) (entry_at func (history_of_thread thread h) k)) 1 0)
        (ap (λ (n : ℕ). nat_eq n k) (sym size) ∙ it) in
        let taken : new l.thread i ≡ true =
        more l.thread i ∙ (ap (λ (b : Bool). old l.thread i || (b && nat_eq k i)) is ∙ (ap (λ (b : Bool). old l.thread i || b) (eq-eqb k i (sym same_place)) ∙ or_true (old l.thread i))) in
        let free : old l.thread i ≡ false = ap (λ (t : ℕ). old t i) same_thread ∙ (ap (old thread) same_place ∙ was) in
        let now : cond (free_entry func new l i) 1 0 ≡ 0 =
        ap {B = ℕ} (λ (b : Bool). cond (is_entry_of func l && not b) 1 0) taken ∙ ap {B = ℕ} (λ (b : Bool). cond b 1 0) (and_none (is_entry_of func l)) in
        let before : cond (free_entry func old l i) 1 0 ≡ cond (is_entry_of func l) 1 0 =
        ap {B = ℕ} (λ (b : Bool). cond (is_entry_of func l && not b) 1 0) free ∙ ap {B = ℕ} (λ (b : Bool). cond b 1 0) (and_true (is_entry_of func l)) in
        let rest : count_placed (free_entry func new) h ≡ count_placed (free_entry func old) h =
        agree (free_entry func new) (free_entry func old) h (λ x j below.
        ap (λ (b : Bool). is_entry_of func x && not b) (as_before x.thread j (elsewhere x j below (nat_eq x.thread thread) refl size same_place))) in
        omega (arith, at, now, before, rest)
      where
        and_true : (b : Bool) → (b && true) ≡ b
        and_true true = refl
        and_true false = refl

        elsewhere : (x : ThreadEvent) (j : ℕ) → j < length (history_of_thread x.thread h) → (b : Bool) → nat_eq x.thread thread ≡ b → i ≡ length (history_of_thread thread h) → i ≡ k
            → (nat_eq x.thread thread && nat_eq k j) ≡ false
        elsewhere x j below true e size place =
            let same : x.thread ≡ thread = eqb-true x.thread thread e in
            let short : j < length (history_of_thread thread h) = subst (λ (t : ℕ). j < length (history_of_thread t h)) same below in
            ap (λ (b : Bool). nat_eq x.thread thread && b) (apart_too j k (omega (arith, short, size, place))) ∙ and_none (nat_eq x.thread thread)
        elsewhere x j below false e size place = ap (λ (b : Bool). b && nat_eq k j) e

    by_place : nat_eq l.thread thread ≡ true → i ≡ length (history_of_thread thread h) → (b : Bool) → nat_eq i k ≡ b → Before
        → count_placed (free_entry func new) (l ∷ h) + cond (entry_at func (history_of_thread thread (l ∷ h)) k) 1 0 ≡ count_placed (free_entry func old) (l ∷ h)
    by_place is size true e following = here is e size
    by_place is size false e following = later is e size following

    by_thread : (b : Bool) → nat_eq l.thread thread ≡ b → Before
        → count_placed (free_entry func new) (l ∷ h) + cond (entry_at func (history_of_thread thread (l ∷ h)) k) 1 0 ≡ count_placed (free_entry func old) (l ∷ h)
    by_thread true is following = by_place is (ap (λ (t : ℕ). length (history_of_thread t h)) (eqb-true l.thread thread is)) (nat_eq i k) refl following
    by_thread false is following = other is following

-- ---- what is left

-- after an event, a position of a thread is in a pair if it was before, or if it is in the pair that the event makes
entry_in_pair : (l : ThreadEvent) (h : List ThreadEvent) (pair : Pair) → pair_after l h ≡ Some pair → (t i : ℕ)
    → entry_taken (l ∷ h) t i ≡ (entry_taken h t i || (nat_eq t l.thread && nat_eq pair.entry i))
entry_in_pair l h pair some t i = by_thread (nat_eq l.thread t) refl
  where
    by_thread : (b : Bool) → nat_eq l.thread t ≡ b → entry_taken (l ∷ h) t i ≡ (entry_taken h t i || (nat_eq t l.thread && nat_eq pair.entry i))
    by_thread true is =
        let same : l.thread ≡ t = eqb-true l.thread t is in
        let made_so : pair_at l.event (length (history_of_thread t h)) (open_calls (history_of_thread t h)) ≡ Some pair =
        ap (λ (u : ℕ). pair_at l.event (length (history_of_thread u h)) (open_calls (history_of_thread u h))) (sym same) ∙ some in
        ap (λ (es : List Event). has_entry (pairs_in es) i) (own_part t l h is)
        ∙ (paired l.event (history_of_thread t h) i pair made_so
        ∙ ap (λ (b : Bool). entry_taken h t i || (b && nat_eq pair.entry i)) (sym (eq-eqb t l.thread (sym same))))
    by_thread false is =
        let differs : nat_eq t l.thread ≡ false = flip (nat_eq t l.thread) refl in
        ap (λ (es : List Event). has_entry (pairs_in es) i) (other_part t l h is)
        ∙ (sym (or_false (entry_taken h t i)) ∙ ap (λ (b : Bool). entry_taken h t i || (b && nat_eq pair.entry i)) (sym differs))
      where
        flip : (b : Bool) → nat_eq t l.thread ≡ b → nat_eq t l.thread ≡ false
        flip true e = absurd (never (sym (eq-eqb l.thread t (sym (eqb-true t l.thread e))) ∙ is))
          where
            never : true ≡ false → ⊥
            never x = cc
        flip false e = e

-- an event that makes no pair leaves everything as it was
no_entry_more : (l : ThreadEvent) (h : List ThreadEvent) → pair_after l h ≡ None → (t i : ℕ) → entry_taken (l ∷ h) t i ≡ entry_taken h t i
no_entry_more l h none t i = by_thread (nat_eq l.thread t) refl
  where
    by_thread : (b : Bool) → nat_eq l.thread t ≡ b → entry_taken (l ∷ h) t i ≡ entry_taken h t i
    by_thread true is =
        let same : l.thread ≡ t = eqb-true l.thread t is in
        let none_so : pair_at l.event (length (history_of_thread t h)) (open_calls (history_of_thread t h)) ≡ None =
        ap (λ (u : ℕ). pair_at l.event (length (history_of_thread u h)) (open_calls (history_of_thread u h))) (sym same) ∙ none in
        ap (λ (es : List Event). has_entry (pairs_in es) i) (own_part t l h is) ∙ unpaired l.event (history_of_thread t h) i none_so
    by_thread false is = ap (λ (es : List Event). has_entry (pairs_in es) i) (other_part t l h is)

length_cond : (b : Bool) (n : ℕ) → length (cond b (n ∷ []) (let none : List ℕ = [] in none)) ≡ cond b 1 0
length_cond true n = refl
length_cond false n = refl

length_none : (b : Bool) → length (cond b (let none : List ℕ = [] in none) []) ≡ 0
length_none true = refl
length_none false = refl

-- how many durations one more event makes
more_durations : (func : ℕ) (l : ThreadEvent) (h : List ThreadEvent) (pair : Pair) → pair_after l h ≡ Some pair
    → length (durations_of func (l ∷ h)) ≡ length (durations_of func h) + cond (nat_eq l.event.func func) 1 0
more_durations func l h pair some =
    ap (λ (ds : List ℕ). length ds) (durations_of-cons func l h)
    ∙ (length-append (durations_of func h) (cond (nat_eq l.event.func func) (durations_in (pair_after l h)) [])
    ∙ ap (λ (n : ℕ). length (durations_of func h) + n)
    (ap (λ (p : Option Pair). length (cond (nat_eq l.event.func func) (durations_in p) [])) some ∙ length_cond (nat_eq l.event.func func) pair.duration))

no_durations : (func : ℕ) (l : ThreadEvent) (h : List ThreadEvent) → pair_after l h ≡ None → length (durations_of func (l ∷ h)) ≡ length (durations_of func h)
no_durations func l h none =
    ap (λ (ds : List ℕ). length ds) (durations_of-cons func l h)
    ∙ (length-append (durations_of func h) (cond (nat_eq l.event.func func) (durations_in (pair_after l h)) [])
    ∙ (ap (λ (n : ℕ). length (durations_of func h) + n)
    (ap (λ (p : Option Pair). length (cond (nat_eq l.event.func func) (durations_in p) [])) none ∙ length_none (nat_eq l.event.func func))
    ∙ omega arith))

-- each entry of a function is in one pair, or in none
each_left_entry : Laws → (func : ℕ) (h : List ThreadEvent) → left_entries h func + length (durations_of func h) ≡ count_by (is_entry_of func) h
each_left_entry laws func [] = refl
each_left_entry laws func (l ∷ h) = by_pair (pair_after l h) refl (each_left_entry laws func h)
  where
    own : List Event
    own = history_of_thread l.thread h

    old : ℕ → ℕ → Bool
    old = entry_taken h

    new : ℕ → ℕ → Bool
    new = entry_taken (l ∷ h)

    by_pair : (p : Option Pair) → pair_after l h ≡ p → left_entries h func + length (durations_of func h) ≡ count_by (is_entry_of func) h
        → left_entries (l ∷ h) func + length (durations_of func (l ∷ h)) ≡ count_by (is_entry_of func) (l ∷ h)
    by_pair None none before =
        let rest : count_placed (free_entry func new) h ≡ left_entries h func =
        agree (free_entry func new) (free_entry func old) h (λ x i below. ap (λ (b : Bool). is_entry_of func x && not b) (no_entry_more l h none x.thread i)) in
        let free : new l.thread (length own) ≡ false = no_entry_more l h none l.thread (length own) ∙ entry_past laws own (length own) (omega arith) in
        let head : cond (free_entry func new l (length own)) 1 0 ≡ cond (is_entry_of func l) 1 0 =
        ap {B = ℕ} (λ (b : Bool). cond (is_entry_of func l && not b) 1 0) free ∙ ap {B = ℕ} (λ (b : Bool). cond b 1 0) (and_so (is_entry_of func l)) in
        omega (arith, rest, head, no_durations func l h none, sum_by-cons (λ x. cond (is_entry_of func x) 1 0) l h, before)
    by_pair (Some pair) some before =
        let m = made l.event (length own) (open_calls own) pair some in
        let w = whole_made laws l.event own pair some in
        let was : old l.thread pair.entry ≡ false = entry_free laws l.event own pair some in
        let rest = one_taken func l.thread pair.entry old new (entry_in_pair l h pair some) was h (omega (arith, w.rises, m.exit)) in
        let at : cond (entry_at func own pair.entry) 1 0 ≡ cond (nat_eq l.event.func func) 1 0 =
        ap {B = ℕ} (λ (b : Bool). cond b 1 0) (entry_own laws l.event own pair some func) in
        let no_entry_of : is_entry_of func l ≡ false = ap (λ (b : Bool). nat_eq l.event.func func && b) m.enters_not ∙ and_none (nat_eq l.event.func func) in
        let head : cond (free_entry func new l (length own)) 1 0 ≡ 0 =
        ap {B = ℕ} (λ (b : Bool). cond (b && not (new l.thread (length own))) 1 0) no_entry_of in
        omega (
          arith,
          rest,
          at,
          head,
          more_durations func l h pair some,
          sum_by-cons (λ x. cond (is_entry_of func x) 1 0) l h,
          ap {B = ℕ} (λ (b : Bool). cond b 1 0) no_entry_of,
          before,
        )

-- earlier positions are in a pair if they were before
exit_before : (l : ThreadEvent) (h : List ThreadEvent) (t i : ℕ) → i < length (history_of_thread t h) → exit_taken (l ∷ h) t i ≡ exit_taken h t i
exit_before l h t i below = by_thread (nat_eq l.thread t) refl
  where
    own : List Event
    own = history_of_thread t h

    p_new : Option Pair
    p_new = pair_at l.event (length own) (open_calls own)

    by_pair : (p : Option Pair) → p_new ≡ p → has_exit (option_to_list p_new) i ≡ false
    by_pair None none = ap (λ (p : Option Pair). has_exit (option_to_list p) i) none
    by_pair (Some pair) some =
        ap (λ (p : Option Pair). has_exit (option_to_list p) i) some
        ∙ or_both _ _ (apart_too i pair.exit (omega (arith, below, (made l.event (length own) (open_calls own) pair some).exit))) refl

    by_thread : (b : Bool) → nat_eq l.thread t ≡ b → exit_taken (l ∷ h) t i ≡ exit_taken h t i
    by_thread true is =
        ap (λ (es : List Event). has_exit (pairs_in es) i) (own_part t l h is)
        ∙ (list_any-append (λ pair. nat_eq pair.exit i) (pairs_in own) (option_to_list p_new)
        ∙ (ap (λ (b : Bool). has_exit (pairs_in own) i || b) (by_pair p_new refl) ∙ or_false (has_exit (pairs_in own) i)))
    by_thread false is = ap (λ (es : List Event). has_exit (pairs_in es) i) (other_part t l h is)

-- the event's own position is in a pair if it makes one
exit_here : (l : ThreadEvent) (h : List ThreadEvent)
    → exit_taken (l ∷ h) l.thread (length (history_of_thread l.thread h)) ≡ has_exit (option_to_list (pair_after l h)) (length (history_of_thread l.thread h))
exit_here l h =
    let own = history_of_thread l.thread h in
    ap (λ (es : List Event). has_exit (pairs_in es) (length own)) (own_part l.thread l h (eq-eqb l.thread l.thread refl))
    ∙ (list_any-append (λ pair. nat_eq pair.exit (length own)) (pairs_in own) (option_to_list (pair_after l h))
    ∙ ap (λ (b : Bool). b || has_exit (option_to_list (pair_after l h)) (length own)) (exit_past own (length own) (omega arith)))

-- each exit of a function is in one pair, or in none
each_left_exit : (func : ℕ) (h : List ThreadEvent) → left_exits h func + length (durations_of func h) ≡ count_by (is_exit_of func) h
each_left_exit func [] = refl
each_left_exit func (l ∷ h) = by_pair (pair_after l h) refl (each_left_exit func h)
  where
    own : List Event
    own = history_of_thread l.thread h

    new : ℕ → ℕ → Bool
    new = exit_taken (l ∷ h)

    rest : count_placed (free_exit func new) h ≡ left_exits h func
    rest = agree (free_exit func new) (free_exit func (exit_taken h)) h (λ x i below.
        ap (λ (b : Bool). is_exit_of func x && not b) (exit_before l h x.thread i below))

    by_pair : (p : Option Pair) → pair_after l h ≡ p → left_exits h func + length (durations_of func h) ≡ count_by (is_exit_of func) h
        → left_exits (l ∷ h) func + length (durations_of func (l ∷ h)) ≡ count_by (is_exit_of func) (l ∷ h)
    by_pair None none before =
        let free : new l.thread (length own) ≡ false = exit_here l h ∙ ap (λ (p : Option Pair). has_exit (option_to_list p) (length own)) none in
        let head : cond (free_exit func new l (length own)) 1 0 ≡ cond (is_exit_of func l) 1 0 =
        ap {B = ℕ} (λ (b : Bool). cond (is_exit_of func l && not b) 1 0) free ∙ ap {B = ℕ} (λ (b : Bool). cond b 1 0) (and_so (is_exit_of func l)) in
        omega (arith, rest, head, no_durations func l h none, sum_by-cons (λ x. cond (is_exit_of func x) 1 0) l h, before)
    by_pair (Some pair) some before =
        let m = made l.event (length own) (open_calls own) pair some in
        let taken : new l.thread (length own) ≡ true =
        exit_here l h ∙ (ap (λ (p : Option Pair). has_exit (option_to_list p) (length own)) some
        ∙ (or_false (nat_eq pair.exit (length own)) ∙ eq-eqb pair.exit (length own) m.exit)) in
        let head : cond (free_exit func new l (length own)) 1 0 ≡ 0 =
        ap {B = ℕ} (λ (b : Bool). cond (is_exit_of func l && not b) 1 0) taken ∙ ap {B = ℕ} (λ (b : Bool). cond b 1 0) (and_none (is_exit_of func l)) in
        let exits : cond (is_exit_of func l) 1 0 ≡ cond (nat_eq l.event.func func) 1 0 =
        ap {B = ℕ} (λ (b : Bool). cond (nat_eq l.event.func func && b) 1 0) m.leaves_so ∙ ap {B = ℕ} (λ (b : Bool). cond b 1 0) (and_so (nat_eq l.event.func func)) in
        omega (arith, rest, head, exits, more_durations func l h pair some, sum_by-cons (λ x. cond (is_exit_of func x) 1 0) l h, before)

-- ---- the pairs of all threads

-- those of one thread that are in no pair of it, by the positions and by the events
own_entries : (func : ℕ) (own : List Event) → lone_entries_in func (reverse own) ≡ count_own (λ e at. enters_into func e && not (has_entry (pairs_in own) at)) own
own_entries func own =
    ap {B = ℕ} (λ (n : ℕ). count_by (λ at. enters_into func (event_at (reverse own) at) && not (begins_pair (reverse own) at)) (range_with_len 0 n)) (length-reverse own)
    ∙ (ap (λ (turned : List Event). count_by (λ at. enters_into func (event_at (reverse own) at) && not (has_entry (pairs_in turned) at)) (range_with_len 0 (length own))) (reverse-reverse own)
    ∙ by_position (λ e at. enters_into func e && not (has_entry (pairs_in own) at)) own)

own_exits : (func : ℕ) (own : List Event) → lone_exits_in func (reverse own) ≡ count_own (λ e at. leaves_from func e && not (has_exit (pairs_in own) at)) own
own_exits func own =
    ap {B = ℕ} (λ (n : ℕ). count_by (λ at. leaves_from func (event_at (reverse own) at) && not (ends_pair (reverse own) at)) (range_with_len 0 n)) (length-reverse own)
    ∙ (ap (λ (turned : List Event). count_by (λ at. leaves_from func (event_at (reverse own) at) && not (has_exit (pairs_in turned) at)) (range_with_len 0 (length own))) (reverse-reverse own)
    ∙ by_position (λ e at. leaves_from func e && not (has_exit (pairs_in own) at)) own)

sum_by-same : {f g : ℕ → ℕ} (ks : List ℕ) → ((k : ℕ) → f k ≡ g k) → sum_by f ks ≡ sum_by g ks
sum_by-same [] same = refl
sum_by-same {f} {g} (k ∷ ks) same = omega (arith, same k, sum_by-same {f = f} {g = g} ks same, sum_by-cons f k ks, sum_by-cons g k ks)

pub each_entry : Laws → (func : ℕ) (h : List ThreadEvent) → lone_entries h func + length (durations_of func h) ≡ count_by (is_entry_of func) h
each_entry laws func h =
    let free : ℕ → Event → ℕ → Bool = λ thread e at. enters_into func e && not (entry_taken h thread at) in
    let left : lone_entries h func ≡ left_entries h func =
    sum_by-same (threads_in h) (λ thread. own_entries func (history_of_thread thread h)) ∙ sym (over_threads free h) in
    omega (arith, left, each_left_entry laws func h)

pub each_exit : (func : ℕ) (h : List ThreadEvent) → lone_exits h func + length (durations_of func h) ≡ count_by (is_exit_of func) h
each_exit func h =
    let free : ℕ → Event → ℕ → Bool = λ thread e at. leaves_from func e && not (exit_taken h thread at) in
    let left : lone_exits h func ≡ left_exits h func =
    sum_by-same (threads_in h) (λ thread. own_exits func (history_of_thread thread h)) ∙ sym (over_threads free h) in
    omega (arith, left, each_left_exit func h)
