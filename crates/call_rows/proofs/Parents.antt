-- The parent of a call encloses it.
use Rattle.std.proofs.Common.{◌≡◌, ◌<◌, ◌≤◌, ◌++◌, ◌∙◌, ◌||◌, ℕ, Bool, true, false, cond, List, [], ◌∷◌, length, reverse, take, drop, refl, ap, sym, subst, arith, nat_eq, length-append, None, Some}
use Rattle.std.specs.Prelude.{All, MatchOption, option_map}
use Rattle.std.proofs.Math.Seq.{get_or-append_seam}
use Rattle.std.proofs.lemmas.Bool.{eq-eqb}
use Rattle.std.proofs.lemmas.List.Elements.{All-cons}
use Rattle.std.proofs.lemmas.List.{get_or_append_left, length-reverse, length-take-le, reverse-reverse, take-append-drop, take-append-le}
use Rattle.fdr_record.specs.declared.event.Event.{Event}
use Rattle.fdr_record.specs.declared.event.Kind.{Kind}
use Rattle.fdr_record.specs.declared.event.Kind.TheVariants.{Entry, Exit, TailExit, EntryArgs}
use Rattle.fdr_file.specs.ThreadEvents.{ThreadEvent}
use Rattle.stack_rebuild.specs.declared.call.Call.{Call}
use Rattle.stack_rebuild.specs.declared.call.Pair.{Pair}
use Rattle.stack_rebuild.specs.Calls.{enters, from_innermost, left_open, open_after_kind, open_calls, pairs_in}
use Rattle.stack_rebuild.specs.Histories.{history_of_thread, pairs_after, pairs_of_thread, thread_pair}
use Rattle.stack_rebuild.specs.PairLaws.{IsWholeCall, event_at, innermost_entry, no_event}
use Rattle.stack_rebuild.specs.Stacks.{open_before}
use Rattle.call_rows.specs.CallRowLaws.{Encloses, HasItsParent, is_open_at}
use Rattle.call_rows.specs.CallRows.{event_number_at}
use Rattle.call_rows.proofs.FoldSteps.{each_more, of_thread-pairs, of_threads}
use Rattle.call_rows.proofs.NestedEntries.{Nests, nests, nests_from, one_more}
use Rattle.call_rows.proofs.RowsStay.{AllWhole, Each, each_of_all}

-- ---- open calls are entries

-- each call has an entry at its position
abbrev AreEntries : List Event → List Call → Type 0
AreEntries events [] = Unit {0}
AreEntries events (call ∷ outer) = (call.entry < length events) × (enters (event_at events call.entry).kind ≡ true) × AreEntries events outer

entries_more : (events : List Event) (e : Event) (calls : List Call) → AreEntries events calls → AreEntries (events ++ e ∷ []) calls
entries_more events e [] are = tt
entries_more events e (call ∷ outer) are = (
  omega (arith, length-append events (e ∷ []), are.0),
  ap (λ (x : Event). enters x.kind) (get_or_append_left events (e ∷ []) no_event call.entry are.0) ∙ are.1,
  entries_more events e outer are.2,
)

entries_from : (events : List Event) (func : ℕ) (calls : List Call) → AreEntries events calls → AreEntries events (from_innermost func calls)
entries_from events func [] are = tt
entries_from events func (call ∷ outer) are = by_func (nat_eq call.func func) (entries_from events func outer are.2)
  where
    by_func : (b : Bool) → AreEntries events (from_innermost func outer) → AreEntries events (cond b (call ∷ outer) (from_innermost func outer))
    by_func true later = are
    by_func false later = later

entries_left : (events : List Event) (calls ended : List Call) → AreEntries events calls → AreEntries events ended → AreEntries events (left_open calls ended)
entries_left events calls [] are inner = are
entries_left events calls (call ∷ outer) are inner = inner.2

entries_kind : (k : Kind) (e : Event) (h : List Event) → k ≡ e.kind → AreEntries (reverse h ++ e ∷ []) (open_calls h)
    → AreEntries (reverse h ++ e ∷ []) (open_after_kind k e (length h) (open_calls h))
entries_kind Entry e h is are = (
  omega (arith, length-append (reverse h) (e ∷ []), length-reverse h),
  ap (λ (n : ℕ). enters (event_at (reverse h ++ e ∷ []) n).kind) (sym (length-reverse h))
      ∙ (ap (λ (x : Event). enters x.kind) (get_or-append_seam (reverse h) e [] no_event) ∙ ap enters (sym is)),
  are,
)
entries_kind EntryArgs e h is are = (
  omega (arith, length-append (reverse h) (e ∷ []), length-reverse h),
  ap (λ (n : ℕ). enters (event_at (reverse h ++ e ∷ []) n).kind) (sym (length-reverse h))
      ∙ (ap (λ (x : Event). enters x.kind) (get_or-append_seam (reverse h) e [] no_event) ∙ ap enters (sym is)),
  are,
)
entries_kind Exit e h is are = entries_left _ (open_calls h) (from_innermost e.func (open_calls h)) are (entries_from _ e.func (open_calls h) are)
entries_kind TailExit e h is are = entries_left _ (open_calls h) (from_innermost e.func (open_calls h)) are (entries_from _ e.func (open_calls h) are)

are_entries : (h : List Event) → AreEntries (reverse h) (open_calls h)
are_entries [] = tt
are_entries (e ∷ h) =
    let P : List Event → Type 0 = λ es. AreEntries es (open_calls (e ∷ h)) in
    subst P (sym (one_more e h)) (entries_kind e.kind e h refl (entries_more (reverse h) e (open_calls h) (are_entries h)))

-- ---- before a position

take_less : (events : List Event) (at more : ℕ) → at ≤ more → more ≤ length events → take at (take more events) ≡ take at events
take_less events at more low within =
    let size : length (take more events) ≡ more = length-take-le more events within in
    sym (take-append-le at (take more events) (drop more events) (omega (arith, size, low)))
    ∙ ap (take at) (take-append-drop more events)

open_less : (events : List Event) (at more : ℕ) → at ≤ more → more ≤ length events → open_before (take more events) at ≡ open_before events at
open_less events at more low within = ap (λ (es : List Event). open_calls (reverse es)) (take_less events at more low within)

nests_before : (events : List Event) (at : ℕ) → Nests (take at events) (open_before events at)
nests_before events at = subst (λ (es : List Event). Nests es (open_before events at)) (reverse-reverse (take at events)) (nests (reverse (take at events)))

entries_before : (events : List Event) (at : ℕ) → AreEntries (take at events) (open_before events at)
entries_before events at = subst (λ (es : List Event). AreEntries es (open_before events at)) (reverse-reverse (take at events)) (are_entries (reverse (take at events)))

event_less : (events : List Event) (at more : ℕ) → at < length (take more events) → event_at (take more events) at ≡ event_at events at
event_less events at more low =
    sym (get_or_append_left (take more events) (drop more events) no_event at low) ∙ ap (λ (es : List Event). event_at es at) (take-append-drop more events)

-- ---- the calls from the pair's own outwards

among_from : (at func : ℕ) (calls : List Call) → is_open_at at (from_innermost func calls) ≡ true → is_open_at at calls ≡ true
among_from at func [] is = is
among_from at func (call ∷ outer) is = by_func (nat_eq call.func func) is (among_from at func outer)
  where
    or_true : (b : Bool) → (b || true) ≡ true
    or_true true = refl
    or_true false = refl

    by_func : (b : Bool) → is_open_at at (cond b (call ∷ outer) (from_innermost func outer)) ≡ true
        → (is_open_at at (from_innermost func outer) ≡ true → is_open_at at outer ≡ true) → is_open_at at (call ∷ outer) ≡ true
    by_func true holds later = holds
    by_func false holds later = ap (λ (b : Bool). nat_eq call.entry at || b) (later holds) ∙ or_true (nat_eq call.entry at)

-- just before the exit of a pair, the calls outside its own are those that were open just before its entry
outside : (events : List Event) (pair : Pair) → IsWholeCall events pair → (found : List Call) → from_innermost pair.func (open_before events pair.exit) ≡ found
    → (call : Call) (outer : List Call) → open_before events pair.entry ≡ call ∷ outer → is_open_at call.entry (open_before events pair.exit) ≡ true
outside events pair whole [] is call outer opens =
    let none : None ≡ Some pair.entry = ap innermost_entry (sym is) ∙ whole.ends in absurd (let n : ⊥ = cc in n)
outside events pair whole (ended ∷ others) is call outer opens =
    let one : Some ended.entry ≡ Some pair.entry = ap innermost_entry (sym is) ∙ whole.ends in
    let at : ended.entry ≡ pair.entry = cc in
    let inner : Nests (take pair.exit events) (ended ∷ others) =
    subst (Nests (take pair.exit events)) is (nests_from (take pair.exit events) pair.func (open_before events pair.exit) (nests_before events pair.exit)) in
    let same : others ≡ call ∷ outer =
    sym inner.1
    ∙ (ap (open_before (take pair.exit events)) at
    ∙ (open_less events pair.entry pair.exit (omega (arith, whole.rises)) (omega (arith, whole.within)) ∙ opens)) in
    among_from call.entry pair.func (open_before events pair.exit)
    (ap (is_open_at call.entry) (is ∙ ap (λ (cs : List Call). ended ∷ cs) same)
    ∙ (ap (λ (b : Bool). nat_eq ended.entry call.entry || (b || is_open_at call.entry outer)) (eq-eqb call.entry call.entry refl) ∙ or_true (nat_eq ended.entry call.entry)))
  where
    or_true : (b : Bool) → (b || true) ≡ true
    or_true true = refl
    or_true false = refl

encloses : (events : List Event) (pair : Pair) → IsWholeCall events pair → (call : Call) (outer : List Call) → open_before events pair.entry ≡ call ∷ outer
    → Encloses events call.entry pair
encloses events pair whole call outer opens =
    let first : AreEntries (take pair.entry events) (call ∷ outer) = subst (AreEntries (take pair.entry events)) opens (entries_before events pair.entry) in
    let size : length (take pair.entry events) ≡ pair.entry = length-take-le pair.entry events (omega (arith, whole.rises, whole.within)) in
    record {
      earlier = omega (arith, size, first.0);
      entry = ap (λ (x : Event). enters x.kind) (sym (event_less events call.entry pair.entry first.0)) ∙ first.1;
      begins = ap (is_open_at call.entry) opens ∙ ap (λ (b : Bool). b || is_open_at call.entry outer) (eq-eqb call.entry call.entry refl);
      ends = outside events pair whole (from_innermost pair.func (open_before events pair.exit)) refl call outer opens;
    }

-- ---- all pairs

-- by the calls that are open just before the entry
abbrev HasParentIn : List ThreadEvent → ℕ → Pair → List Call → Type 0
HasParentIn h thread pair outer =
    MatchOption (option_map (event_number_at h thread) (innermost_entry outer)) (outer ≡ [])
    (λ parent. (at : ℕ) × (event_number_at h thread at ≡ parent) × Encloses (reverse (history_of_thread thread h)) at pair)

has_its_parent : (h : List ThreadEvent) (thread : ℕ) (pair : Pair) → IsWholeCall (reverse (history_of_thread thread h)) pair → HasItsParent h (thread_pair thread pair)
has_its_parent h thread pair whole =
    let own = reverse (history_of_thread thread h) in by_outer (open_before own pair.entry) refl
  where
    by_outer : (outer : List Call) → open_before (reverse (history_of_thread thread h)) pair.entry ≡ outer → HasParentIn h thread pair outer
    by_outer [] is = refl
    by_outer (call ∷ outer) is = (call.entry, refl, encloses (reverse (history_of_thread thread h)) pair whole call outer is)

each_at : {X : Type 0} (P : X → Type 0) (xs : List X) → Each P xs → All P xs
each_at P [] each = λ i d low. absurd (omega (arith, low))
each_at P (x ∷ xs) each = All-cons P x xs each.0 (each_at P xs each.1)

pub parents : AllWhole → (h : List ThreadEvent) → All (HasItsParent h) (pairs_after h)
parents whole h = each_at (HasItsParent h) (pairs_after h) (of_threads (HasItsParent h) (pairs_after h) of_thread)
  where
    of_thread : (thread : ℕ) → Each (λ (pair : Pair). HasItsParent h (thread_pair thread pair)) (pairs_of_thread thread (pairs_after h))
    of_thread thread =
        let own = history_of_thread thread h in
        let all : All (IsWholeCall (reverse own)) (pairs_in own) =
        subst (λ (es : List Event). All (IsWholeCall (reverse own)) (pairs_in es)) (reverse-reverse own) (whole (reverse own)) in
        subst (Each (λ (pair : Pair). HasItsParent h (thread_pair thread pair))) (sym (of_thread-pairs thread h))
        (each_more (IsWholeCall (reverse own)) (λ (pair : Pair). HasItsParent h (thread_pair thread pair)) (pairs_in own) (has_its_parent h thread)
        (each_of_all (IsWholeCall (reverse own)) (pairs_in own) all))
