-- What one more event of a thread adds to its pairs, and to what was spent in its calls.
use Rattle.std.proofs.Common.{◌≡◌, ◌+◌, ◌-◌, ◌++◌, ◌≤◌, ◌∙◌, ℕ, false, cond, List, [], ◌∷◌, length, map, reverse, take, refl, ap, sym, subst, arith, Option, sum_by}
use Rattle.std.specs.Option.{option_to_list}
use Rattle.std.proofs.lemmas.List.{length-reverse, length-take-le, reverse-append, reverse-reverse}
use Rattle.std.proofs.lemmas.List.Sums.{sum_by-append, sum_by-cons}
use Rattle.fdr_record.specs.declared.event.Event.{Event}
use Rattle.stack_rebuild.specs.declared.call.Call.{Call}
use Rattle.stack_rebuild.specs.declared.call.Pair.{Pair}
use Rattle.stack_rebuild.specs.Calls.{cycles_between, open_calls, pair_of_call, pairs_in, pairs_of}
use Rattle.stack_rebuild.specs.Stacks.{Timed, is_innermost, open_before, pair_path, path_of, spent_in, timed}
use Rattle.stack_rebuild.specs.private.Scanning.{timed_now}
use Rattle.stack_rebuild.proofs.NestedCalls.{AllBefore, AllEnded, Nested, NoneAt, before_less, ended_by, func_ended, nested_before, nested_ended, nested_history, none_before, none_ended, one_more, open_kept, pair_by}

-- what a pair adds to what was spent in the call with its entry at a position
abbrev share : List Event → ℕ → Pair → ℕ
share events at pair = cond (is_innermost at (open_before events pair.entry)) pair.duration 0

-- what the end of a call adds to that
abbrev pub adds : Event → ℕ → List Call → ℕ
adds e at [] = 0
adds e at (ended ∷ outer) = cond (is_innermost at outer) (cycles_between ended.tsc e.tsc) 0

-- the pair that the end of a call makes
abbrev pub made : Event → List Event → List Call → List Timed
made e history [] = []
made e history (ended ∷ outer) = record {
  path = path_of (ended ∷ outer);
  duration = cycles_between ended.tsc e.tsc;
  own = cycles_between ended.tsc e.tsc - spent_in (reverse history) ended.entry;
} ∷ []

pairs_more : (e : Event) (history : List Event)
    → pairs_of (reverse (e ∷ history)) ≡ pairs_in history ++ option_to_list (pair_of_call e (length history) (ended_by e.kind e.func (open_calls history)))
pairs_more e history =
    ap pairs_in (reverse-reverse (e ∷ history))
    ∙ ap (λ (o : Option Pair). pairs_in history ++ option_to_list o) (pair_by e.kind e (length history) (open_calls history))

pairs_same : (history : List Event) → pairs_of (reverse history) ≡ pairs_in history
pairs_same history = ap pairs_in (reverse-reverse history)

shares_kept : (events : List Event) (e : Event) (at end : ℕ) (calls : List Call) (pairs : List Pair) → end ≤ length events → AllEnded end calls pairs
    → sum_by (share (events ++ e ∷ []) at) pairs ≡ sum_by (share events at) pairs
shares_kept events e at end calls [] low all = refl
shares_kept events e at end calls (pair ∷ pairs) low all =
    let one : share (events ++ e ∷ []) at pair ≡ share events at pair =
    ap (λ (cs : List Call). cond (is_innermost at cs) pair.duration 0) (open_kept events e pair.entry (omega (arith, all.0))) in
    omega (arith, one, shares_kept events e at end calls pairs low all.2, sum_by-cons (share (events ++ e ∷ []) at) pair pairs, sum_by-cons (share events at) pair pairs)

share_made : (events : List Event) (e : Event) (at size : ℕ) (calls : List Call) → Nested events calls
    → sum_by (share (events ++ e ∷ []) at) (option_to_list (pair_of_call e size calls)) ≡ adds e at calls
share_made events e at size [] nested = refl
share_made events e at size (ended ∷ outer) nested =
    let pair : Pair = record { func = e.func; entry = ended.entry; exit = size; duration = cycles_between ended.tsc e.tsc } in
    let one : share (events ++ e ∷ []) at pair ≡ adds e at (ended ∷ outer) =
    ap (λ (cs : List Call). cond (is_innermost at cs) (cycles_between ended.tsc e.tsc) 0)
    (open_kept events e ended.entry (omega (arith, nested.0)) ∙ sym nested.2) in
    omega (arith, one, sum_by-cons (share (events ++ e ∷ []) at) pair [])

-- what one more event adds to what was spent in a call
pub spent_more : (e : Event) (history : List Event) (at : ℕ) → Nested (reverse history) (ended_by e.kind e.func (open_calls history))
    → spent_in (reverse (e ∷ history)) at ≡ spent_in (reverse history) at + adds e at (ended_by e.kind e.func (open_calls history))
spent_more e history at nested =
    let events = reverse history in
    let calls = ended_by e.kind e.func (open_calls history) in
    let new = option_to_list (pair_of_call e (length history) calls) in
    ap (λ (es : List Event). sum_by (share es at) (pairs_of (reverse (e ∷ history)))) (one_more e history)
    ∙ (ap (sum_by (share (events ++ e ∷ []) at)) (pairs_more e history)
    ∙ (let split : sum_by (share (events ++ e ∷ []) at) (pairs_in history ++ new) ≡ sum_by (share events at) (pairs_in history) + adds e at calls =
    omega (
      arith,
      sum_by-append (share (events ++ e ∷ []) at) (pairs_in history) new,
      share_made events e at (length history) calls nested,
      shares_kept events e at (length history) (open_calls history) (pairs_in history) (omega (arith, length-reverse history)) (nested_history history).ended,
    ) in
    split ∙ ap (λ (ps : List Pair). sum_by (share events at) ps + adds e at calls) (sym (pairs_same history))))

not_innermost : (at : ℕ) (calls : List Call) → NoneAt at calls → is_innermost at calls ≡ false
not_innermost at [] none = refl
not_innermost at (call ∷ outer) none = none.0

-- the end of a call adds nothing to a call that isn't open
pub adds_none : (e : Event) (at : ℕ) (calls : List Call) → NoneAt at calls → adds e at calls ≡ 0
adds_none e at [] none = refl
adds_none e at (ended ∷ outer) none = ap (λ b. cond b (cycles_between ended.tsc e.tsc) 0) (not_innermost at outer none.1)

-- nor to that call itself
pub adds_itself : (e : Event) (events : List Event) (ended : Call) (outer : List Call) → Nested events (ended ∷ outer) → adds e ended.entry (ended ∷ outer) ≡ 0
adds_itself e events ended outer nested =
    ap (λ b. cond b (cycles_between ended.tsc e.tsc) 0) (not_innermost ended.entry outer (none_before ended.entry outer nested.1))

open_low : (events : List Event) (at : ℕ) → at ≤ length events → AllBefore at (open_before events at)
open_low events at low =
    let history = reverse (take at events) in
    before_less (length (reverse history)) at (open_calls history)
    (omega (arith, length-reverse history, length-reverse (take at events), length-take-le at events low))
    (nested_before (reverse history) (open_calls history) (nested_history history).nested)

none_spent : (events : List Event) (end : ℕ) (calls : List Call) (pairs : List Pair) → end ≤ length events → AllEnded end calls pairs
    → sum_by (share events end) pairs ≡ 0
none_spent events end calls [] low all = refl
none_spent events end calls (pair ∷ pairs) low all =
    let one : share events end pair ≡ 0 =
    ap (λ b. cond b pair.duration 0) (not_innermost end (open_before events pair.entry)
    (none_before end (open_before events pair.entry) (before_less pair.entry end (open_before events pair.entry) (omega (arith, all.0))
    (open_low events pair.entry (omega (arith, all.0)))))) in
    omega (arith, one, none_spent events end calls pairs low all.2, sum_by-cons (share events end) pair pairs)

-- nothing was spent in a call before its entry
pub spent_at_end : (history : List Event) → spent_in (reverse history) (length history) ≡ 0
spent_at_end history =
    ap (sum_by (share (reverse history) (length history))) (pairs_same history)
    ∙ none_spent (reverse history) (length history) (open_calls history) (pairs_in history) (omega (arith, length-reverse history)) (nested_history history).ended

-- ---- pairs with their paths

same_timed : (x y : Timed) → x.path ≡ y.path → x.duration ≡ y.duration → x.own ≡ y.own → x ≡ y
same_timed x y p d o =
    ap (λ (n : List ℕ). timed_as n x.duration x.own) p
    ∙ (ap (λ (n : ℕ). timed_as y.path n x.own) d ∙ ap (λ (n : ℕ). timed_as y.path y.duration n) o)
  where
    timed_as : List ℕ → ℕ → ℕ → Timed
    timed_as path duration own = record { path = path; duration = duration; own = own }

-- the pairs before an event are as they were
timed_kept : (e : Event) (history : List Event) (calls : List Call) (pairs : List Pair) → Nested (reverse history) (ended_by e.kind e.func (open_calls history))
    → ((at : ℕ) → NoneAt at calls → NoneAt at (ended_by e.kind e.func (open_calls history))) → AllEnded (length history) calls pairs
    → map (timed (reverse (e ∷ history))) pairs ≡ map (timed (reverse history)) pairs
timed_kept e history calls [] nested none all = refl
timed_kept e history calls (pair ∷ pairs) nested none all =
    let kept : open_before (reverse (e ∷ history)) pair.entry ≡ open_before (reverse history) pair.entry =
    ap (λ (es : List Event). open_before es pair.entry) (one_more e history) ∙ open_kept (reverse history) e pair.entry (omega (arith, all.0, length-reverse history)) in
    let spent : spent_in (reverse (e ∷ history)) pair.entry ≡ spent_in (reverse history) pair.entry =
    omega (arith, spent_more e history pair.entry nested, adds_none e pair.entry (ended_by e.kind e.func (open_calls history)) (none pair.entry all.1)) in
    let one : timed (reverse (e ∷ history)) pair ≡ timed (reverse history) pair =
    same_timed (timed (reverse (e ∷ history)) pair) (timed (reverse history) pair) (ap (λ (cs : List Call). path_of cs ++ pair.func ∷ []) kept) refl
    (ap (λ (n : ℕ). pair.duration - n) spent) in
    ap (λ (t : Timed). t ∷ map (timed (reverse (e ∷ history))) pairs) one
    ∙ ap (λ (ts : List Timed). timed (reverse history) pair ∷ ts) (timed_kept e history calls pairs nested none all.2)

-- the functions of calls; that of the innermost call is the last one
pub path_of-cons : (call : Call) (outer : List Call) → path_of (call ∷ outer) ≡ path_of outer ++ call.func ∷ []
path_of-cons call outer = reverse-append (call.func ∷ []) (map (λ (c : Call). c.func) outer)

-- the pair that an event makes
timed_made : (e : Event) (history : List Event) (calls : List Call) → ended_by e.kind e.func (open_calls history) ≡ calls → Nested (reverse history) calls
    → ((ended : Call) (outer : List Call) → calls ≡ ended ∷ outer → ended.func ≡ e.func)
    → map (timed (reverse (e ∷ history))) (option_to_list (pair_of_call e (length history) calls)) ≡ made e history calls
timed_made e history [] is nested func = refl
timed_made e history (ended ∷ outer) is nested func =
    let pair : Pair = record { func = e.func; entry = ended.entry; exit = length history; duration = cycles_between ended.tsc e.tsc } in
    let kept : open_before (reverse (e ∷ history)) ended.entry ≡ outer =
    ap (λ (es : List Event). open_before es ended.entry) (one_more e history)
    ∙ (open_kept (reverse history) e ended.entry (omega (arith, nested.0)) ∙ sym nested.2) in
    let more = spent_more e history ended.entry (subst (Nested (reverse history)) (sym is) nested) in
    let spent : spent_in (reverse (e ∷ history)) ended.entry ≡ spent_in (reverse history) ended.entry =
    omega (arith, more, ap (adds e ended.entry) is, adds_itself e (reverse history) ended outer nested) in
    let path : pair_path (reverse (e ∷ history)) pair ≡ path_of (ended ∷ outer) =
    ap (λ (cs : List Call). path_of cs ++ e.func ∷ []) kept
    ∙ (ap (λ (f : ℕ). path_of outer ++ f ∷ []) (sym (func ended outer refl)) ∙ sym (path_of-cons ended outer)) in
    let target : Timed = record {
      path = path_of (ended ∷ outer);
      duration = cycles_between ended.tsc e.tsc;
      own = cycles_between ended.tsc e.tsc - spent_in (reverse history) ended.entry;
    } in
    ap (λ (t : Timed). t ∷ []) (same_timed (timed (reverse (e ∷ history)) pair) target path refl (ap (λ (n : ℕ). cycles_between ended.tsc e.tsc - n) spent))

-- the pairs of a thread stay as they were when one more event comes
pub timed_still : (e : Event) (history : List Event) → map (timed (reverse (e ∷ history))) (pairs_in history) ≡ map (timed (reverse history)) (pairs_in history)
timed_still e history =
    timed_kept e history (open_calls history) (pairs_in history) (nested_ended (reverse history) e.kind e.func (open_calls history) (nested_history history).nested)
    (λ at none. none_ended at e.kind e.func (open_calls history) none) (nested_history history).ended

-- the pair of that event is that of the call that it ends
pub timed_new : (e : Event) (history : List Event) → timed_now e history ≡ made e history (ended_by e.kind e.func (open_calls history))
timed_new e history =
    ap (λ (o : Option Pair). map (timed (reverse (e ∷ history))) (option_to_list o)) (pair_by e.kind e (length history) (open_calls history))
    ∙ timed_made e history (ended_by e.kind e.func (open_calls history)) refl
    (nested_ended (reverse history) e.kind e.func (open_calls history) (nested_history history).nested)
    (λ ended outer is. func_ended e.kind e.func (open_calls history) ended outer is)
