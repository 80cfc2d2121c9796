-- What was spent in the open calls, and in the calls of pairs, after one more event.
use Rattle.std.proofs.Common.{◌≡◌, ◌++◌, ◌+◌, ◌∙◌, ℕ, Bool, true, false, cond, List, [], ◌∷◌, map, reverse, refl, ap, sym, nat_eq}
use Rattle.std.proofs.lemmas.List.{reverse-reverse}
use Rattle.fdr_record.specs.declared.event.Event.{Event}
use Rattle.stack_rebuild.specs.declared.call.Call.{Call}
use Rattle.stack_rebuild.specs.Calls.{from_innermost, open_calls, pairs_in, pairs_of}
use Rattle.stack_rebuild.specs.OpenPaths.{OpenPath, Stacked, next_stacked, open_from, open_paths, stacked_after, with_spent}
use Rattle.stack_rebuild.specs.Stacks.{spent_in, timed, timed_pairs}
use Rattle.call_rows.proofs.NestedEntries.{one_more}

-- the law of a thread after one more event
abbrev pub GoesOn : Type 0
GoesOn = (events : List Event) (e : Event) → stacked_after (events ++ e ∷ []) ≡ next_stacked e (stacked_after events)

-- what was spent in calls
abbrev pub spents : List Event → List Call → List ℕ
spents events calls = map (λ call. spent_in events call.entry) calls

-- more was spent in the first of them
abbrev pub add_first : ℕ → List ℕ → List ℕ
add_first duration [] = []
add_first duration (spent ∷ later) = (spent + duration) ∷ later

abbrev pub told_spent : List OpenPath → List ℕ
told_spent calls = map (λ call. call.spent) calls

pub told-paths : (events : List Event) (calls : List Call) → told_spent (open_paths events calls) ≡ spents events calls
told-paths events [] = refl
told-paths events (call ∷ outer) = ap (λ (ns : List ℕ). spent_in events call.entry ∷ ns) (told-paths events outer)

pub told-more : (duration : ℕ) (events : List Event) (outer : List Call) → told_spent (with_spent duration (open_paths events outer)) ≡ add_first duration (spents events outer)
told-more duration events [] = refl
told-more duration events (call ∷ outer) = ap (λ (ns : List ℕ). (spent_in events call.entry + duration) ∷ ns) (told-paths events outer)

pub open_from-calls : (events : List Event) (func : ℕ) (calls : List Call) → open_from func (open_paths events calls) ≡ open_paths events (from_innermost func calls)
open_from-calls events func [] = refl
open_from-calls events func (call ∷ outer) = by_func (nat_eq call.func func) (open_from-calls events func outer)
  where
    by_func : (b : Bool) → open_from func (open_paths events outer) ≡ open_paths events (from_innermost func outer)
        → cond b (open_paths events (call ∷ outer)) (open_from func (open_paths events outer))
        ≡ open_paths events (cond b (call ∷ outer) (from_innermost func outer))
    by_func true later = refl
    by_func false later = later

-- ---- one more event

-- the law, of a history
goes_on : GoesOn → (e : Event) (h : List Event) → stacked_after (reverse h ++ e ∷ []) ≡ next_stacked e (stacked_after (reverse h))
goes_on law e h = law (reverse h) e

pub calls_of_law : GoesOn → (e : Event) (h : List Event)
    → told_spent (next_stacked e (record { calls = open_paths (reverse h) (open_calls h); pairs = timed_pairs (reverse h) })).calls
    ≡ spents (reverse h ++ e ∷ []) (open_calls (e ∷ h))
calls_of_law law e h =
    let es = reverse h ++ e ∷ [] in
    let back : open_calls (reverse es) ≡ open_calls (e ∷ h) = ap (λ (xs : List Event). open_calls (reverse xs)) (sym (one_more e h)) ∙ ap open_calls (reverse-reverse (e ∷ h)) in
    let start : open_calls (reverse (reverse h)) ≡ open_calls h = ap open_calls (reverse-reverse h) in
    ap (λ (cs : List Call). told_spent (next_stacked e (record { calls = open_paths (reverse h) cs; pairs = timed_pairs (reverse h) })).calls) (sym start)
    ∙ (ap (λ (s : Stacked). told_spent s.calls) (sym (goes_on law e h))
    ∙ (told-paths es (open_calls (reverse es)) ∙ ap (spents es) back))

pub pairs_of_law : GoesOn → (e : Event) (h : List Event)
    → (next_stacked e (record { calls = open_paths (reverse h) (open_calls h); pairs = timed_pairs (reverse h) })).pairs
    ≡ map (timed (reverse h ++ e ∷ [])) (pairs_in (e ∷ h))
pairs_of_law law e h =
    let es = reverse h ++ e ∷ [] in
    let back : pairs_of es ≡ pairs_in (e ∷ h) = ap (λ (xs : List Event). pairs_in (reverse xs)) (sym (one_more e h)) ∙ ap pairs_in (reverse-reverse (e ∷ h)) in
    let start : open_calls (reverse (reverse h)) ≡ open_calls h = ap open_calls (reverse-reverse h) in
    ap (λ (cs : List Call). (next_stacked e (record { calls = open_paths (reverse h) cs; pairs = timed_pairs (reverse h) })).pairs) (sym start)
    ∙ (ap (λ (s : Stacked). s.pairs) (sym (goes_on law e h)) ∙ ap (map (timed es)) back)
