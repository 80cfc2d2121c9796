-- How one more event changes the open calls of a thread, with their paths and times, and its pairs.
use Rattle.std.proofs.Common.{◌≡◌, ◌+◌, ◌++◌, ◌<◌, ◌∙◌, ℕ, Bool, true, false, cond, List, [], ◌∷◌, length, map, reverse, refl, ap, sym, arith, nat_eq}
use Rattle.std.specs.Option.{option_to_list}
use Rattle.std.proofs.lemmas.Bool.{eq-eqb}
use Rattle.std.proofs.lemmas.Bool.Decides.{nat_tests}
use Rattle.std.proofs.lemmas.List.{append-nil, map-append, reverse-reverse}
use Rattle.fdr_record.specs.declared.event.Event.{Event}
use Rattle.fdr_record.specs.declared.event.Kind.{Kind}
use Rattle.fdr_record.specs.declared.event.Kind.TheVariants.{Entry, Exit, TailExit, EntryArgs}
use Rattle.stack_rebuild.specs.declared.call.Call.{Call}
use Rattle.stack_rebuild.specs.declared.call.Pair.{Pair}
use Rattle.stack_rebuild.specs.Calls.{cycles_between, from_innermost, left_open, open_after_kind, open_calls, pair_at, pairs_in}
use Rattle.stack_rebuild.specs.OpenPaths.{OpenPath, Stacked, innermost_path, next_by_kind, next_stacked, open_from, open_paths, opened_by, stacked_after, stacked_closing, with_spent}
use Rattle.stack_rebuild.specs.Stacks.{Timed, is_innermost, path_of, spent_in, timed, timed_pairs}
use Rattle.stack_rebuild.specs.private.Scanning.{timed_now}
use Rattle.stack_rebuild.proofs.NestedCalls.{AllBefore, Nested, ended_by, nested_ended, nested_history, one_more}
use Rattle.stack_rebuild.proofs.SpentTimes.{adds, made, path_of-cons, spent_at_end, spent_more, timed_new, timed_still}

-- an open call in which this much was spent
abbrev opened : Call → List Call → ℕ → OpenPath
opened call outer spent = record { func = call.func; path = path_of (call ∷ outer); tsc = call.tsc; spent = spent }

abbrev stacked_with : List OpenPath → List Timed → Stacked
stacked_with calls pairs = record { calls = calls; pairs = pairs }

-- a thread after a history
abbrev stacked_at : List Event → Stacked
stacked_at h = stacked_with (open_paths (reverse h) (open_calls h)) (timed_pairs (reverse h))

-- ---- open calls

innermost_is : (events : List Event) (calls : List Call) → innermost_path (open_paths events calls) ≡ path_of calls
innermost_is events [] = refl
innermost_is events (call ∷ outer) = refl

open_from-calls : (events : List Event) (func : ℕ) (calls : List Call) → open_from func (open_paths events calls) ≡ open_paths events (from_innermost func calls)
open_from-calls events func [] = refl
open_from-calls events func (call ∷ outer) = by_func (nat_eq call.func func) (open_from-calls events func outer)
  where
    by_func : (b : Bool) → open_from func (open_paths events outer) ≡ open_paths events (from_innermost func outer)
        → cond b (open_paths events (call ∷ outer)) (open_from func (open_paths events outer)) ≡ open_paths events (cond b (call ∷ outer) (from_innermost func outer))
    by_func true later = refl
    by_func false later = later

-- as much was spent in each call as before
same_open : (events events' : List Event) (calls : List Call) → ((at : ℕ) → spent_in events' at ≡ spent_in events at) → open_paths events' calls ≡ open_paths events calls
same_open events events' [] same = refl
same_open events events' (call ∷ outer) same =
    ap (λ (n : ℕ). opened call outer n ∷ open_paths events' outer) (same call.entry)
    ∙ ap (λ (l : List OpenPath). opened call outer (spent_in events call.entry) ∷ l) (same_open events events' outer same)

-- more was spent only in a call with a later entry
lower_open : (duration first : ℕ) (events events' : List Event) (calls : List Call) → AllBefore first calls
    → ((at : ℕ) → spent_in events' at ≡ spent_in events at + cond (nat_eq first at) duration 0) → open_paths events' calls ≡ open_paths events calls
lower_open duration first events events' [] low spent = refl
lower_open duration first events events' (call ∷ outer) low spent =
    let apart : nat_eq first call.entry ≡ false = let below : call.entry < first = low.0 in grind (arith, nat_tests) in
    let own : spent_in events' call.entry ≡ spent_in events call.entry =
    omega (arith, spent call.entry, ap {B = ℕ} (λ b. cond b duration 0) apart) in
    ap (λ (n : ℕ). opened call outer n ∷ open_paths events' outer) own
    ∙ ap (λ (l : List OpenPath). opened call outer (spent_in events call.entry) ∷ l) (lower_open duration first events events' outer low.1 spent)

-- more was spent only in the innermost call
closing : (duration : ℕ) (events events' : List Event) (outer : List Call) → Nested events outer
    → ((at : ℕ) → spent_in events' at ≡ spent_in events at + cond (is_innermost at outer) duration 0)
    → open_paths events' outer ≡ with_spent duration (open_paths events outer)
closing duration events events' [] nested spent = refl
closing duration events events' (call ∷ outer) nested spent =
    let own : spent_in events' call.entry ≡ spent_in events call.entry + duration =
    omega (arith, spent call.entry, ap {B = ℕ} (λ b. cond b duration 0) (eq-eqb call.entry call.entry refl)) in
    ap (λ (n : ℕ). opened call outer n ∷ open_paths events' outer) own
    ∙ ap (λ (l : List OpenPath). opened call outer (spent_in events call.entry + duration) ∷ l)
    (lower_open duration call.entry events events' outer nested.1 spent)

-- ---- pairs

timed_more : (e : Event) (h : List Event) → timed_pairs (reverse (e ∷ h)) ≡ timed_pairs (reverse h) ++ made e h (ended_by e.kind e.func (open_calls h))
timed_more e h =
    let new = option_to_list (pair_at e (length h) (open_calls h)) in
    ap (λ (ps : List Pair). map (timed (reverse (e ∷ h))) ps) (ap pairs_in (reverse-reverse (e ∷ h)))
    ∙ (map-append (timed (reverse (e ∷ h))) (pairs_in h) new
    ∙ (ap (λ (ts : List Timed). ts ++ timed_now e h)
    (timed_still e h ∙ ap (λ (ps : List Pair). map (timed (reverse h)) ps) (sym (ap pairs_in (reverse-reverse h))))
    ∙ ap (λ (ts : List Timed). timed_pairs (reverse h) ++ ts) (timed_new e h)))

-- ---- both

-- what one more event adds to what was spent in a call
spent_now : (k : Kind) (e : Event) (h : List Event) → e.kind ≡ k → (at : ℕ)
    → spent_in (reverse (e ∷ h)) at ≡ spent_in (reverse h) at + adds e at (ended_by k e.func (open_calls h))
spent_now k e h is at =
    spent_more e h at (nested_ended (reverse h) e.kind e.func (open_calls h) (nested_history h).nested)
    ∙ ap (λ (kind : Kind). spent_in (reverse h) at + adds e at (ended_by kind e.func (open_calls h))) is

-- an entry
entering : (e : Event) (h : List Event) → ((at : ℕ) → spent_in (reverse (e ∷ h)) at ≡ spent_in (reverse h) at)
    → stacked_with (open_paths (reverse (e ∷ h)) (record { entry = length h; func = e.func; tsc = e.tsc } ∷ open_calls h)) (timed_pairs (reverse h) ++ [])
    ≡ stacked_with (opened_by e (open_paths (reverse h) (open_calls h)) ∷ open_paths (reverse h) (open_calls h)) (timed_pairs (reverse h))
entering e h same =
    let calls = open_calls h in
    let before = open_paths (reverse h) calls in
    let call : Call = record { entry = length h; func = e.func; tsc = e.tsc } in
    let spent : spent_in (reverse (e ∷ h)) (length h) ≡ 0 = same (length h) ∙ spent_at_end h in
    let path : path_of (call ∷ calls) ≡ innermost_path before ++ e.func ∷ [] =
    path_of-cons call calls ∙ ap (λ (p : List ℕ). p ++ e.func ∷ []) (sym (innermost_is (reverse h) calls)) in
    let first : opened call calls (spent_in (reverse (e ∷ h)) (length h)) ≡ opened_by e before =
    ap (opened call calls) spent
    ∙ ap (λ (p : List ℕ). let o : OpenPath = record { func = e.func; path = p; tsc = e.tsc; spent = 0 } in o) path in
    ap (λ (o : OpenPath). stacked_with (o ∷ open_paths (reverse (e ∷ h)) calls) (timed_pairs (reverse h) ++ [])) first
    ∙ (ap (λ (l : List OpenPath). stacked_with (opened_by e before ∷ l) (timed_pairs (reverse h) ++ [])) (same_open (reverse h) (reverse (e ∷ h)) calls same)
    ∙ ap (λ (ps : List Timed). stacked_with (opened_by e before ∷ before) ps) (append-nil (timed_pairs (reverse h))))

-- an exit that ends these calls, or none
leaving : (e : Event) (h : List Event) (found : List Call) → Nested (reverse h) found
    → ((at : ℕ) → spent_in (reverse (e ∷ h)) at ≡ spent_in (reverse h) at + adds e at found)
    → stacked_with (open_paths (reverse (e ∷ h)) (left_open (open_calls h) found)) (timed_pairs (reverse h) ++ made e h found)
    ≡ stacked_closing e (stacked_at h) (open_paths (reverse h) found)
leaving e h [] nested spent =
    ap (λ (l : List OpenPath). stacked_with l (timed_pairs (reverse h) ++ []))
    (same_open (reverse h) (reverse (e ∷ h)) (open_calls h) (λ at. omega (arith, spent at)))
    ∙ ap (λ (ps : List Timed). stacked_with (open_paths (reverse h) (open_calls h)) ps) (append-nil (timed_pairs (reverse h)))
leaving e h (ended ∷ outer) nested spent =
    ap (λ (l : List OpenPath). stacked_with l (timed_pairs (reverse h) ++ made e h (ended ∷ outer)))
    (closing (cycles_between ended.tsc e.tsc) (reverse h) (reverse (e ∷ h)) outer nested.3 spent)

-- a thread after one more event, by its kind
abbrev after_kind : Kind → Event → List Event → Stacked
after_kind k e h = stacked_with (open_paths (reverse (e ∷ h)) (open_after_kind k e (length h) (open_calls h))) (timed_pairs (reverse h) ++ made e h (ended_by k e.func (open_calls h)))

goes_on_at : (k : Kind) (e : Event) (h : List Event) → e.kind ≡ k → after_kind k e h ≡ next_by_kind k e (stacked_at h)
goes_on_at Entry e h is = entering e h (λ at. omega (arith, spent_now Entry e h is at))
goes_on_at EntryArgs e h is = entering e h (λ at. omega (arith, spent_now EntryArgs e h is at))
goes_on_at Exit e h is =
    leaving e h (from_innermost e.func (open_calls h)) (nested_ended (reverse h) Exit e.func (open_calls h) (nested_history h).nested) (spent_now Exit e h is)
    ∙ ap (stacked_closing e (stacked_at h)) (sym (open_from-calls (reverse h) e.func (open_calls h)))
goes_on_at TailExit e h is =
    leaving e h (from_innermost e.func (open_calls h)) (nested_ended (reverse h) TailExit e.func (open_calls h) (nested_history h).nested) (spent_now TailExit e h is)
    ∙ ap (stacked_closing e (stacked_at h)) (sym (open_from-calls (reverse h) e.func (open_calls h)))

pub goes_on : (events : List Event) (e : Event) → stacked_after (events ++ e ∷ []) ≡ next_stacked e (stacked_after events)
goes_on events e =
    let h = reverse events in
    let now : events ++ e ∷ [] ≡ reverse (e ∷ h) = ap (λ (es : List Event). es ++ e ∷ []) (sym (reverse-reverse events)) ∙ sym (one_more e h) in
    let calls : open_calls (reverse (reverse (e ∷ h))) ≡ open_after_kind e.kind e (length h) (open_calls h) = ap open_calls (reverse-reverse (e ∷ h)) in
    ap stacked_after now
    ∙ (ap (λ (cs : List Call). stacked_with (open_paths (reverse (e ∷ h)) cs) (timed_pairs (reverse (e ∷ h)))) calls
    ∙ (ap (λ (ts : List Timed). stacked_with (open_paths (reverse (e ∷ h)) (open_after_kind e.kind e (length h) (open_calls h))) ts) (timed_more e h)
    ∙ (goes_on_at e.kind e h refl
    ∙ ap (next_stacked e) (ap (λ (es : List Event). stacked_with (open_paths es (open_calls h)) (timed_pairs es)) (reverse-reverse events)))))
