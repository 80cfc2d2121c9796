-- From stop to stop: the turns up to the next place at which loads are left.
use Rattle.std.proofs.Common.{◌≡◌, ℕ, zero, suc, ◌+◌, ◌-◌, ◌<◌, ◌≤◌, List, [], ◌∷◌, ◌++◌, append-nil, append_assoc, refl, sym, ap, ◌∙◌, arith, length, Ok, Err}
use Rattle.std.specs.Prelude.{IfOk, Result, replicate}
use Rattle.std.specs.Borrow.{Bor}
use Rattle.step_sim.specs.declared.turns.Turns.{Turns}
use Rattle.step_sim.specs.declared.turns.Turns.TheVariants.{Patcher}
use Rattle.audit_check.specs.declared.stop.Stop.{Stop}
use Rattle.run_order.specs.declared.lines.ScheduleLines.{ScheduleLines}
use Rattle.run_order.specs.private.Ordered.{joined, turns_at, turns_from}
use Rattle.run_order.specs.private.Lines.{HasJoined}
use Rattle.run_order.specs.private.Stops.{AllFrom, ArePassed, IsUpTo, places_in}
use Rattle.run_order.proofs.PlacesWithoutLoads.{no_turns_from}
use Rattle.run_order.proofs.MergedTurns.{same_turns, stops_left}

-- ---- after a stop

-- after the turns at a place, this many micro steps before the end
abbrev turns_after : List (List ℕ) → ℕ → ℕ → List Turns
turns_after places place zero = []
turns_after places place (suc steps) = Patcher 1 ∷ turns_from places (place + 1) steps

same_from : (steps from : ℕ) (all left : List (List ℕ)) → ((place : ℕ) → from ≤ place → turns_at left place ≡ turns_at all place)
    → turns_from left from steps ≡ turns_from all from steps
same_from zero from all left same = same from (omega arith)
same_from (suc steps) from all left same =
    ap (λ (ls : List Turns). ls ++ Patcher 1 ∷ turns_from left (from + 1) steps) (same from (omega arith))
    ∙ ap (λ (ls : List Turns). turns_at all from ++ Patcher 1 ∷ ls) (same_from steps (from + 1) all left (λ place low. same place (omega (arith, low))))

split_turns : (steps place : ℕ) (all : List (List ℕ)) → turns_from all place steps ≡ turns_at all place ++ turns_after all place steps
split_turns zero place all = sym (append-nil (turns_at all place))
split_turns (suc steps) place all = refl

same_after : (steps place : ℕ) (old new : List (Bor (List Stop))) → ArePassed place (length old) old new → AllFrom place old
    → turns_after (places_in new) place steps ≡ turns_after (places_in old) place steps
same_after zero place old new are stops = refl
same_after (suc steps) place old new are stops =
    ap (λ (ls : List Turns). Patcher 1 ∷ ls)
    (same_from steps (place + 1) (places_in old) (places_in new) (λ other low. same_turns place other 1 old new are stops (omega (arith, low))))

-- where no loads are left at the place
only_after : (steps place : ℕ) (left : List (Bor (List Stop))) → AllFrom (place + 1) left
    → turns_from (places_in left) place steps ≡ turns_after (places_in left) place steps
only_after steps place left all =
    split_turns steps place (places_in left)
    ∙ ap (λ (ls : List Turns). ls ++ turns_after (places_in left) place steps) (no_turns_from place (place + 1) 1 left all (omega arith))

-- ---- up to the next stop

-- before the first place at which loads are left there are micro steps only
idle : (n rest place next : ℕ) (left : List (Bor (List Stop))) → AllFrom next left → place + n ≤ next
    → turns_from (places_in left) place (n + rest) ≡ replicate n (Patcher 1) ++ turns_from (places_in left) (place + n) rest
idle zero rest place next left all low =
    ap (turns_from (places_in left) place) (let e : 0 + rest ≡ rest = omega arith in e)
    ∙ ap (λ p. turns_from (places_in left) p rest) (let e : place ≡ place + 0 = omega arith in e)
idle (suc n) rest place next left all low =
    ap (turns_from (places_in left) place) (let e : suc n + rest ≡ suc (n + rest) = omega arith in e)
    ∙ ap (λ (ls : List Turns). ls ++ Patcher 1 ∷ turns_from (places_in left) (place + 1) (n + rest)) (no_turns_from place next 1 left all (omega (arith, low)))
    ∙ ap (λ (ls : List Turns). Patcher 1 ∷ ls) (idle n rest (place + 1) next left all (omega (arith, low)))
    ∙ ap (λ p. Patcher 1 ∷ (replicate n (Patcher 1) ++ turns_from (places_in left) p rest)) (let e : place + 1 + n ≡ place + suc n = omega arith in e)

pub up_to_next : (start place next total : ℕ) (all : List (List ℕ)) (old new : List (Bor (List Stop))) (before mid lines : ScheduleLines)
    → start ≤ place → place ≤ next → next ≤ total → IsUpTo start place total all old before → AllFrom next old
    → ((turns : List Turns) → HasJoined turns before → HasJoined (turns ++ replicate (next - place) (Patcher 1)) mid) → mid.steps ≡ before.steps + (next - place)
    → ArePassed next (length old) old new
    → ((turns : List Turns) → HasJoined turns mid → HasJoined (turns ++ turns_at (places_in old) next) lines) → lines.steps ≤ mid.steps
    → IsUpTo start next total all new lines
up_to_next start place next total all old new before mid lines low after high up stops stepped count are added steps =
    let n : ℕ = next - place in
    let rest : ℕ = total - next in
    let begin : List Turns = replicate n (Patcher 1) in
    let here : List Turns = turns_at (places_in old) next in
    let remain : turns_from (places_in new) next rest ≡ turns_after (places_in old) next rest =
    only_after rest next new (stops_left next old new are stops) ∙ same_after rest next old new are stops in
    let following : turns_from (places_in old) place (total - place) ≡ begin ++ (here ++ turns_after (places_in old) next rest) =
    ap (turns_from (places_in old) place) (let e : total - place ≡ n + rest = omega (arith, after, high) in e)
    ∙ idle n rest place next old stops (omega (arith, after))
    ∙ ap (λ p. begin ++ turns_from (places_in old) p rest) (let e : place + n ≡ next = omega (arith, after) in e)
    ∙ ap (λ (ls : List Turns). begin ++ ls) (split_turns rest next (places_in old)) in
    record {
      turns = (up.turns ++ begin) ++ here;
      joined = added (up.turns ++ begin) (stepped up.turns up.joined);
      whole =
          ap (λ (ls : List Turns). ((up.turns ++ begin) ++ here) ++ ls) remain
          ∙ append_assoc (up.turns ++ begin) here (turns_after (places_in old) next rest)
          ∙ append_assoc up.turns begin (here ++ turns_after (places_in old) next rest)
          ∙ ap (λ (ls : List Turns). up.turns ++ ls) (sym following) ∙ up.whole;
      steps = let e : lines.steps ≤ next - start = omega (arith, steps, count, up.steps, low, after) in e;
    }

-- after the last stop
pub up_to_last : (start place next total : ℕ) (all : List (List ℕ)) (left : List (Bor (List Stop))) (lines : ScheduleLines) (up : IsUpTo start place total all left lines)
    → AllFrom next left → place ≤ total → total < next → up.turns ++ replicate (total - place) (Patcher 1) ≡ turns_from all start (total - start)
up_to_last start place next total all left lines up stops low past =
    let n : ℕ = total - place in
    let rest : turns_from (places_in left) place n ≡ replicate n (Patcher 1) =
    ap (turns_from (places_in left) place) (let e : n ≡ n + 0 = omega arith in e) ∙ idle n 0 place next left stops (omega (arith, low, past))
    ∙ ap (λ (ls : List Turns). replicate n (Patcher 1) ++ ls) (no_turns_from (place + n) next 1 left stops (omega (arith, low, past)))
    ∙ append-nil (replicate n (Patcher 1)) in
    ap (λ (ls : List Turns). up.turns ++ ls) (sym rest) ∙ up.whole

-- the lines of the schedule are those of all turns
pub lines_are : {V E : Type 0} (items : V → List Turns) (result : Result V E) (turns all : List Turns) (lines : ScheduleLines) → HasJoined turns lines → turns ≡ all
    → IfOk result (λ v. (ts : List Turns) → HasJoined ts lines → items v ≡ joined ts) → IfOk result (λ v. items v ≡ joined all)
lines_are items (Ok v) turns all lines are same each = each turns are ∙ ap joined same
lines_are items (Err e) turns all lines are same each = tt
