-- The turns of an order are of its threads and of the patcher.
use Rattle.std.proofs.Common.{ℕ, zero, suc, ◌+◌, ◌-◌, ◌≤◌, List, [], ◌∷◌, arith, length}
use Rattle.std.specs.Prelude.{All, count_by, ◌==◌}
use Rattle.std.specs.List.{enumerate_from, flat_map}
use Rattle.std.proofs.lemmas.List.Elements.{All-append, All-cons, All-head, All-nil, All-tail}
use Rattle.step_sim.specs.declared.turns.Turns.{Turns}
use Rattle.step_sim.specs.declared.turns.Turns.TheVariants.{Thread, Patcher}
use Rattle.step_sim.specs.Schedules.{AreTurnsOf}
use Rattle.run_order.specs.private.Ordered.{joined, joined_to, ordered, load_line, turns_at, turns_from}

module _ (threads : ℕ) where
  abbrev AllTurns : List Turns → Type 0
  AllTurns lines = All (AreTurnsOf threads) lines

  line_turns : (thread loads : ℕ) → 1 ≤ thread → thread ≤ threads → AllTurns (load_line thread loads)
  line_turns thread zero some within = All-nil (AreTurnsOf threads)
  line_turns thread (suc loads) some within =
      All-cons (AreTurnsOf threads) (Thread thread (suc loads)) [] (some, within, omega arith) (All-nil (AreTurnsOf threads))

  at_turns : (place number : ℕ) (places : List (List ℕ)) → 1 ≤ number → number + length places ≤ threads + 1
      → AllTurns (flat_map (λ own. load_line own.0 (count_by (λ other. other == place) own.1)) (enumerate_from number places))
  at_turns place number [] some within = All-nil (AreTurnsOf threads)
  at_turns place number (own ∷ places) some within =
      All-append (AreTurnsOf threads) (load_line number (count_by (λ other. other == place) own))
      (flat_map (λ own. load_line own.0 (count_by (λ other. other == place) own.1)) (enumerate_from (number + 1) places))
      (line_turns number (count_by (λ other. other == place) own) some (omega (arith, within)))
      (at_turns place (number + 1) places (omega arith) (omega (arith, within)))

  from_turns : (places : List (List ℕ)) (place steps : ℕ) → length places ≤ threads → AllTurns (turns_from places place steps)
  from_turns places place zero few = at_turns place 1 places (omega arith) (omega (arith, few))
  from_turns places place (suc steps) few =
      let one : 1 ≤ 1 = omega arith in
      All-append (AreTurnsOf threads) (turns_at places place) (Patcher 1 ∷ turns_from places (place + 1) steps)
      (at_turns place 1 places (omega arith) (omega (arith, few)))
      (All-cons (AreTurnsOf threads) (Patcher 1) (turns_from places (place + 1) steps) one (from_turns places (place + 1) steps few))

  joined_to_turns : (line : Turns) (later : List Turns) → AreTurnsOf threads line → AllTurns later → AllTurns (joined_to line later)
  joined_to_turns (Thread thread loads) later own all = All-cons (AreTurnsOf threads) (Thread thread loads) later own all
  joined_to_turns (Patcher steps) [] own all = All-cons (AreTurnsOf threads) (Patcher steps) [] own all
  joined_to_turns (Patcher steps) (Thread thread loads ∷ later) own all =
      All-cons (AreTurnsOf threads) (Patcher steps) (Thread thread loads ∷ later) own all
  joined_to_turns (Patcher steps) (Patcher more ∷ later) own all =
      let some : 1 ≤ steps + more = omega (arith, own) in
      All-cons (AreTurnsOf threads) (Patcher (steps + more)) later some (All-tail (AreTurnsOf threads) (Patcher more) later all)

  joined_turns : (lines : List Turns) → AllTurns lines → AllTurns (joined lines)
  joined_turns [] all = All-nil (AreTurnsOf threads)
  joined_turns (line ∷ lines) all =
      joined_to_turns line (joined lines) (All-head (AreTurnsOf threads) line lines all)
      (joined_turns lines (All-tail (AreTurnsOf threads) line lines all))

  pub ordered_turns : (start total : ℕ) (places : List (List ℕ)) → length places ≤ threads → AllTurns (ordered start total places)
  ordered_turns start total places few = joined_turns (turns_from places start (total - start)) (from_turns places start (total - start) few)
