use Rattle.std.proofs.Common.{◌≡◌, ◌++◌, take, reverse}
use Rattle.asm_text.specs.private.Laying.{placed_in, next_places}
use Rattle.asm_text.proofs.TargetLemmas.{next_before}
use Rattle.asm_text.proofs.targets.targets.Given as goal

-- the places for the lines from i on are found, last first
abbrev pub invariant-loop-i : goal.invariant-loop-i
invariant-loop-i l = next_places (placed_in l.laid) ≡ next_before l.next (take l.i (placed_in l.laid)) ++ reverse l.targets.items
