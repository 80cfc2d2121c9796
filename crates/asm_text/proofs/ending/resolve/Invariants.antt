use Rattle.std.proofs.Common.{◌≡◌, drop}
use Rattle.asm_text.specs.Refusals.{resolved}
use Rattle.asm_text.specs.private.Laying.{lines_of, placed_in}
use Rattle.asm_text.proofs.ending.resolve.Given as goal

abbrev pub invariant-loop-i : goal.invariant-loop-i
invariant-loop-i l = let lines = lines_of (placed_in l.laid) in resolved lines lines ≡ resolved lines (lines_of (placed_in (drop l.i l.laid)))
