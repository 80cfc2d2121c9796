use Rattle.std.proofs.Common.{◌≡◌, drop}
use Rattle.asm_text.specs.Layout.{base_of}
use Rattle.asm_text.specs.private.Laying.{placed_in, lines_of}
use Rattle.asm_text.proofs.write.base_of.Given as goal

abbrev pub invariant-loop-line : goal.invariant-loop-line
invariant-loop-line l = base_of (lines_of (placed_in l.lines)) ≡ base_of (lines_of (placed_in (drop l.line-index l.lines)))
