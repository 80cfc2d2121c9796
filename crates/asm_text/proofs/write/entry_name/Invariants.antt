use Rattle.std.proofs.Common.{◌≡◌, drop}
use Rattle.std.specs.Prelude.{slice_get}
use Rattle.std.specs.List.{filter_map}
use Rattle.asm_text.specs.Layout.{entry_in_line}
use Rattle.asm_text.specs.private.Laying.{placed_in, lines_of}
use Rattle.asm_text.proofs.write.entry_name.Given as goal

abbrev pub invariant-loop-line : goal.invariant-loop-line
invariant-loop-line l =
    slice_get (filter_map (λ line. entry_in_line line.1) (lines_of (placed_in l.lines))) 0 ≡ slice_get (filter_map (λ line. entry_in_line line.1) (lines_of (placed_in (drop l.line-index l.lines)))) 0
