use Rattle.std.proofs.Common.{◌≡◌}
use Rattle.xray_io.specs.Rows.{InTurn}
use Rattle.text_lines.specs.Lines.{numbered_lines}
use Rattle.map_names.specs.Maps.{Before, Start, map_line_rows}
use Rattle.map_names.specs.private.Drafts.{Stands}
use Rattle.map_names.proofs.reading.read_lines.Given as goal

-- the lines that are left, after what came before them, come to what all lines come to
abbrev pub invariant-lines : goal.invariant-lines
invariant-lines l =
    (before : Before) × Stands l.draft before
    × (InTurn map_line_rows Start (numbered_lines l.text) ≡ InTurn map_line_rows before l.line-iterator)
