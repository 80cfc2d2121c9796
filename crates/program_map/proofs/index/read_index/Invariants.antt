use Rattle.std.proofs.Common.{◌≡◌, ◌-◌, ◌/◌, ◌≤◌, length}
use Rattle.std.specs.List.{range_with_len}
use Rattle.xray_io.specs.Rows.{InTurn}
use Rattle.program_map.specs.Numbering.{index_rows, index_sleds}
use Rattle.program_map.specs.private.Views.{parts_held}
use Rattle.program_map.proofs.index.read_index.Given as goal

abbrev pub invariant-loop-number : goal.invariant-loop-number
invariant-loop-number l =
    (length l.numbered.items ≤ length l.sleds)
    × (index_sleds (parts_held l.parts) l.index l.table l.sleds
    ≡ InTurn (index_rows (parts_held l.parts) l.index l.table l.sleds) l.numbered.items (range_with_len l.number (length l.table / 16 - l.number)))
