use Rattle.std.proofs.Common.{◌≡◌, ◌-◌, ◌/◌, length}
use Rattle.std.specs.List.{range_with_len}
use Rattle.xray_io.specs.Rows.{InTurn}
use Rattle.elf_file.specs.Views.{settings_held}
use Rattle.program_map.specs.Sleds.{map_sleds, map_entry_rows}
use Rattle.program_map.proofs.sleds.read_sleds.Given as goal

abbrev pub invariant-loop-number : goal.invariant-loop-number
invariant-loop-number l =
    (length l.sleds.items ≡ l.number)
    × (map_sleds (settings_held l.addends) l.section l.table
    ≡ InTurn (map_entry_rows (settings_held l.addends) l.section l.table) l.sleds.items (range_with_len l.number (length l.table / 32 - l.number)))
