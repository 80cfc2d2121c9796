use Rattle.std.proofs.Common.{Ok, take}
use Rattle.std.specs.List.{flat_map}
use Rattle.xray_io.specs.Text.{AddsText}
use Rattle.elf_file.specs.Views.{names_held}
use Rattle.program_map.specs.MapText.{map_line}
use Rattle.program_map.specs.private.MapLines.{IsKnownName}
use Rattle.program_map.proofs.line.add_sleds.Given as goal

abbrev pub invariant-loop-sled : goal.invariant-loop-sled
invariant-loop-sled g l =
    AddsText g.S.Sink.written g.S.Sink.faults g.S.Sink.along l.fn.to l.to (flat_map (map_line (names_held l.names)) (take l.sled-index l.sleds)) (Ok tt)
    × IsKnownName (names_held l.names) l.known
