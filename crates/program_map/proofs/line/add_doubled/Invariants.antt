use Rattle.std.proofs.Common.{Ok, take}
use Rattle.std.specs.List.{flat_map}
use Rattle.xray_io.specs.Text.{AddsText}
use Rattle.map_names.specs.Spelling.{single_byte}
use Rattle.program_map.proofs.line.add_doubled.Given as goal

abbrev pub invariant-loop-byte : goal.invariant-loop-byte
invariant-loop-byte g l =
    AddsText g.S.Sink.written g.S.Sink.faults g.S.Sink.along l.fn.to l.to (flat_map single_byte (take l.byte-index l.name)) (Ok tt)
