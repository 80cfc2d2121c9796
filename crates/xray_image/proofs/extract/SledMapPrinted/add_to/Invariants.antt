use Rattle.std.proofs.Common.{◌++◌, Ok, take}
use Rattle.std.specs.Prelude.{codes}
use Rattle.std.specs.List.{flat_map}
use Rattle.xray_io.specs.Text.{AddsText}
use Rattle.xray_image.specs.Extract.{sled_line}
use Rattle.xray_image.proofs.extract.SledMapPrinted.add_to.Given as goal

abbrev pub invariant-loop-number : goal.invariant-loop-number
invariant-loop-number g l =
    AddsText g.S.Sink.written g.S.Sink.faults g.S.Sink.along l.fn.to l.to (codes "---\n" ++ flat_map (sled_line l.image) (take l.number l.image.sleds)) (Ok tt)
