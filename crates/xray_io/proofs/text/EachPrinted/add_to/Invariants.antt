use Rattle.std.proofs.Common.{Ok, take}
use Rattle.std.specs.List.{flat_map}
use Rattle.xray_io.specs.Text.{AddsText}
use Rattle.xray_io.proofs.text.EachPrinted.add_to.Given as goal

abbrev pub invariant-loop-value : goal.invariant-loop-value
invariant-loop-value g l =
    AddsText g.S.Sink.written g.S.Sink.faults g.S.Sink.along l.fn.to l.to (flat_map g.T.Printed.text (take l.value-index l.fn.self.0.now)) (Ok tt)
