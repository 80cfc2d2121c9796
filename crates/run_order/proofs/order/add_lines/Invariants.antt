use Rattle.std.proofs.Common.{Ok, take}
use Rattle.std.specs.List.{flat_map}
use Rattle.xray_io.specs.Text.{AddsText}
use Rattle.run_order.specs.private.Texts.{line_text}
use Rattle.run_order.proofs.order.add_lines.Given as goal

abbrev pub invariant-lines : goal.invariant-lines
invariant-lines g l =
    AddsText g.S.Sink.written g.S.Sink.faults g.S.Sink.along l.fn.to l.to (flat_map line_text (take l.turns-index l.lines)) (Ok tt)
