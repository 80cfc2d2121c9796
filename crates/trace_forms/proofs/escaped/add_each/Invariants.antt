use Rattle.std.proofs.Common.{Ok, take}
use Rattle.json.specs.Print.{escape}
use Rattle.xray_io.specs.Text.{AddsText}
use Rattle.trace_forms.proofs.escaped.add_each.Given as goal

abbrev pub invariant-escaping : goal.invariant-escaping
invariant-escaping g l =
    AddsText g.S.Sink.written g.S.Sink.faults g.S.Sink.along l.fn.text l.text (escape (take l.byte-index l.bytes)) (Ok tt)
