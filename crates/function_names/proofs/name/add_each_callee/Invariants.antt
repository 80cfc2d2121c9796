use Rattle.std.proofs.Common.{Ok, take}
use Rattle.std.specs.List.{flat_map}
use Rattle.xray_io.specs.Text.{AddsText}
use Rattle.function_names.specs.Name.{callee_text, naming}
use Rattle.function_names.proofs.name.add_each_callee.Given as goal

abbrev pub invariant-callees : goal.invariant-callees
invariant-callees g l =
    AddsText g.S.Sink.written g.S.Sink.faults g.S.Sink.along l.fn.text l.text
    (flat_map (callee_text (naming l.names)) (take l.id-index l.ids)) (Ok tt)
