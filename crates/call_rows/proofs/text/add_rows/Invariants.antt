use Rattle.std.proofs.Common.{Ok, take}
use Rattle.std.specs.List.{flat_map}
use Rattle.xray_io.specs.Text.{AddsText}
use Rattle.call_rows.specs.CallText.{call_line}
use Rattle.function_names.specs.Name.{naming}
use Rattle.call_rows.proofs.text.add_rows.Given as goal

abbrev pub invariant-rows : goal.invariant-rows
invariant-rows g l =
    AddsText g.S.Sink.written g.S.Sink.faults g.S.Sink.along l.fn.text l.text
    (flat_map (call_line l.format (naming l.names)) (take l.row-index l.rows)) (Ok tt)
