use Rattle.std.proofs.Common.{Ok, take}
use Rattle.std.specs.List.{flat_map}
use Rattle.xray_io.specs.Text.{AddsText}
use Rattle.account_report.specs.AccountText.{function_row_text}
use Rattle.function_names.specs.Name.{naming}
use Rattle.account_report.proofs.text.add_rows.Given as goal

abbrev pub invariant-rows : goal.invariant-rows
invariant-rows g l =
    AddsText g.S.Sink.written g.S.Sink.faults g.S.Sink.along l.fn.text l.text
    (flat_map (function_row_text l.format (naming l.names)) (take l.row-index l.rows)) (Ok tt)
