use Rattle.std.proofs.Common.{◌++◌, sym, refl, append_assoc}
use Rattle.std.specs.Prelude.{codes}
use Rattle.std.specs.List.{flat_map}
use Rattle.xray_io.specs.Text.{adds_more, adds_stop, adds_within, adds_failed}
use Rattle.function_names.specs.Name.{name_text, naming}
use Rattle.account_report.specs.AccountText.{column_text, name_form}
use Rattle.call_rows.specs.CallText.{call_words}
use Rattle.call_rows.proofs.text.add_row.Goals as goal

pub returns-in_err-add_columns : goal.returns-in_err-add_columns
returns-in_err-add_columns g c =
    let columns = flat_map (column_text c.args.format) (call_words c.args.format c.args.row.now) in
    let name = name_text (name_form c.args.format) (naming c.args.names) c.args.row.now.func in
    let broken = adds_stop (name ++ codes "\n") c.in_err-add_columns.ensures in
    adds_failed (rw (sym (append_assoc columns name (codes "\n"))) at broken) c.from_residual.result c.from_residual.ensures.1

pub returns-in_err-add_row_name : goal.returns-in_err-add_row_name
returns-in_err-add_row_name g c =
    adds_failed (adds_within g.met.S.Sink.along_both (codes "\n") c.in_ok-add_columns.ensures c.in_err-add_row_name.ensures refl)
    c.from_residual-in_err-add_row_name.result c.from_residual-in_err-add_row_name.ensures.1

pub returns : goal.returns
returns g c = adds_more g.met.S.Sink.along_both (adds_more g.met.S.Sink.along_both c.in_ok-add_columns.ensures c.in_ok-add_row_name.ensures) c.bytes.ensures.adds
