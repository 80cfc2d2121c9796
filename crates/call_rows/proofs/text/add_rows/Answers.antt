use Rattle.std.proofs.Common.{refl}
use Rattle.xray_io.proofs.ItemTexts.{adds_broken, adds_next}
use Rattle.call_rows.specs.CallText.{call_line}
use Rattle.function_names.specs.Name.{naming}
use Rattle.call_rows.proofs.text.add_rows.Goals as goal

pub rows-preserved : goal.rows-preserved
rows-preserved g c =
    adds_next g.met.S.Sink.along_both (call_line c.args.format (naming c.args.names)) c.args.rows.now c.rows.row-index _ _ c.rows-test.true refl
    c.rows.invariant c.in_ok-add_row.ensures

pub returns-in_err-add_row : goal.returns-in_err-add_row
returns-in_err-add_row g c =
    adds_broken g.met.S.Sink.along_both (call_line c.args.format (naming c.args.names)) c.args.rows.now c.rows.row-index _ _ c.rows-test.true refl
    c.rows.invariant c.in_err-add_row.ensures c.from_residual.result c.from_residual.ensures.1
