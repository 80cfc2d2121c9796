use Rattle.std.proofs.Common.{List, ℕ}
use Rattle.xray_io.proofs.ItemTexts.{adds_broken, adds_next}
use Rattle.stack_rebuild.specs.declared.stack_row.StackRow.{StackRow}
use Rattle.stack_rebuild.specs.Stacks.{told}
use Rattle.stack_rebuild.specs.StackText.{path_row_text}
use Rattle.function_names.specs.Name.{naming}
use Rattle.stack_rebuild.proofs.stack_text.add_rows.Goals as goal

pub rows-preserved : goal.rows-preserved
rows-preserved g c =
    let line : StackRow → List ℕ = λ row. path_row_text c.args.form (naming c.args.names) (told row) in
    adds_next g.met.S.Sink.along_both line c.args.rows.now c.rows.row-index _ c.row-item.result c.rows-test.true c.row-item.is
    c.rows.invariant c.in_ok-add_row.ensures

pub returns-in_err-add_row : goal.returns-in_err-add_row
returns-in_err-add_row g c =
    let line : StackRow → List ℕ = λ row. path_row_text c.args.form (naming c.args.names) (told row) in
    adds_broken g.met.S.Sink.along_both line c.args.rows.now c.rows.row-index _ c.row-item.result c.rows-test.true c.row-item.is
    c.rows.invariant c.in_err-add_row.ensures c.from_residual.result c.from_residual.ensures.1
