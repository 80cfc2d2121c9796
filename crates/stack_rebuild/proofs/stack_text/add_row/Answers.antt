use Rattle.std.proofs.Common.{◌++◌, List, ℕ, sym, ap, append_assoc, subst}
use Rattle.xray_io.specs.Text.{AddsText, adds_more, adds_stop, adds_within, adds_failed}
use Rattle.stack_rebuild.specs.Stacks.{told}
use Rattle.stack_rebuild.specs.StackText.{columns_text, path_text, weight_text}
use Rattle.function_names.specs.Name.{naming}
use Rattle.stack_rebuild.proofs.stack_text.add_row.Goals as goal

pub returns-in_err-add_columns : goal.returns-in_err-add_columns
returns-in_err-add_columns g c =
    let row = told c.args.row.now in
    let columns = columns_text c.args.form row in
    let path = path_text (naming c.args.names) row.path in
    let weight = weight_text c.args.form row in
    adds_failed (rw (sym (append_assoc columns path weight)) at (adds_stop (path ++ weight) c.in_err-add_columns.ensures)) c.from_residual.result c.from_residual.ensures.1

pub returns-in_err-add_path : goal.returns-in_err-add_path
returns-in_err-add_path g c =
    let row = told c.args.row.now in
    let names = naming c.args.names in
    let columns = columns_text c.args.form row in
    let weight = weight_text c.args.form row in
    adds_failed (adds_within g.met.S.Sink.along_both weight c.in_ok-add_columns.ensures c.in_err-add_path.ensures
    (ap (λ (path : List ℕ). (columns ++ path_text names path) ++ weight) c.as_slice.ensures.value))
    c.from_residual-in_err-add_path.result c.from_residual-in_err-add_path.ensures.1

pub returns : goal.returns
returns g c =
    let row = told c.args.row.now in
    let names = naming c.args.names in
    let columns = columns_text c.args.form row in
    let weight = weight_text c.args.form row in
    subst (λ (path : List ℕ). AddsText g.S.Sink.written g.S.Sink.faults g.S.Sink.along c.args.text.now c.add_weight.new.text
    ((columns ++ path_text names path) ++ weight) c.add_weight.result) c.as_slice.ensures.value
    (adds_more g.met.S.Sink.along_both (adds_more g.met.S.Sink.along_both c.in_ok-add_columns.ensures c.in_ok-add_path.ensures) c.add_weight.ensures)
