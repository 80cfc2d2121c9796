use Rattle.std.proofs.Common.{inr, refl}
use Rattle.std.proofs.lemmas.Result.{err_from_is_err_and}
use Rattle.xray_image.specs.private.UnitTable.{units_in}
use Rattle.xray_image.proofs.JudgedRows.{functions_all, functions_row, ascend, order_all, order_row, few_entries, kinds_all, entries_all, entries_row, near_all, near_row, branches_all, branches_row}
use Rattle.xray_image.proofs.image.reading.check_program.Goals as goal

pub returns-in_err-check_functions-clause-refused : goal.returns-in_err-check_functions-clause-refused
returns-in_err-check_functions-clause-refused c =
    let p = err_from_is_err_and c.from_residual.result c.from_residual.ensures.1 in
    rw (p.1, p.2) (functions_row c.args.header.now c.args.parts.now c.args.code.now c.args.index.now c.requires.index c.deref.result.now c.deref.ensures.value _ c.in_err-check_functions.ensures.refused)

pub returns-in_err-check_order-clause-refused : goal.returns-in_err-check_order-clause-refused
returns-in_err-check_order-clause-refused c =
    let functions = functions_all c.args.header.now c.args.parts.now c.args.code.now c.args.index.now c.requires.index c.deref.result.now c.deref.ensures.value c.in_ok-check_functions.ensures.fit in
    let p = err_from_is_err_and c.from_residual-in_err-check_order.result c.from_residual-in_err-check_order.ensures.1 in
    rw (p.1, p.2) (inr (order_row c.args.header.now c.args.parts.now c.args.code.now c.deref-2.result.now c.deref-3.result.now c.deref-2.ensures.value c.deref-3.ensures.value functions _ c.in_err-check_order.ensures.refused))

pub check_entries-requires-clause-spots : goal.check_entries-requires-clause-spots
check_entries-requires-clause-spots c =
    let order = order_all c.args.header.now c.args.parts.now c.args.code.now c.deref-2.result.now c.deref-3.result.now c.deref-2.ensures.value c.deref-3.ensures.value c.in_ok-check_order.ensures.ordered in
    few_entries c.args.header.now c.args.parts.now c.args.code.now c.deref-5.result.now c.deref-6.result.now c.deref-5.ensures.value c.deref-6.ensures.value order

pub check_entries-requires-clause-ascend : goal.check_entries-requires-clause-ascend
check_entries-requires-clause-ascend c =
    let functions = functions_all c.args.header.now c.args.parts.now c.args.code.now c.args.index.now c.requires.index c.deref.result.now c.deref.ensures.value c.in_ok-check_functions.ensures.fit in
    ascend c.args.header.now c.args.parts.now c.args.code.now functions c.deref-4.result.now c.deref-4.ensures.value

pub returns-in_err-check_entries-clause-refused : goal.returns-in_err-check_entries-clause-refused
returns-in_err-check_entries-clause-refused c =
    let functions = functions_all c.args.header.now c.args.parts.now c.args.code.now c.args.index.now c.requires.index c.deref.result.now c.deref.ensures.value c.in_ok-check_functions.ensures.fit in
    let order = order_all c.args.header.now c.args.parts.now c.args.code.now c.deref-2.result.now c.deref-3.result.now c.deref-2.ensures.value c.deref-3.ensures.value c.in_ok-check_order.ensures.ordered in
    let p = err_from_is_err_and c.from_residual-in_err-check_entries.result c.from_residual-in_err-check_entries.ensures.1 in
    rw (p.1, p.2) (inr (entries_row c.args.header.now c.args.parts.now c.args.code.now c.deref-5.result.now c.deref-6.result.now c.deref-5.ensures.value c.deref-6.ensures.value c.deref-4.result.now c.deref-4.ensures.value functions order _ c.in_err-check_entries.ensures.refused))

pub check_distances-requires-clause-spots : goal.check_distances-requires-clause-spots
check_distances-requires-clause-spots c =
    let order = order_all c.args.header.now c.args.parts.now c.args.code.now c.deref-2.result.now c.deref-3.result.now c.deref-2.ensures.value c.deref-3.ensures.value c.in_ok-check_order.ensures.ordered in
    few_entries c.args.header.now c.args.parts.now c.args.code.now c.deref-7.result.now c.deref-8.result.now c.deref-7.ensures.value c.deref-8.ensures.value order

pub check_distances-requires-clause-kinds : goal.check_distances-requires-clause-kinds
check_distances-requires-clause-kinds c =
    let order = order_all c.args.header.now c.args.parts.now c.args.code.now c.deref-2.result.now c.deref-3.result.now c.deref-2.ensures.value c.deref-3.ensures.value c.in_ok-check_order.ensures.ordered in
    let entries = entries_all c.args.header.now c.args.parts.now c.args.code.now c.deref-5.result.now c.deref-6.result.now c.deref-5.ensures.value c.deref-6.ensures.value c.deref-4.result.now c.deref-4.ensures.value c.in_ok-check_entries.ensures.fit in
    kinds_all c.args.header.now c.args.parts.now c.args.code.now c.deref-7.result.now c.deref-8.result.now c.deref-7.ensures.value c.deref-8.ensures.value order entries

pub returns-in_err-check_distances-clause-refused : goal.returns-in_err-check_distances-clause-refused
returns-in_err-check_distances-clause-refused c =
    let functions = functions_all c.args.header.now c.args.parts.now c.args.code.now c.args.index.now c.requires.index c.deref.result.now c.deref.ensures.value c.in_ok-check_functions.ensures.fit in
    let order = order_all c.args.header.now c.args.parts.now c.args.code.now c.deref-2.result.now c.deref-3.result.now c.deref-2.ensures.value c.deref-3.ensures.value c.in_ok-check_order.ensures.ordered in
    let entries = entries_all c.args.header.now c.args.parts.now c.args.code.now c.deref-5.result.now c.deref-6.result.now c.deref-5.ensures.value c.deref-6.ensures.value c.deref-4.result.now c.deref-4.ensures.value c.in_ok-check_entries.ensures.fit in
    let p = err_from_is_err_and c.from_residual-in_err-check_distances.result c.from_residual-in_err-check_distances.ensures.1 in
    rw (p.1, p.2) (inr (near_row c.args.header.now c.args.parts.now c.args.code.now c.deref-7.result.now c.deref-8.result.now c.deref-7.ensures.value c.deref-8.ensures.value functions order entries _ c.in_err-check_distances.ensures.refused))

pub returns-in_err-check_branches-clause-refused : goal.returns-in_err-check_branches-clause-refused
returns-in_err-check_branches-clause-refused c =
    let functions = functions_all c.args.header.now c.args.parts.now c.args.code.now c.args.index.now c.requires.index c.deref.result.now c.deref.ensures.value c.in_ok-check_functions.ensures.fit in
    let order = order_all c.args.header.now c.args.parts.now c.args.code.now c.deref-2.result.now c.deref-3.result.now c.deref-2.ensures.value c.deref-3.ensures.value c.in_ok-check_order.ensures.ordered in
    let entries = entries_all c.args.header.now c.args.parts.now c.args.code.now c.deref-5.result.now c.deref-6.result.now c.deref-5.ensures.value c.deref-6.ensures.value c.deref-4.result.now c.deref-4.ensures.value c.in_ok-check_entries.ensures.fit in
    let near = near_all c.args.header.now c.args.parts.now c.args.code.now c.deref-7.result.now c.deref-8.result.now c.deref-7.ensures.value c.deref-8.ensures.value c.in_ok-check_distances.ensures.near in
    let p = err_from_is_err_and c.from_residual-in_err-check_branches.result c.from_residual-in_err-check_branches.ensures.1 in
    rw (p.1, p.2) (inr (branches_row c.args.header.now c.args.parts.now c.args.code.now (units_in c.args.code.now.units) refl functions order entries near _ c.in_err-check_branches.ensures.refused))

pub returns-clause-fit : goal.returns-clause-fit
returns-clause-fit c =
    let h = c.args.header.now in
    let parts = c.args.parts.now in
    let code = c.args.code.now in
    record {
      functions = functions_all h parts code c.args.index.now c.requires.index c.deref.result.now c.deref.ensures.value c.in_ok-check_functions.ensures.fit;
      order = order_all h parts code c.deref-2.result.now c.deref-3.result.now c.deref-2.ensures.value c.deref-3.ensures.value c.in_ok-check_order.ensures.ordered;
      entries_fit = entries_all h parts code c.deref-5.result.now c.deref-6.result.now c.deref-5.ensures.value c.deref-6.ensures.value c.deref-4.result.now c.deref-4.ensures.value c.in_ok-check_entries.ensures.fit;
      near = near_all h parts code c.deref-7.result.now c.deref-8.result.now c.deref-7.ensures.value c.deref-8.ensures.value c.in_ok-check_distances.ensures.near;
      branches = branches_all h parts code (units_in code.units) refl c.in_ok-check_branches.ensures.right;
    }
