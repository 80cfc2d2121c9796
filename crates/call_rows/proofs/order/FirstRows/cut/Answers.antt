use Rattle.std.proofs.Common.{List, refl, subst}
use Rattle.call_rows.specs.declared.row.CallRow.{CallRow}
use Rattle.call_rows.specs.private.FirstRows.{IsBoundOf}
use Rattle.call_rows.proofs.FirstInOrder.{keeps_cut}
use Rattle.call_rows.proofs.order.FirstRows.cut.Goals as goal

pub returns-clause-kept : goal.returns-clause-kept
returns-clause-kept c = λ events rows keeps.
    let P : List CallRow → Type 0 = λ cut. IsBoundOf cut c.args.self.now.order.top c.args.self.now.last c.bound_of-self.result in
    keeps_cut c.args.self.now _ events rows refl c.order_calls.ensures (subst P c.deref.ensures.value c.bound_of-self.ensures) keeps
