use Rattle.std.proofs.Common.{◌∙◌, ap, sym, rules, take, Option, ℕ}
use Rattle.std.proofs.lemmas.Fn.{always_returns_same}
use Rattle.account_report.specs.Ascending.{ordered_by}
use Rattle.account_report.proofs.OneOrder.{one_order}
use Rattle.call_rows.specs.declared.row.CallRow.{CallRow}
use Rattle.call_rows.specs.CallOrders.{call_before, first_calls}
use Rattle.call_rows.proofs.CallOrdering.{call_order, calls_decide}
use Rattle.call_rows.proofs.order.order_calls.Goals as goal

pub returns-in_default : goal.returns-in_default
returns-in_default c = λ distinct.
    one_order (λ (r : CallRow). r.end) (call_before c.args.order.now.key c.args.order.now.descending) (call_order c.args.order.now.key c.args.order.now.descending)
    (calls_decide c.args.order.now.key c.args.order.now.descending) c.args.rows.now.items c.sort_unstable_by.new.self.items distinct c.sort_unstable_by.ensures.permutation
    (c.sort_unstable_by.ensures.sorted (call_before c.args.order.now.key c.args.order.now.descending) (call_order c.args.order.now.key c.args.order.now.descending) (always_returns_same _ _ _ (λ a r f' k. search rules)))
    ∙ sym (ap (λ (top : Option ℕ). first_calls top (ordered_by (call_before c.args.order.now.key c.args.order.now.descending) c.args.rows.now.items)) c.in_default.is)

pub returns-in-Some : goal.returns-in-Some
returns-in-Some c = λ distinct.
    c.truncate.ensures.items
    ∙ (ap (take c.in-Some.top)
    (one_order (λ (r : CallRow). r.end) (call_before c.args.order.now.key c.args.order.now.descending) (call_order c.args.order.now.key c.args.order.now.descending)
    (calls_decide c.args.order.now.key c.args.order.now.descending) c.args.rows.now.items c.sort_unstable_by.new.self.items distinct c.sort_unstable_by.ensures.permutation
    (c.sort_unstable_by.ensures.sorted (call_before c.args.order.now.key c.args.order.now.descending) (call_order c.args.order.now.key c.args.order.now.descending) (always_returns_same _ _ _ (λ a r f' k. search rules))))
    ∙ sym (ap (λ (top : Option ℕ). first_calls top (ordered_by (call_before c.args.order.now.key c.args.order.now.descending) c.args.rows.now.items)) c.in-Some.is))
