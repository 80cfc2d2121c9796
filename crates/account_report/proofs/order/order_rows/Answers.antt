use Rattle.std.proofs.Common.{◌∙◌, ap, sym, rules, Option, ℕ}
use Rattle.std.proofs.lemmas.Fn.{always_returns_same}
use Rattle.account_report.specs.declared.row.AccountRow.{AccountRow}
use Rattle.account_report.specs.Ordered.{first_rows, row_before}
use Rattle.account_report.proofs.OneOrder.{one_order}
use Rattle.account_report.proofs.RowOrder.{row_order, rows_decide}
use Rattle.account_report.proofs.order.order_rows.Goals as goal

pub returns-in_default-clause-ordered : goal.returns-in_default-clause-ordered
returns-in_default-clause-ordered c =
    let up = c.sort_unstable_by.ensures.sorted (row_before c.args.sort c.args.descending) (row_order c.args.sort c.args.descending)
    (always_returns_same _ _ _ (λ a r f' k. search rules)) in (
      c.sort_unstable_by.new.self.items,
      c.sort_unstable_by.ensures.permutation,
      up,
      sym (ap (λ (top : Option ℕ). first_rows top c.sort_unstable_by.new.self.items) c.in_default.is),
    )

pub returns-in_default-clause-exact : goal.returns-in_default-clause-exact
returns-in_default-clause-exact c = λ distinct.
    let all = returns-in_default-clause-ordered c in
    all.3 ∙ ap (first_rows c.args.top)
    (one_order (λ (r : AccountRow). r.func) (row_before c.args.sort c.args.descending) (row_order c.args.sort c.args.descending)
    (rows_decide c.args.sort c.args.descending) c.args.rows.now.items all.0 distinct all.1 all.2)

pub returns-in-Some-clause-ordered : goal.returns-in-Some-clause-ordered
returns-in-Some-clause-ordered c =
    let up = c.sort_unstable_by.ensures.sorted (row_before c.args.sort c.args.descending) (row_order c.args.sort c.args.descending)
    (always_returns_same _ _ _ (λ a r f' k. search rules)) in (
      c.sort_unstable_by.new.self.items,
      c.sort_unstable_by.ensures.permutation,
      up,
      c.truncate.ensures.items ∙ sym (ap (λ (top : Option ℕ). first_rows top c.sort_unstable_by.new.self.items) c.in-Some.is),
    )

pub returns-in-Some-clause-exact : goal.returns-in-Some-clause-exact
returns-in-Some-clause-exact c = λ distinct.
    let all = returns-in-Some-clause-ordered c in
    all.3 ∙ ap (first_rows c.args.top)
    (one_order (λ (r : AccountRow). r.func) (row_before c.args.sort c.args.descending) (row_order c.args.sort c.args.descending)
    (rows_decide c.args.sort c.args.descending) c.args.rows.now.items all.0 distinct all.1 all.2)
