use Rattle.std.proofs.Common.{◌<◌, ◌∙◌, ℕ, All, length, ap, subst, sym, rules}
use Rattle.std.proofs.lemmas.Fn.{always_returns_same}
use Rattle.stack_rebuild.specs.private.Rows.{row_before, rows_for}
use Rattle.stack_rebuild.specs.PathSums.{Summed}
use Rattle.stack_rebuild.proofs.Orders.{order_low}
use Rattle.stack_rebuild.proofs.RowsOf.{row_order, rows_sorted}
use Rattle.stack_rebuild.proofs.rows.rows_of.Goals as goal

pub listed-requires : goal.listed-requires
listed-requires c =
    let order = c.in_ok-order.order.items in
    let low : All (λ (n : ℕ). n < length c.args.sums.paths) order = order_low (length c.args.sums.paths) order c.in_ok-order.ensures.order in
    subst (All (λ (n : ℕ). n < length c.order.new.self.paths)) (sym c.as_slice.ensures.value)
    (subst (λ (s : Summed). All (λ (n : ℕ). n < length s.paths) order) (sym c.order.ensures.same) low)

pub returns : goal.returns
returns c = λ pairs sums.
    let order = c.in_ok-order.order.items in
    let up = c.sort_unstable_by.ensures.sorted row_before row_order (always_returns_same _ _ _ (λ a r f' k. search rules)) in
    rows_sorted c.args.sums.paths c.args.sums.tallies pairs order c.in_ok-rows.rows.items c.sort_unstable_by.new.self.items sums
    c.in_ok-order.ensures.order
    (c.in_ok-rows.ensures ∙ ap (λ (s : Summed). rows_for s.paths s.tallies c.as_slice.result.now) c.order.ensures.same
    ∙ ap (rows_for c.args.sums.paths c.args.sums.tallies) c.as_slice.ensures.value)
    c.sort_unstable_by.ensures.permutation up
