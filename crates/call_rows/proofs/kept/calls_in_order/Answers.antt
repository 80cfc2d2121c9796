use Rattle.std.proofs.Common.{◌∙◌, List, ap, length, reverse, subst}
use Rattle.fdr_file.specs.ThreadEvents.{ThreadEvent}
use Rattle.call_rows.specs.declared.order.CallOrder.{CallOrder}
use Rattle.call_rows.specs.CallOrders.{arranged_calls}
use Rattle.call_rows.specs.CallRows.{call_rows_of, wanted_rows}
use Rattle.call_rows.specs.private.FirstRows.{Collects}
use Rattle.stack_rebuild.specs.Histories.{history_of}
use Rattle.call_rows.proofs.kept.calls_in_order.Goals as goal

pub returns : goal.returns
returns c = record {
  rows = λ trace reads.
      let P : List ThreadEvent → Type 0 = λ es. Collects c.collect.new.first c.args.wanted.now (reverse es) in
      let collected = subst P (c.new.ensures.events trace reads) (c.in_ok-collect.ensures.collects (c.new-first.ensures.keeps 0)) in
      c.into_rows.ensures (length (history_of trace.blocks)) (wanted_rows c.args.wanted.now (call_rows_of trace.blocks)) collected
      ∙ ap (λ (o : CallOrder). arranged_calls o (wanted_rows c.args.wanted.now (call_rows_of trace.blocks))) (c.collect.ensures.order ∙ c.new-first.ensures.order);
}
