use Rattle.std.proofs.Common.{◌≡◌, ◌-◌}
use Rattle.crossbeam_queue.specs.Passes.{view, IsSamePass}
use Rattle.buffer_queue.specs.Passes.{AreNew}
use Rattle.buffer_queue.specs.private.Ready.{pool_is}
use Rattle.buffer_queue.specs.private.Changes.{head_view}
use Rattle.buffer_queue.proofs.stocking.give_all.Given as goal

abbrev pub invariant-loop-given : goal.invariant-loop-given
invariant-loop-given l = record {
  same : IsSamePass l.fn.head l.head;
  view_is : view l.head ≡ head_view l.setup l._given (l.setup.max - l.setup.threads);
  hands : AreNew (pool_is l.queue.table.shared.table_id l.setup) 2 l._given l.hands.items;
}
