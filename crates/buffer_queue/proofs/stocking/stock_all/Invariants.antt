use Rattle.std.proofs.Common.{◌≡◌}
use Rattle.crossbeam_queue.specs.Passes.{view, IsPassOf}
use Rattle.buffer_queue.specs.private.Changes.{head_view}
use Rattle.buffer_queue.proofs.stocking.stock_all.Given as goal

abbrev pub invariant-loop-pushed : goal.invariant-loop-pushed
invariant-loop-pushed g l = record {
  same : IsPassOf l.queue l.head;
  view_is : view l.head ≡ head_view l.setup 1 l._pushed;
}
