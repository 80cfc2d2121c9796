use Rattle.std.proofs.Common.{◌≡◌, ◌+◌, ◌++◌, length, vec_len, vec_capacity}
use Rattle.crossbeam_queue.specs.Passes.{view, IsPassOf}
use Rattle.buffer_queue.proofs.draining.drain_all.Given as goal

abbrev pub invariant-loop-drained : goal.invariant-loop-drained
invariant-loop-drained g l = record {
  same : IsPassOf l.queue l.head;
  number : length (view l.head).drained ≡ l._drained;
  view_is : view l.head ≡ record (view l.fn.head) { drained = (view l.head).drained };
  items : l.into.items ≡ l.fn.into.items ++ (view l.head).drained;
  long : vec_len l.into ≡ vec_len l.fn.into + l._drained;
  room : vec_capacity l.into ≡ vec_capacity l.fn.into;
}
