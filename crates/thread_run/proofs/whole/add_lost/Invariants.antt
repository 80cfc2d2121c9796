use Rattle.std.proofs.Common.{◌≡◌, ◌+◌, ◌++◌, take}
use Rattle.std.specs.Prelude.{vec_capacity, vec_len}
use Rattle.thread_run.specs.private.Pooled.{lost_beside}
use Rattle.thread_run.proofs.whole.add_lost.Given as goal

abbrev pub invariant-loop-segments : goal.invariant-loop-segments
invariant-loop-segments l = record {
  thread : l.thread ≡ l.segments-index;
  lost : l.lost.items ≡ l.fn.lost.items ++ lost_beside l.buffers 1 (take l.segments-index l.segments);
  len : vec_len l.lost ≡ vec_len l.fn.lost + l.segments-index;
  capacity : vec_capacity l.lost ≡ vec_capacity l.fn.lost;
}
