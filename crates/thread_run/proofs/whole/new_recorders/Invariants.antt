use Rattle.std.proofs.Common.{◌≡◌, ◌++◌, length}
use Rattle.std.specs.Prelude.{vec_capacity}
use Rattle.thread_run.specs.private.Pooled.{AreNewRecorders}
use Rattle.thread_run.proofs.whole.new_recorders.Given as goal

abbrev pub invariant-loop-pass : goal.invariant-loop-pass
invariant-loop-pass g l = record {
  order : l.yielded ++ l.pass-iterator.rest.items ≡ l.fn.hands.items;
  number : l.number ≡ length l.yielded;
  count : length l.recorders.items ≡ l.number;
  room : vec_capacity l.recorders ≡ vec_capacity l.fn.recorders;
  recorders : AreNewRecorders l.pool l.recorders.items;
}
