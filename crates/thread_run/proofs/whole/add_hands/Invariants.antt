use Rattle.std.proofs.Common.{◌≡◌, ◌++◌}
use Rattle.std.specs.Prelude.{vec_capacity}
use Rattle.thread_run.proofs.whole.add_hands.Given as goal

abbrev pub invariant-loop-hand : goal.invariant-loop-hand
invariant-loop-hand l =
    (l.yielded ++ l.hand-iterator.rest.items ≡ l.fn.hands.items)
    × (l.buffers.items ≡ l.fn.buffers.items ++ l.yielded)
    × (vec_capacity l.buffers ≡ vec_capacity l.fn.buffers)
