use Rattle.std.proofs.Common.{◌≡◌}
use Rattle.crossbeam_queue.specs.Passes.{view, IsPassOf}
use Rattle.buffer_queue.specs.Passes.{sealed_of}
use Rattle.buffer_queue.proofs.draining.take_in_all.Given as goal

abbrev pub invariant-loop-other : goal.invariant-loop-other
invariant-loop-other l = IsPassOf l.queue l.head × (view l.head ≡ record (view l.fn.head) { returned = sealed_of l.yielded })
