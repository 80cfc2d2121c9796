use Rattle.std.proofs.Common.{ap, ◌∙◌}
use Rattle.buffer_queue.specs.Passes.{PassIs}
use Rattle.buffer_queue.proofs.PoolEnds.{merges}
use Rattle.buffer_queue.proofs.draining.take_in.Goals as goal

pub absorb-requires-clause-rule : goal.absorb-requires-clause-rule
absorb-requires-clause-rule c = merges _ _ _ _ (record {
  live = c.requires.live;
  first = c.requires.first;
  other_live = c.other.invariant.0.live;
  other_rests = c.other.invariant.0.rests;
  next = ap (λ (p : PassIs). p.thread) c.other.view_is ∙ c.requires.next;
})
