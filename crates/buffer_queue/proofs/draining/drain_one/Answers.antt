use Rattle.buffer_queue.proofs.PoolEnds.{drains, drains_some}
use Rattle.buffer_queue.proofs.draining.drain_one.Goals as goal

pub pop_as-requires-clause-rule : goal.pop_as-requires-clause-rule
pop_as-requires-clause-rule g c = (drains _ _ c.requires.may, drains_some _ _ c.requires.may c.requires.stocked c.requires.some)
