use Rattle.buffer_queue.proofs.PutAndTake.{takes, has_some}
use Rattle.buffer_queue.proofs.turning.take.Goals as goal

pub pop_as-requires-clause-rule : goal.pop_as-requires-clause-rule
pop_as-requires-clause-rule g c = (takes _ _ c.requires.live c.requires.between, has_some _ _ c.requires.live c.requires.between)
