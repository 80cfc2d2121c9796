use Rattle.buffer_queue.proofs.PutAndTake.{puts, has_room}
use Rattle.buffer_queue.proofs.turning.put.Goals as goal

pub push_as-requires-clause-rule : goal.push_as-requires-clause-rule
push_as-requires-clause-rule g c = (puts _ _ _ _ c.requires.may, has_room _ _ c.requires.may.live c.requires.may.rests)
