use Rattle.step_sim.proofs.PooledReplay.{same_queue}
use Rattle.step_sim.proofs.laws.one_pooled_replay.Goals as goal

pub returns : goal.returns
returns c cast pooling schedule last other ran again = same_queue cast pooling schedule last other ran again
