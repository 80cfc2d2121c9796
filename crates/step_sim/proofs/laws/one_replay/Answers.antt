use Rattle.step_sim.proofs.OneReplay.{same_marks}
use Rattle.step_sim.proofs.laws.one_replay.Goals as goal

pub returns : goal.returns
returns c cast schedule marks others replayed again = same_marks cast schedule marks others replayed again
