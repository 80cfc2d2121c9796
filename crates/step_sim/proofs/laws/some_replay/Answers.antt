use Rattle.step_sim.proofs.SomeReplay.{some_marks, still_marks}
use Rattle.step_sim.proofs.laws.some_replay.Goals as goal

pub returns : goal.returns
returns c = record { free = some_marks; still = still_marks }
