use Rattle.step_sim.proofs.OneRun.{one_run_of}
use Rattle.step_sim.proofs.laws.one_run.Goals as goal

pub returns : goal.returns
returns c = one_run_of c.one_end.ensures
