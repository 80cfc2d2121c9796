use Rattle.machine_step.proofs.PassingLimit.{limited}
use Rattle.machine_step.proofs.laws.passings_are_limited.Goals as goal

pub returns : goal.returns
returns c = limited
