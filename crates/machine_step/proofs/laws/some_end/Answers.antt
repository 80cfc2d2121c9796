use Rattle.machine_step.proofs.SomeEnd.{some_run}
use Rattle.machine_step.proofs.laws.some_end.Goals as goal

pub returns : goal.returns
returns c bytes program limits thread accepted = some_run bytes program limits thread accepted
