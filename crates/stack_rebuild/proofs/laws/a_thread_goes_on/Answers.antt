use Rattle.stack_rebuild.proofs.OpenCallSteps.{goes_on}
use Rattle.stack_rebuild.proofs.laws.a_thread_goes_on.Goals as goal

pub returns : goal.returns
returns c = goes_on
