use Rattle.machine_step.proofs.WholePassings.{all_whole}
use Rattle.machine_step.proofs.laws.allowed_loads_are_whole.Goals as goal

pub returns : goal.returns
returns c = all_whole
