use Rattle.machine_step.proofs.WholePassings.{one_value_each}
use Rattle.machine_step.proofs.laws.wanted_loads_have_one_value.Goals as goal

pub returns : goal.returns
returns c = one_value_each
