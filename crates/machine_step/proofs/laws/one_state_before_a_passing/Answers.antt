use Rattle.machine_step.proofs.OneUnit.{accepted_units}
use Rattle.machine_step.proofs.OneState.{one_state}
use Rattle.machine_step.proofs.laws.one_state_before_a_passing.Goals as goal

pub returns : goal.returns
returns c bytes program limits thread passed passed' state state' next next' accepted =
    one_state program (accepted_units bytes program accepted) limits thread passed passed' state state' next next'
