use Rattle.traced_run.proofs.SomeLosses.{some_losses}
use Rattle.traced_run.proofs.laws.some_losses_are_of_a_queue.Goals as goal

pub returns : goal.returns
returns c = some_losses
