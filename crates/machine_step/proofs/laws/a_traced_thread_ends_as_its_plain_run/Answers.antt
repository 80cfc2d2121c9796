use Rattle.machine_step.proofs.SameEnd.{ends_as_plain}
use Rattle.machine_step.proofs.laws.a_traced_thread_ends_as_its_plain_run.Goals as goal

pub returns : goal.returns
returns c = ends_as_plain
