use Rattle.stack_rebuild.proofs.CallEnds.{ends_open}
use Rattle.stack_rebuild.proofs.laws.an_exit_ends_an_open_call.Goals as goal

pub returns : goal.returns
returns c = ends_open
