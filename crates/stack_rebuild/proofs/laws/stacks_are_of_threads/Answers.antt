use Rattle.stack_rebuild.proofs.Threads.{stacks_of_threads}
use Rattle.stack_rebuild.proofs.laws.stacks_are_of_threads.Goals as goal

pub returns : goal.returns
returns c = stacks_of_threads
