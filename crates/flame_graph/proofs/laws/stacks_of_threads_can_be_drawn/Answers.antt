use Rattle.flame_graph.proofs.StackRows.{stacks_of_threads_are}
use Rattle.flame_graph.proofs.laws.stacks_of_threads_can_be_drawn.Goals as goal

pub returns : goal.returns
returns c = stacks_of_threads_are
