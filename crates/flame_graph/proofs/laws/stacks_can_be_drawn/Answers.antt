use Rattle.flame_graph.proofs.StackRows.{stacks_are}
use Rattle.flame_graph.proofs.laws.stacks_can_be_drawn.Goals as goal

pub returns : goal.returns
returns c = stacks_are
