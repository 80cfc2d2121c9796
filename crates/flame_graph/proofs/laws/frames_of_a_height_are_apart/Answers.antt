use Rattle.flame_graph.proofs.FramesApart.{none_overlap}
use Rattle.flame_graph.proofs.laws.frames_of_a_height_are_apart.Goals as goal

pub returns : goal.returns
returns c = none_overlap
