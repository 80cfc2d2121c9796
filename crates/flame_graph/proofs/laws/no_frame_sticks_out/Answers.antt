use Rattle.flame_graph.proofs.NestedFrames.{none_sticks_out}
use Rattle.flame_graph.proofs.laws.no_frame_sticks_out.Goals as goal

pub returns : goal.returns
returns c = none_sticks_out
