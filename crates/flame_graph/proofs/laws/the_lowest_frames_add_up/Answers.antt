use Rattle.flame_graph.proofs.LowestRow.{lowest_add_up}
use Rattle.flame_graph.proofs.laws.the_lowest_frames_add_up.Goals as goal

pub returns : goal.returns
returns c = lowest_add_up
