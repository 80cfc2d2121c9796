use Rattle.flame_graph.proofs.FramePlaces.{begins_at_its_rows}
use Rattle.flame_graph.proofs.laws.a_frame_begins_after_the_rows_before_it.Goals as goal

pub returns : goal.returns
returns c = begins_at_its_rows
