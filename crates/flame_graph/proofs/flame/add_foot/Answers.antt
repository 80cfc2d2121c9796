use Rattle.std.proofs.Common.{append_assoc}
use Rattle.flame_graph.proofs.flame.add_foot.Goals as goal

pub returns : goal.returns
returns g c = simp append_assoc c.pieces.ensures.adds
