use Rattle.std.proofs.Common.{arith}
use Rattle.flame_graph.proofs.Scales.{unit_some}
use Rattle.flame_graph.proofs.scale.thousandths_at.Goals as goal

pub nonzero_div-whole : goal.nonzero_div-whole
nonzero_div-whole c = let some = unit_some c.args.total in omega (arith, some, c.unit_of-unit.ensures)
