use Rattle.std.proofs.Common.{arith, map}
use Rattle.stack_rebuild.specs.Stacks.{told}
use Rattle.flame_graph.proofs.DrawnFrames.{end_within}
use Rattle.flame_graph.proofs.walk.place_of.Goals as goal

pub thousandths_at-right-requires : goal.thousandths_at-right-requires
thousandths_at-right-requires c =
    let within = end_within (map told c.args.picture.now.rows.now) c.args.frame.now in
    omega (arith, within, c.requires.end)
