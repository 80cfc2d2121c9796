use Rattle.std.proofs.Common.{◌≡◌, map, take}
use Rattle.stack_rebuild.specs.Stacks.{told}
use Rattle.flame_graph.specs.Frames.{capped, own_sum}
use Rattle.flame_graph.proofs.sums.total_of.Given as goal

abbrev pub invariant-rows : goal.invariant-rows
invariant-rows l = l.total ≡ capped (own_sum (take l.row-index (map told l.rows)))
