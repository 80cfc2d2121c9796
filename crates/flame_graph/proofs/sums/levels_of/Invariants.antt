use Rattle.std.proofs.Common.{◌≡◌, map, take}
use Rattle.stack_rebuild.specs.Stacks.{told}
use Rattle.flame_graph.specs.Picture.{longest}
use Rattle.flame_graph.proofs.sums.levels_of.Given as goal

abbrev pub invariant-rows : goal.invariant-rows
invariant-rows l = l.levels ≡ longest (take l.row-index (map told l.rows))
