use Rattle.std.proofs.Common.{◌<◌, ℕ}
use Rattle.xray_image.specs.Table.{BranchesRightly}
use Rattle.xray_image.specs.private.UnitTable.{units_in}
use Rattle.xray_image.proofs.branches.check_branches.Given as goal

abbrev pub invariant-loop-number : goal.invariant-loop-number
invariant-loop-number l = (j : ℕ) → j < l.number → BranchesRightly (units_in l.units) j
