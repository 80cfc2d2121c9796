use Rattle.std.proofs.Common.{◌≡◌, length}
use Rattle.xray_image.specs.Program.{addresses}
use Rattle.xray_image.specs.private.Index.{HasFirst}
use Rattle.xray_image.specs.private.UnitTable.{units_in}
use Rattle.xray_image.proofs.unit_index.UnitIndex.new.Given as goal

abbrev pub invariant-loop-number : goal.invariant-loop-number
invariant-loop-number l = record {
  base : l.index.base ≡ l.base;
  steps : length l.index.steps.items ≡ l.code_length;
  so_far : HasFirst (addresses (units_in l.units)) l.index.firsts.items l.index.steps.items l.base l.number;
}
