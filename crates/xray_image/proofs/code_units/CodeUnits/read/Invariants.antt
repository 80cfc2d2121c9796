use Rattle.std.proofs.Common.{◌-◌, length, map}
use Rattle.xray_image.specs.private.Reading.{IsReadTo}
use Rattle.xray_image.specs.private.UnitTable.{units_in}
use Rattle.xray_image.specs.private.Views.{place_of, AreTablesTo}
use Rattle.xray_image.proofs.code_units.CodeUnits.read.Given as goal

abbrev pub invariant-loop-at : goal.invariant-loop-at
invariant-loop-at l = record {
  tables : AreTablesTo l.base l.code l.at l.read;
  read : IsReadTo l.base l.code l.at (units_in l.read.units) (map place_of l.read.sleds.items);
}

abbrev pub decreases-loop-at : goal.decreases-loop-at
decreases-loop-at l = length l.code - l.at
