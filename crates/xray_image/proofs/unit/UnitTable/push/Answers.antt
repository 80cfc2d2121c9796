use Rattle.xray_image.specs.private.RunningSums.{sums_in}
use Rattle.xray_image.proofs.StoredUnits.{unit_push}
use Rattle.xray_image.proofs.unit.UnitTable.push.Goals as goal

pub returns-clause-units : goal.returns-clause-units
returns-clause-units c =
    let table = c.args.self.now in
    unit_push table.base table.code.items (sums_in table.places) (sums_in table.sleds) (sums_in c.push.new.self) (sums_in c.push-2.new.self) table.places.total table.sleds.total
    c.requires.sound.paired c.in_ok-push.ensures.sums c.in_ok-push-2.ensures.sums
