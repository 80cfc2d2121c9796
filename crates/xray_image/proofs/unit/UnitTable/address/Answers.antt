use Rattle.std.proofs.Common.{ap, ◌+◌, arith}
use Rattle.xray_image.specs.private.RunningSums.{sums_in}
use Rattle.xray_image.proofs.StoredUnits.{length-units, address_there}
use Rattle.xray_image.proofs.unit.UnitTable.address.Goals as goal

pub get-requires-clause-exists : goal.get-requires-clause-exists
get-requires-clause-exists c =
    let table = c.args.self.now in
    omega (arith, c.requires.exists, length-units table.base table.code.items (sums_in table.places) (sums_in table.sleds) c.requires.sound.paired)

pub returns : goal.returns
returns c =
    let table = c.args.self.now in
    address_there table.base table.code.items (sums_in table.places) (sums_in table.sleds) c.args.number c.get.result c.get.ensures.sum _ (ap (λ n. table.base + n) c.from.ensures) c.requires.sound.paired
