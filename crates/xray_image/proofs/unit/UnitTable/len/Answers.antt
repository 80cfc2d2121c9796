use Rattle.std.proofs.Common.{sym, ◌∙◌}
use Rattle.xray_image.specs.private.RunningSums.{sums_in}
use Rattle.xray_image.proofs.StoredUnits.{length-units}
use Rattle.xray_image.proofs.unit.UnitTable.len.Goals as goal

pub returns : goal.returns
returns c =
    let table = c.args.self.now in
    c.len.ensures ∙ sym (length-units table.base table.code.items (sums_in table.places) (sums_in table.sleds) c.requires.paired)
