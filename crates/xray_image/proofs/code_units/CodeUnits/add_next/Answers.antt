use Rattle.std.proofs.Common.{◌++◌, length, inr, map, sym, ap, ◌∙◌}
use Rattle.std.proofs.lemmas.List.{length-map}
use Rattle.xray_image.specs.private.UnitTable.{units_in}
use Rattle.xray_image.specs.private.Views.{piece_of, place_of}
use Rattle.xray_image.proofs.SoFar.{next_read, stops_here}
use Rattle.xray_image.proofs.StoredUnits.{unit_told}
use Rattle.xray_image.proofs.code_units.CodeUnits.add_next.Goals as goal

pub returns-in_ok-add-in-Ok-clause-read : goal.returns-in_ok-add-in-Ok-clause-read
returns-in_ok-add-in-Ok-clause-read c =
    let piece = piece_of c.in-Ok.raw in
    let sleds = c.args.self.now.sleds.items in
    let table = c.args.self.now.units in
    let tables = c.requires.tables in
    let unit = unit_told table.base c.args.base table.code.items c.args.code.now table.places.total c.args.at table.sleds.total (length (map place_of sleds)) piece c.split_at.result.1.now
    tables.same_base tables.same_code tables.place (tables.sleds ∙ sym (length-map sleds place_of)) c.split_at.ensures.back c.in-Ok.ensures.what in
    next_read c.args.base c.args.code.now c.args.at (units_in c.args.self.now.units) (units_in c.add.new.self.units) (map place_of sleds) (map place_of c.add.new.self.sleds.items) piece c.in-Ok.length c.split_at.result.1.now
    c.requires.read c.requires.left c.split_at.ensures.back c.in-Ok.ensures.found c.in-Ok.ensures.length
    (c.in_ok-add-in-Ok.ensures.units ∙ ap (λ us. units_in c.args.self.now.units ++ us) unit)
    c.in_ok-add-in-Ok.ensures.sleds

pub returns-in-Err-clause-refused : goal.returns-in-Err-clause-refused
returns-in-Err-clause-refused c =
    inr (stops_here c.args.base c.args.code.now c.args.at (units_in c.args.self.now.units) (map place_of c.args.self.now.sleds.items) c.in-Err.none c.split_at.result.1.now c.at.result
    c.requires.read c.requires.left c.split_at.ensures.back c.in-Err.ensures.none c.in-Err.ensures.why c.at.ensures)
