use Rattle.std.proofs.Common.{ℕ, ◌+◌, Some, drop, sym, ap, ◌∙◌, arith}
use Rattle.xray_image.specs.declared.unit.What.{What}
use Rattle.xray_image.specs.private.RunningSums.{sums_in}
use Rattle.xray_image.specs.private.UnitTable.{what_at}
use Rattle.xray_image.proofs.StoredUnits.{length-units, unit_read}
use Rattle.xray_image.proofs.unit.UnitTable.get.Goals as goal

pub get-place-requires-clause-exists : goal.get-place-requires-clause-exists
get-place-requires-clause-exists c =
    let table = c.args.self.now in
    omega (arith, c.requires.exists, length-units table.base table.code.items (sums_in table.places) (sums_in table.sleds) c.requires.sound.paired)

pub get-requires-clause-exists : goal.get-requires-clause-exists
get-requires-clause-exists c =
    let table = c.args.self.now in
    omega (arith, c.requires.exists, length-units table.base table.code.items (sums_in table.places) (sums_in table.sleds) c.requires.sound.paired, c.requires.sound.paired)

pub returns : goal.returns
returns c =
    let table = c.args.self.now in
    let place : ℕ = c.get-place.result in
    let count : ℕ = c.get.result in
    let there = unit_read table.base table.code.items (sums_in table.places) (sums_in table.sleds) c.args.number place c.get-place.ensures.sum count c.get.ensures.sum in
    let what = c.what_stands.ensures ∙ ap (what_at count) (c.split_at.ensures.back ∙ ap (drop place) c.deref.ensures.value) in
    there
    ∙ ap (λ (a : ℕ). Some (record { address = table.base + a; what = what_at count (drop place table.code.items) })) (sym c.from.ensures)
    ∙ ap (λ (w : What). Some (record { address = table.base + c.from.result; what = w })) (sym what)
