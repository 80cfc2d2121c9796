use Rattle.std.proofs.Common.{inr, refl, sym, subst, arith}
use Rattle.std.specs.Prelude.{Ok}
use Rattle.std.proofs.lemmas.Result.{err_from_is_err_and}
use Rattle.xray_image.specs.Program.{Program}
use Rattle.xray_image.specs.Table.{ReadsAs}
use Rattle.xray_image.specs.private.UnitTable.{units_in}
use Rattle.xray_image.specs.private.Views.{places_in}
use Rattle.xray_image.proofs.Placement.{has_within, has_ascending, has_few}
use Rattle.xray_image.proofs.FileRows.{code_few, code_low, functions_few, entries_few, entry_there, units_stop, spots_few, units_within, spots_ascend, program_stops, program_reads, program_accepted, told_fault}
use Rattle.xray_image.proofs.image.reading.read_program.Goals as goal

pub read-requires-3-clause-code : goal.read-requires-3-clause-code
read-requires-3-clause-code c =
    code_few c.args.bytes.now c.in_ok-header.header c.in_ok-header.ensures.accepted c.in_ok-header.ensures.fields c.in_ok-parts.parts c.in_ok-parts.ensures.found

pub returns-in_err-code : goal.returns-in_err-code
returns-in_err-code c =
    let p = err_from_is_err_and c.from_residual-in_err-code.result c.from_residual-in_err-code.ensures.1 in
    rw (p.1, p.2) (told_fault c.args.bytes.now _ (units_stop c.args.bytes.now c.in_ok-header.header c.in_ok-header.ensures.accepted c.in_ok-header.ensures.fields c.in_ok-parts.parts c.in_ok-parts.ensures.found _ c.in_err-code.ensures.refused))

pub new-requires-clause-within : goal.new-requires-clause-within
new-requires-clause-within c =
    has_within c.in_ok-header.header.base c.in_ok-parts.parts.code.now (units_in c.in_ok-code.code.units) (places_in c.in_ok-code.code) c.in_ok-code.ensures.found

pub new-requires-clause-ascending : goal.new-requires-clause-ascending
new-requires-clause-ascending c =
    has_ascending c.in_ok-header.header.base c.in_ok-parts.parts.code.now (units_in c.in_ok-code.code.units) (places_in c.in_ok-code.code) c.in_ok-code.ensures.found

pub new-requires-clause-few : goal.new-requires-clause-few
new-requires-clause-few c =
    omega (
      arith,
      has_few c.in_ok-header.header.base c.in_ok-parts.parts.code.now (units_in c.in_ok-code.code.units) (places_in c.in_ok-code.code) c.in_ok-code.ensures.found,
      code_low c.args.bytes.now c.in_ok-header.header c.in_ok-header.ensures.accepted c.in_ok-header.ensures.fields c.in_ok-parts.parts c.in_ok-parts.ensures.found,
    )

pub check_program-requires-clause-within : goal.check_program-requires-clause-within
check_program-requires-clause-within c =
    units_within c.args.bytes.now c.in_ok-header.header c.in_ok-header.ensures.accepted c.in_ok-header.ensures.fields c.in_ok-parts.parts c.in_ok-parts.ensures.found c.in_ok-code.code c.in_ok-code.ensures.found (units_in c.in_ok-code.code.units) refl

pub check_program-requires-clause-functions : goal.check_program-requires-clause-functions
check_program-requires-clause-functions c =
    functions_few c.args.bytes.now c.in_ok-header.header c.in_ok-header.ensures.accepted c.in_ok-header.ensures.fields c.in_ok-parts.parts c.in_ok-parts.ensures.found

pub check_program-requires-clause-spots : goal.check_program-requires-clause-spots
check_program-requires-clause-spots c =
    spots_few c.args.bytes.now c.in_ok-header.header c.in_ok-header.ensures.accepted c.in_ok-header.ensures.fields c.in_ok-parts.parts c.in_ok-parts.ensures.found c.in_ok-code.code c.in_ok-code.ensures.found

pub check_program-requires-clause-entries : goal.check_program-requires-clause-entries
check_program-requires-clause-entries c =
    entries_few c.args.bytes.now c.in_ok-header.header c.in_ok-header.ensures.accepted c.in_ok-header.ensures.fields c.in_ok-parts.parts c.in_ok-parts.ensures.found

pub returns-in_err-check_program : goal.returns-in_err-check_program
returns-in_err-check_program c =
    let p = err_from_is_err_and c.from_residual-in_err-check_program.result c.from_residual-in_err-check_program.ensures.1 in
    rw (p.1, p.2) (told_fault c.args.bytes.now _ (program_stops c.args.bytes.now c.in_ok-header.header c.in_ok-header.ensures.accepted c.in_ok-header.ensures.fields c.in_ok-parts.parts c.in_ok-parts.ensures.found c.in_ok-code.code c.in_ok-code.ensures.found _ c.in_err-check_program.ensures.refused))

pub image_of-requires-clause-accepted : goal.image_of-requires-clause-accepted
image_of-requires-clause-accepted c =
    program_accepted c.args.bytes.now c.in_ok-header.header c.in_ok-header.ensures.accepted c.in_ok-header.ensures.fields c.in_ok-parts.parts c.in_ok-parts.ensures.found c.in_ok-code.code c.in_ok-code.ensures.found c.in_ok-check_program.ensures.fit

pub image_of-requires-clause-ascend : goal.image_of-requires-clause-ascend
image_of-requires-clause-ascend c =
    spots_ascend c.args.bytes.now c.in_ok-header.header c.in_ok-header.ensures.accepted c.in_ok-header.ensures.fields c.in_ok-parts.parts c.in_ok-parts.ensures.found c.in_ok-code.code c.in_ok-code.ensures.found

pub image_of-requires-clause-entry : goal.image_of-requires-clause-entry
image_of-requires-clause-entry c =
    entry_there c.args.bytes.now c.in_ok-header.header c.in_ok-header.ensures.accepted c.in_ok-header.ensures.fields c.in_ok-parts.parts c.in_ok-parts.ensures.found

pub image_of-requires-clause-functions : goal.image_of-requires-clause-functions
image_of-requires-clause-functions c =
    functions_few c.args.bytes.now c.in_ok-header.header c.in_ok-header.ensures.accepted c.in_ok-header.ensures.fields c.in_ok-parts.parts c.in_ok-parts.ensures.found

pub image_of-requires-clause-entries : goal.image_of-requires-clause-entries
image_of-requires-clause-entries c =
    entries_few c.args.bytes.now c.in_ok-header.header c.in_ok-header.ensures.accepted c.in_ok-header.ensures.fields c.in_ok-parts.parts c.in_ok-parts.ensures.found

pub returns : goal.returns
returns c =
    inr (subst (λ (g : Program). ReadsAs c.args.bytes.now (Ok g)) (sym c.in_ok-image_of.ensures)
    (program_reads c.args.bytes.now c.in_ok-header.header c.in_ok-header.ensures.accepted c.in_ok-header.ensures.fields c.in_ok-parts.parts c.in_ok-parts.ensures.found c.in_ok-code.code c.in_ok-code.ensures.found c.in_ok-check_program.ensures.fit))
