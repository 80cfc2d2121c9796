use Rattle.std.proofs.Common.{◌≡◌, subst}
use Rattle.std.specs.Prelude.{ℤ, unsigned_abs}
use Rattle.std.specs.Int.{w64, w128, FitsUnsigned}
use Rattle.std.proofs.lemmas.Int.{to_z-of_z}
use Rattle.xray_image.proofs.BranchTargets.{arrives, outside}
use Rattle.xray_image.proofs.FunctionRows.{found_is}
use Rattle.xray_image.specs.Program.{addresses}
use Rattle.xray_image.proofs.branches.branch_reaches_unit.Goals as goal

pub returns-in-Ok : goal.returns-in-Ok
returns-in-Ok c = λ units index low.
    arrives units c.args.unit.now c.in-Plain.instr c.in-Some.target c.in-Plain.is c.in-Some.ensures.target c.in-Ok.address c.is_some.result
    (subst (λ (z : ℤ). FitsUnsigned w64 z × (c.in-Ok.address ≡ unsigned_abs z)) (to_z-of_z w128 c.in-Some.target c.in-Some.ensures.fits) c.in-Ok.ensures)
    (found_is (addresses units) c.in-Ok.address c.find.result c.is_some.result c.is_some.ensures (c.find.ensures (addresses units) index))

pub returns-in-Err : goal.returns-in-Err
returns-in-Err c = λ units index low.
    outside units c.args.unit.now c.in-Plain.instr c.in-Some.target c.in-Plain.is c.in-Some.ensures.target
    (subst (λ (z : ℤ). FitsUnsigned w64 z → ⊥) (to_z-of_z w128 c.in-Some.target c.in-Some.ensures.fits) c.in-Err.ensures) low
