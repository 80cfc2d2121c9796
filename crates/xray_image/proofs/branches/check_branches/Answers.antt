use Rattle.std.proofs.Common.{◌-◌, ℕ, length, arith, refl, sym, ap, below_more}
use Rattle.std.proofs.lemmas.Bool.{false≢true}
use Rattle.std.proofs.lemmas.Option.{slice_get_within, get_or_from_slice_get}
use Rattle.xray_image.specs.declared.fault.ImageFault.TheVariants.{Target}
use Rattle.xray_image.specs.Table.{BranchesRightly}
use Rattle.xray_image.specs.private.UnitTable.{units_in}
use Rattle.xray_image.proofs.BranchTargets.{address_within, rightly, wrongly, no_unit}
use Rattle.xray_image.proofs.Index.{address_above, address_read}
use Rattle.xray_image.proofs.Scans.{from_below}
use Rattle.xray_image.proofs.branches.check_branches.Goals as goal

pub overflow_sub-result : goal.overflow_sub-result
overflow_sub-result c =
    omega (arith, address_above c.args.base _ (units_in c.args.units.now) c.loop-number.number c.get-unit.result c.requires.within c.get-unit.ensures)

pub overflow_cast-result : goal.overflow_cast-result
overflow_cast-result c =
    omega (arith, address_above c.args.base _ (units_in c.args.units.now) c.loop-number.number c.get-unit.result c.requires.within c.get-unit.ensures)

pub returns-then-not-branch_reaches_unit-clause-refused : goal.returns-then-not-branch_reaches_unit-clause-refused
returns-then-not-branch_reaches_unit-clause-refused c =
    let units = units_in c.args.units.now in
    let i = c.loop-number.number in
    let at = address_read units i c.get-unit.result c.get-unit.ensures in
    let right = c.if-not-branch_reaches_unit.ensures units c.requires.index (address_within c.args.base units c.requires.within c.requires.base) in
    record {
      number = i;
      fails = wrongly c.args.base units i c.get-unit.result (slice_get_within units c.loop-number.number c.get-unit.result c.get-unit.ensures) (sym (get_or_from_slice_get units c.loop-number.number c.get-unit.result c.get-unit.result c.get-unit.ensures)) (λ r. false≢true (right.1 r));
      holds_below = c.loop-number.invariant;
      is = ap (λ (a : ℕ). Target (a - c.args.base)) (sym at);
    }

pub loop-number-preserved : goal.loop-number-preserved
loop-number-preserved c =
    let units = units_in c.args.units.now in
    let i = c.loop-number.number in
    let right = c.if-not-branch_reaches_unit.ensures units c.requires.index (address_within c.args.base units c.requires.within c.requires.base) in
    below_more (BranchesRightly units) i c.loop-number.invariant (rightly c.args.base units i c.get-unit.result (slice_get_within units c.loop-number.number c.get-unit.result c.get-unit.ensures) (sym (get_or_from_slice_get units c.loop-number.number c.get-unit.result c.get-unit.result c.get-unit.ensures)) (right.0 refl))

pub returns-clause-right : goal.returns-clause-right
returns-clause-right c =
    let units = units_in c.args.units.now in
    from_below (BranchesRightly units) (length units) (λ j lt. c.loop-number.invariant j (omega (arith, c.loop-number-test.false))) (λ j le. no_unit units j le)
