use Rattle.std.proofs.Common.{◌≡◌, [], ◌∷◌, length, refl, sym, subst, arith, length-append}
use Rattle.std.proofs.lemmas.Option.{slice_get_past}
use Rattle.machine_step.specs.declared.step.Step.TheVariants.{Nowhere}
use Rattle.machine_step.specs.private.Steps.{IsStepAt}
use Rattle.machine_step.proofs.Accepted.{HoldsSteps, low_address, has_sled, one_more_step}
use Rattle.machine_step.proofs.steps.all_steps.Goals as goal

pub step_of-requires-clause-address : goal.step_of-requires-clause-address
step_of-requires-clause-address c =
    let accepted = c.requires in
    low_address accepted.0 c.args.image.now accepted.1 c.loop-place.place c.unit.result c.unit.ensures

pub step_of-requires-clause-sled : goal.step_of-requires-clause-sled
step_of-requires-clause-sled c =
    let accepted = c.requires in
    λ k is. has_sled accepted.0 c.args.image.now accepted.1 c.loop-place.place c.unit.result k c.unit.ensures is

pub loop-place-preserved : goal.loop-place-preserved
loop-place-preserved c =
    let program = c.args.image.now in
    let so_far = c.loop-place.all.items in
    let here : IsStepAt program c.loop-place.place c.step_of.result = rw c.unit.ensures c.step_of.ensures in
    let many : c.loop-place.place ≡ length so_far = omega (arith, c.loop-place.all.ok) in
    record {
      count = omega arith;
      room = omega arith;
      holds = subst (HoldsSteps program) (sym c.push_reserved.ensures.items)
          (one_more_step program so_far c.step_of.result c.loop-place.invariant.holds (subst (λ n. IsStepAt program n c.step_of.result) many here));
    }

pub returns : goal.returns
returns c =
    let program = c.args.image.now in
    let so_far = c.loop-place.all.items in
    let many : length so_far ≡ length program.units = omega (arith, c.loop-place.all.ok) in
    let past = slice_get_past program.units (length so_far) (omega arith) in
    let nowhere : IsStepAt program (length so_far) Nowhere = rw past refl in
    let all = one_more_step program so_far Nowhere c.loop-place.invariant.holds nowhere in
    rw c.push_reserved-2.ensures.items (record {
      count = omega (arith, length-append so_far (Nowhere ∷ []));
      each = all.each;
    })
