use Rattle.std.proofs.Common.{◌+◌, ◌-◌, ◌/◌, ◌<◌, ℕ, List, length, get_or, set, sym, ap, subst, ◌∙◌, arith}
use Rattle.std.proofs.lemmas.List.{length-set}
use Rattle.xray_image.specs.Program.{addresses}
use Rattle.xray_image.specs.private.Index.{AreWithin, HasBegun, HasFirst}
use Rattle.xray_image.specs.private.UnitTable.{units_in}
use Rattle.std.proofs.lemmas.Option.{get_or_from_slice_get, slice_get_within}
use Rattle.xray_image.proofs.Index.{first_near, one_more}
use Rattle.xray_image.proofs.unit_index.UnitIndex.new.Goals as goal

pub overflow_sub-address : goal.overflow_sub-address
overflow_sub-address c =
    let units = units_in c.args.units.now in
    let at = get_or_from_slice_get (addresses units) c.loop-number.number c.address-address.result 0 c.address-address.ensures in
    let within = c.requires.within c.loop-number.number (slice_get_within (addresses units) c.loop-number.number c.address-address.result c.address-address.ensures) in
    omega (arith, at, within)

pub add-requires-clause-within : goal.add-requires-clause-within
add-requires-clause-within c =
    let units = units_in c.args.units.now in
    let at = get_or_from_slice_get (addresses units) c.loop-number.number c.address-address.result 0 c.address-address.ensures in
    let within = c.requires.within c.loop-number.number (slice_get_within (addresses units) c.loop-number.number c.address-address.result c.address-address.ensures) in
    omega (arith, at, within, c.loop-number.invariant.steps)

pub add-requires-clause-near : goal.add-requires-clause-near
add-requires-clause-near c = λ begun.
    let all = addresses (units_in c.args.units.now) in
    let base = c.args.base in
    let i = c.loop-number.number in
    let firsts = c.loop-number.index.firsts.items in
    let steps = c.loop-number.index.steps.items in
    let at = get_or_from_slice_get all i c.address-address.result 0 c.address-address.ensures in
    let below : i < length all = slice_get_within all i c.address-address.result c.address-address.ensures in
    let within : AreWithin base (length steps) all = subst (λ (n : ℕ). AreWithin base n all) (sym c.loop-number.invariant.steps) c.requires.within in
    let near = first_near all firsts steps base i below within c.requires.ascending c.loop-number.invariant.so_far
    (subst (λ (a : ℕ). (a - base) / 128 < length firsts) (sym at) begun) in
    omega (arith, near.1, ap (λ (a : ℕ). get_or firsts ((a - base) / 128) 0) at)

pub loop-number-preserved : goal.loop-number-preserved
loop-number-preserved c =
    let all = addresses (units_in c.args.units.now) in
    let base = c.args.base in
    let i = c.loop-number.number in
    let firsts = c.loop-number.index.firsts.items in
    let steps = c.loop-number.index.steps.items in
    let firsts' = c.add.new.self.firsts.items in
    let at = get_or_from_slice_get all i c.address-address.result 0 c.address-address.ensures in
    let below : i < length all = slice_get_within all i c.address-address.result c.address-address.ensures in
    let within : AreWithin base (length steps) all = subst (λ (n : ℕ). AreWithin base n all) (sym c.loop-number.invariant.steps) c.requires.within in
    let more = one_more all firsts steps base i below within c.requires.ascending c.loop-number.invariant.so_far firsts'
    (subst (λ (a : ℕ). HasBegun firsts firsts' ((a - base) / 128) i) (sym at) c.in_ok-add.ensures.begun)
    (subst (λ (a : ℕ). (a - base) / 128 < length firsts') (sym at) c.in_ok-add.ensures.reaches) in
    let here = subst (λ (a : ℕ). HasFirst all firsts' (set steps (a - base) (i - get_or firsts' ((a - base) / 128) 0)) base (i + 1)) at more in
    record {
      base = c.in_ok-add.ensures.base ∙ c.loop-number.invariant.base;
      steps = ap length c.in_ok-add.ensures.steps ∙ length-set steps _ _ ∙ c.loop-number.invariant.steps;
      so_far = subst (λ (s : List ℕ). HasFirst all firsts' s base (i + 1)) (sym c.in_ok-add.ensures.steps) here;
    }
