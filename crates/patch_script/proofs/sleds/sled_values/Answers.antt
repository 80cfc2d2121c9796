use Rattle.std.proofs.Common.{map, ap, ◌∙◌, arith}
use Rattle.patch_script.specs.private.Sleds.{values_of}
use Rattle.patch_script.proofs.Places.{take_all, values_more}
use Rattle.patch_script.proofs.sleds.sled_values.Goals as goal

pub returns-clause-sleds : goal.returns-clause-sleds
returns-clause-sleds c =
    c.loop-number.invariant ∙ ap (map (values_of c.args.image.now.trampolines)) (take_all c.loop-number.number c.args.image.now.sleds (omega (arith, c.sled_count-count.ensures.count)))

pub loop-number-preserved : goal.loop-number-preserved
loop-number-preserved c =
    let image = c.args.image.now in
    values_more image c.loop-number.number c.loop-number.sleds.items c.push.new.self.items c.new.result (omega (arith, c.sled_count-count.ensures.count)) c.loop-number.invariant c.new.ensures c.in_ok-push.ensures.items
