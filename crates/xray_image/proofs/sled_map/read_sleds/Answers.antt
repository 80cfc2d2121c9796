use Rattle.xray_image.proofs.ImageLists.{sled_more, all_sleds}
use Rattle.xray_image.proofs.sled_map.read_sleds.Goals as goal

pub loop-number-preserved : goal.loop-number-preserved
loop-number-preserved c =
    sled_more c.args.spots.now c.args.entries.now c.requires.spots c.loop-number.sleds.items c.push.new.self.items c.loop-number.number c.args.ids.now c.kind_of.result
    c.loop-number.invariant c.loop-number-test.true c.requires.ids c.kind_of.ensures c.in_ok-push.ensures.items

pub returns : goal.returns
returns c = all_sleds c.args.spots.now c.args.entries.now c.requires.spots c.loop-number.sleds.items c.loop-number.number c.loop-number.invariant c.loop-number-test.false
