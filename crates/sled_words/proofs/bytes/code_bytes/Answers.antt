use Rattle.std.proofs.Common.{refl, arith}
use Rattle.sled_words.specs.CodeBytes.{unit_bytes}
use Rattle.sled_words.proofs.FlatMap.{flat_map_more}
use Rattle.sled_words.proofs.UnitWords.{unit_has_words}
use Rattle.sled_words.proofs.bytes.code_bytes.Goals as goal

pub push_unit-requires : goal.push_unit-requires
push_unit-requires c =
    let sleds = c.sleds_stand_in_units.ensures in
    unit_has_words c.args.image.now.units c.args.image.now.sleds c.args.words.now sleds.stand (omega (arith, sleds.few)) c.requires
    c.loop-i.i c.unit.result c.unit.ensures c.unit.result.what refl

pub loop-i-preserved : goal.loop-i-preserved
loop-i-preserved c =
    flat_map_more (λ unit. unit_bytes c.args.words.now unit.what) c.args.image.now.units c.loop-i.i c.unit.result _ _ _ c.unit.ensures c.loop-i.invariant refl c.in_ok-push_unit.ensures
