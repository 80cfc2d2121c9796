use Rattle.std.proofs.Common.{refl}
use Rattle.xray_image.proofs.StoredUnits.{aligned}
use Rattle.xray_image.proofs.NoUnits.{no_whole}
use Rattle.xray_image.proofs.unit_reader.read_unit.Goals as goal

pub returns-then-bytes-clause-what : goal.returns-then-bytes-clause-what
returns-then-bytes-clause-what c = λ sleds. aligned c.args.bytes.now sleds c.if-bytes.true

pub returns-in_default-clause-none : goal.returns-in_default-clause-none
returns-in_default-clause-none c =
    no_whole c.args.address c.args.bytes.now (c.if-begins_as_sled.ensures.0 refl) c.if-bytes.false (λ piece sled b. let h = c.in_default.ensures.only piece sled b in cc)
