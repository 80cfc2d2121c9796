use Rattle.std.proofs.Common.{arith}
use Rattle.xray_image.specs.private.ImageView.{program_in}
use Rattle.xray_image.proofs.Acceptance.{sled_total}
use Rattle.xray_image.proofs.image.Image.sled_count.Goals as goal

pub overflow_cast-result : goal.overflow_cast-result
overflow_cast-result c =
    let sound = c.self.invariant in
    omega (arith, sled_total sound.bytes (program_in c.self.inside) sound.accepted, sound.accepted.header.sleds_limit, c.self.inside.sleds.ok.0, c.len.ensures)

pub returns-clause-few : goal.returns-clause-few
returns-clause-few c =
    let sound = c.self.invariant in
    omega (arith, sled_total sound.bytes (program_in c.self.inside) sound.accepted, sound.accepted.header.sleds_limit, c.self.inside.sleds.ok.0, c.len.ensures)
