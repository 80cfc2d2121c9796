use Rattle.std.proofs.Common.{◌≡◌, arith, refl, subst}
use Rattle.xray_image.specs.Program.{Program}
use Rattle.xray_image.specs.Ids.{id_count}
use Rattle.xray_image.specs.private.ImageView.{program_in}
use Rattle.xray_image.proofs.Acceptance.{sled_total}
use Rattle.xray_image.proofs.FunctionNames.{accepted_ascend, numbers_few}
use Rattle.xray_image.proofs.image.Image.id_count.Goals as goal

pub overflow_cast-result : goal.overflow_cast-result
overflow_cast-result c =
    let sound = c.self.invariant in
    let inside = c.self.inside in
    let program = program_in inside in
    let few = numbers_few program inside.functions.items inside.ids.items refl (accepted_ascend sound.bytes program sound.accepted) sound.ids in
    omega (arith, sled_total sound.bytes program sound.accepted, sound.accepted.header.sleds_limit, inside.ids.ok.0, c.len.ensures, few.1)

pub returns : goal.returns
returns c =
    let sound = c.self.invariant in
    let inside = c.self.inside in
    let program = program_in inside in
    let few = numbers_few program inside.functions.items inside.ids.items refl (accepted_ascend sound.bytes program sound.accepted) sound.ids in
    subst (λ (p : Program). c.len.result ≡ id_count p) c.self.view_is (omega (arith, c.len.ensures, inside.ids.ok.0, few.0))
