use Rattle.std.proofs.Common.{◌≤◌, arith, length, subst}
use Rattle.std.specs.List.Sorted.{IsNonDecreasingBy}
use Rattle.xray_image.specs.Limits.{most_sleds}
use Rattle.xray_image.specs.Program.{Program}
use Rattle.xray_image.specs.private.ImageView.{program_in}
use Rattle.xray_image.specs.Layout.{SledsStand}
use Rattle.xray_image.proofs.Acceptance.{sled_total, sleds_stand}
use Rattle.xray_image.proofs.SideBySide.{ids_in_order}
use Rattle.xray_image.proofs.image.Image.sleds_stand_in_units.Goals as goal

pub returns-clause-few : goal.returns-clause-few
returns-clause-few c =
    let sound = c.self.invariant in
    let few : length (program_in c.self.inside).sleds ≤ most_sleds =
    omega (arith, sled_total sound.bytes (program_in c.self.inside) sound.accepted, sound.accepted.header.sleds_limit) in
    subst (λ (p : Program). length p.sleds ≤ most_sleds) c.self.view_is few

pub returns-clause-stand : goal.returns-clause-stand
returns-clause-stand c =
    let sound = c.self.invariant in
    subst (λ (p : Program). SledsStand p.units p.sleds) c.self.view_is (sleds_stand sound.bytes (program_in c.self.inside) sound.accepted)

pub returns-clause-in_order : goal.returns-clause-in_order
returns-clause-in_order c =
    let sound = c.self.invariant in
    subst (λ (p : Program). IsNonDecreasingBy (λ s. s.id) p.sleds) c.self.view_is (ids_in_order sound.bytes (program_in c.self.inside) sound.accepted)
