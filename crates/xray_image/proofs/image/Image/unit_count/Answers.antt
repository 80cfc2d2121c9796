use Rattle.std.proofs.Common.{subst}
use Rattle.xray_image.specs.Program.{Program}
use Rattle.xray_image.specs.private.ImageView.{program_in}
use Rattle.xray_image.specs.Layout.{AreContiguous}
use Rattle.xray_image.proofs.Acceptance.{are_contiguous}
use Rattle.xray_image.proofs.image.Image.unit_count.Goals as goal

pub returns-clause-contiguous : goal.returns-clause-contiguous
returns-clause-contiguous c =
    let sound = c.self.invariant in
    subst (λ (p : Program). AreContiguous p.base p.units) c.self.view_is (are_contiguous sound.bytes (program_in c.self.inside) sound.accepted)
