use Rattle.std.proofs.Common.{◌≡◌, Some, subst}
use Rattle.std.specs.Prelude.{slice_get, Contains, MatchOption}
use Rattle.xray_image.specs.Program.{Program, addresses}
use Rattle.xray_image.specs.private.UnitTable.{units_in}
use Rattle.xray_image.proofs.image.Image.unit_at.Goals as goal

pub returns : goal.returns
returns c =
    subst (λ (p : Program). MatchOption c.find.result (Contains (addresses p.units) c.args.address → ⊥) (λ i. slice_get (addresses p.units) i ≡ Some c.args.address)) c.self.view_is
    (c.find.ensures (addresses (units_in c.self.inside.units)) c.self.invariant.index)
