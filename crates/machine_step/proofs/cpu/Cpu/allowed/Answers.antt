use Rattle.std.proofs.Common.{◌≡◌, ◌<◌, ℕ, Bool, Some, length, sym, subst}
use Rattle.std.specs.Prelude.{◌↔◌, IsTrue, slice_get}
use Rattle.xray_image.specs.declared.sled.Sled.{Sled}
use Rattle.xray_image.specs.Program.{Program}
use Rattle.machine_step.specs.declared.stage.Stage.{Stage}
use Rattle.machine_step.specs.private.Stages.{AllowsAt}
use Rattle.machine_step.specs.Traced.{Allows, Traced}
use Rattle.machine_step.proofs.OpenedPassing.{allows_by, loading_at, sled_within}
use Rattle.machine_step.proofs.cpu.Cpu.allowed.Goals as goal

-- an answer says whether a value is allowed at a stage of a passing of a sled
abbrev AllowsIn : ℕ → Stage → ℕ → Bool → Program → Type 0
AllowsIn k stage value answer program =
    (sled : Sled) → slice_get program.sleds k ≡ Some sled → IsTrue answer ↔ AllowsAt program.trampolines sled stage value

pub allows-requires : goal.allows-requires
allows-requires c =
    subst (λ (program : Program). c.in-Loading.sled < length program.sleds) (sym c.image.ensures.program)
    (sled_within c.self.inside c.self.invariant c.in-Loading.place c.in-Loading.sled
    (loading_at c.self.inside c.self.invariant c.in-Loading.place c.in-Loading.sled c.in-Loading.stage c.in-Loading.is))

pub returns : goal.returns
returns c =
    subst (λ (t : Traced). IsTrue c.allows.result ↔ Allows t t.want c.args.value) c.self.view_is
    (allows_by c.self.inside c.self.invariant c.in-Loading.place c.in-Loading.sled c.in-Loading.stage c.args.value c.in-Loading.is
    c.allows.result (subst (AllowsIn c.in-Loading.sled c.in-Loading.stage c.args.value c.allows.result) c.image.ensures.program c.allows.ensures))
