use Rattle.std.proofs.Common.{◌≡◌, ◌≤◌, subst}
use Rattle.std.specs.Prelude.{◌↔◌}
use Rattle.patch_script.specs.declared.micro.Micro.TheVariants.{End}
use Rattle.patch_script.specs.Micros.{total_of}
use Rattle.patch_script.specs.private.Placing.{lines_in}
use Rattle.patch_script.specs.Plans.{Plan, IsWithin}
use Rattle.patch_script.specs.Refusals.{commands_of}
use Rattle.patch_script.specs.private.Scripts.{plan_in}
use Rattle.patch_script.proofs.NoEnd.{end_only_past}
use Rattle.patch_script.proofs.ScriptRows.{orderly}
use Rattle.patch_script.proofs.MicroNames.{micro_within}
use Rattle.patch_script.proofs.script.Script.micro_near.Goals as goal

pub returns-clause-end : goal.returns-clause-end
returns-clause-end c =
    let placed = c.self.inside.placed in
    subst (λ (p : Plan). (c.micro_near.result ≡ End) ↔ (total_of p.program p.threads (commands_of p.lines) ≤ c.args.p)) c.self.view_is
    (end_only_past placed.image.value placed.threads (commands_of (lines_in placed)) c.args.p c.micro_near.result c.micro_near.ensures)

pub returns-clause-within : goal.returns-clause-within
returns-clause-within c =
    let plan = plan_in c.self.inside in
    subst (λ (p : Plan). IsWithin p c.micro_near.result) c.self.view_is
    (micro_within plan (orderly plan.program plan.threads c.self.invariant.read.0 plan c.self.invariant.read.1) c.args.p c.micro_near.result c.micro_near.ensures)
