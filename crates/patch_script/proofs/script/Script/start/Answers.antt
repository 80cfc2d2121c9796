use Rattle.std.proofs.Common.{◌<◌, ◌≤◌, ℕ, subst, arith}
use Rattle.patch_script.specs.Micros.{total_of, micro_at}
use Rattle.patch_script.specs.private.Placing.{lines_in}
use Rattle.patch_script.specs.Plans.{Plan, IsOrderly, IsStore}
use Rattle.patch_script.specs.Refusals.{commands_of}
use Rattle.patch_script.specs.private.Scripts.{plan_in}
use Rattle.patch_script.proofs.BeforeGo.{stores_before_go}
use Rattle.patch_script.proofs.ScriptRows.{orderly}
use Rattle.patch_script.proofs.Steps.{start_within}
use Rattle.patch_script.proofs.script.Script.start.Goals as goal

pub returns-clause-within : goal.returns-clause-within
returns-clause-within c =
    let placed = c.self.inside.placed in
    subst (λ (p : Plan). placed.start ≤ total_of p.program p.threads (commands_of p.lines)) c.self.view_is
    (omega (arith, c.self.invariant.placed.start, start_within placed.image.value placed.threads (commands_of (lines_in placed))))

pub returns-clause-orderly : goal.returns-clause-orderly
returns-clause-orderly c =
    let plan = plan_in c.self.inside in
    subst IsOrderly c.self.view_is (orderly plan.program plan.threads c.self.invariant.read.0 plan c.self.invariant.read.1)

pub returns-clause-stores : goal.returns-clause-stores
returns-clause-stores c =
    let plan = plan_in c.self.inside in
    let all = orderly plan.program plan.threads c.self.invariant.read.0 plan c.self.invariant.read.1 in
    subst (λ (p : Plan). (place : ℕ) → place < c.self.inside.placed.start → IsStore (micro_at p.program p.threads (commands_of p.lines) place)) c.self.view_is
    (λ place lt. stores_before_go plan all place (omega (arith, c.self.invariant.placed.start, lt)))
