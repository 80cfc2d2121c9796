use Rattle.std.proofs.Common.{◌≡◌, ◌∙◌, ℕ, ◌+◌, arith, min, subst}
use Rattle.patch_script.specs.Micros.{total_of}
use Rattle.step_sim.specs.private.Standing.{IsPatcherAt}
use Rattle.step_sim.proofs.patcher.Patcher.make_steps.Goals as goal

pub returns-then-not-make_step-clause-at : goal.returns-then-not-make_step-clause-at
returns-then-not-make_step-clause-at c = λ program threads script place at.
    let made = c.loop-step._step in
    let total : ℕ = total_of program threads script in
    let here = c.loop-step.invariant.1 program threads script place at in
    let all : min (place + made) total ≡ total = c.if-not-make_step.ensures.left program threads script (min (place + made) total) here in
    let same : min (min (place + made) total + 1) total ≡ min (place + c.args.count) total = omega (arith, all, c.loop-step-test.true) in
    subst (λ (n : ℕ). IsPatcherAt program threads script n c.make_step.new.self) same
    (c.if-not-make_step.ensures.at program threads script (min (place + made) total) here)

pub loop-step-preserved : goal.loop-step-preserved
loop-step-preserved c = (
  c.if-not-make_step.ensures.words ∙ c.loop-step.invariant.0,
  λ program threads script place at.
      let made = c.loop-step._step in
      let total : ℕ = total_of program threads script in
      let here = c.loop-step.invariant.1 program threads script place at in
      let same : min (min (place + made) total + 1) total ≡ min (place + (made + 1)) total = omega arith in
      subst (λ (n : ℕ). IsPatcherAt program threads script n c.make_step.new.self) same
      (c.if-not-make_step.ensures.at program threads script (min (place + made) total) here),
)
