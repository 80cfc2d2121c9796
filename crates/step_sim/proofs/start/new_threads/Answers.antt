use Rattle.std.proofs.Common.{arith}
use Rattle.patch_script.specs.Refusals.{commands_of}
use Rattle.step_sim.proofs.Bounds.{none_begun, one_begun}
use Rattle.step_sim.proofs.start.new_threads.Goals as goal

pub loop-number-init : goal.loop-number-init
loop-number-init c =
    none_begun c.args.steps.now (commands_of c.args.script.now.lines) c.args.setup.now.threads c.args.setup.now.limits _ c.in_ok-cpus.ensures.items

pub loop-number-preserved : goal.loop-number-preserved
loop-number-preserved c =
    one_begun c.args.steps.now (commands_of c.args.script.now.lines) c.args.setup.now.threads c.args.setup.now.limits _ _ _ _
    c.loop-number.invariant.0 c.loop-number.invariant.1 c.in_ok-new_thread.ensures c.in_ok-push.ensures.items

pub returns-clause-count : goal.returns-clause-count
returns-clause-count c = omega (arith, c.loop-number.invariant.0, c.loop-number-test.false, c.loop-number.auto.number-end)

pub returns-clause-begun : goal.returns-clause-begun
returns-clause-begun c = c.loop-number.invariant.1
