use Rattle.patch_script.specs.Refusals.{commands_of}
use Rattle.run_order.proofs.OrderLeavesRun.{one_order, some_order}
use Rattle.run_order.proofs.laws.each_lawful_run_has_one_order.Goals as goal

pub returns-clause-some : goal.returns-clause-some
returns-clause-some c program text plan setup runs e is follow =
    some_order (λ p n s thread passing. c.awaits_bound_passings.ensures.within p n s thread passing) program setup (commands_of plan.lines) runs is follow

pub returns-clause-one : goal.returns-clause-one
returns-clause-one c program plan setup runs schedule other a b =
    one_order program setup.threads (commands_of plan.lines) runs schedule other a b
