use Rattle.std.proofs.Common.{List, All, arith, subst, sym}
use Rattle.step_sim.specs.declared.turns.Turns.{Turns as Line}
use Rattle.step_sim.specs.Schedules.{AreTurnsOf}
use Rattle.patch_script.specs.Refusals.{commands_of}
use Rattle.run_order.proofs.FreeReading.{free_plan}
use Rattle.run_order.proofs.OrderLeavesRun.{order_leaves, schedule_made}
use Rattle.run_order.proofs.TurnsOf.{ordered_turns}
use Rattle.run_order.proofs.laws.an_order_leaves_its_run.Goals as goal

pub returns-clause-turns : goal.returns-clause-turns
returns-clause-turns c program text plan setup runs schedule is order =
    subst (λ (s : List Line). All (AreTurnsOf setup.threads) s)
    (sym (schedule_made program setup setup.threads (commands_of plan.lines) runs
    (λ thread passing. c.awaits_bound_passings.ensures.within program setup.threads (commands_of plan.lines) thread passing) is schedule order))
    (ordered_turns setup.threads _ _ order.places (omega (arith, order.are.count, is.count)))

pub returns-clause-leaves : goal.returns-clause-leaves
returns-clause-leaves c program text plan setup runs schedule e is order =
    let free = free_plan program setup.threads text plan e in
    order_leaves c.buffers_change_no_replay.ensures.has
    (λ p n script thread passing. c.awaits_bound_passings.ensures.within p n script thread passing)
    program setup (commands_of plan.lines) runs schedule is free.releases order
