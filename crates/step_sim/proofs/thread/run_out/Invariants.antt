use Rattle.machine_step.specs.Traced.{IsSameThread, loads_left}
use Rattle.step_sim.specs.private.Recording.{LeadsBy}
use Rattle.step_sim.proofs.thread.run_out.Given as goal

abbrev pub invariant-passings : goal.invariant-passings
invariant-passings l = IsSameThread l.initial.cpu l.cpu × LeadsBy l.patcher l.initial.cpu l.initial.pool l.cpu l.pool

abbrev pub decreases-passings : goal.decreases-passings
decreases-passings l = loads_left l.cpu
