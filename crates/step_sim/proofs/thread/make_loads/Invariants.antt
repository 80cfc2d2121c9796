use Rattle.machine_step.specs.Traced.{IsSameThread}
use Rattle.step_sim.proofs.OneRecorded.{LeadsRecord}
use Rattle.step_sim.proofs.OneThread.{LeadsOn}
use Rattle.step_sim.proofs.thread.make_loads.Given as goal

abbrev pub invariant-loop-load : goal.invariant-loop-load
invariant-loop-load l =
    IsSameThread l.initial.cpu l.cpu × LeadsOn l._load l.patcher l.initial.cpu l.cpu
    × LeadsRecord l._load l.patcher l.initial.cpu l.initial.pool l.cpu l.pool
