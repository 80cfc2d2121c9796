use Rattle.machine_step.specs.Traced.{loads_left}
use Rattle.thread_run.proofs.WorkerLoads.{GoesOn}
use Rattle.thread_run.proofs.worker.Worker.run.Given as goal

abbrev pub invariant-loads : goal.invariant-loads
invariant-loads g l = GoesOn g.R.Recorder.stands g.R.Recorder.follows l.initial.self l.self l.want

abbrev pub decreases-loads : goal.decreases-loads
decreases-loads g l = loads_left l.self.cpu
