use Rattle.thread_run.specs.Workers.{IsGoing, IsSameWorker}
use Rattle.thread_run.proofs.WorkerLoads.{HasMore}
use Rattle.thread_run.proofs.work.WorkerWork.work.Given as goal

abbrev pub invariant-turns : goal.invariant-turns
invariant-turns g l =
    IsGoing g.R.Recorder.stands l.self × IsSameWorker g.R.Recorder.follows l.initial.self l.self × HasMore l.initial.self l.self
