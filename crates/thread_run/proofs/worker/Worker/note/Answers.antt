use Rattle.std.proofs.Common.{refl}
use Rattle.thread_run.proofs.WorkerLoads.{same_again, worker_then}
use Rattle.thread_run.proofs.worker.Worker.note.Goals as goal

pub go_on-requires-clause-at : goal.go_on-requires-clause-at
go_on-requires-clause-at g c = c.requires.lacks.once c.note.new.self c.note.ensures.noted

pub returns-clause-same : goal.returns-clause-same
returns-clause-same g c =
    let worker = c.args.self.now in
    worker_then g.R.Recorder.follows g.met.R.Recorder.follows_along worker _ c.go_on.new.self
    (record { table = refl; thread = same_again worker.cpu; recorder = c.note.ensures.follows }) c.go_on.ensures.same
