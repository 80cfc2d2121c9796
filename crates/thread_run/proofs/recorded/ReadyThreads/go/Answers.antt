use Rattle.sled_rule.specs.Seats.{script_of}
use Rattle.thread_run.proofs.StartedWorkers.{have_recorded}
use Rattle.thread_run.proofs.recorded.ReadyThreads.go.Goals as goal

pub returns-clause-recorded : goal.returns-clause-recorded
returns-clause-recorded g c =
    have_recorded g.R.Recorder.stands g.R.Recorder.follows (script_of c.args.self.table) c.args.self.limits c.args.recorders.items
    c.run_workers.result.cpus.items c.run_workers.result.seats.items c.run_workers.result.recorders.items c.run_workers.ensures.worked
