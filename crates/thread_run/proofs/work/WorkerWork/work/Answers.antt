use Rattle.thread_run.proofs.WorkerLoads.{more_ended, more_held, more_none, worker_again, worker_then}
use Rattle.thread_run.proofs.work.WorkerWork.work.Goals as goal

pub turns-init : goal.turns-init
turns-init g c = (c.requires, worker_again g.R.Recorder.follows g.met.R.Recorder.follows_itself c.args.self.now, more_none c.args.self.now)

pub returns-in-Done : goal.returns-in-Done
returns-in-Done g c =
    let done = c.run.ensures.done c.in-Done.is in
    let more = more_ended c.args.self.now c.turns.self c.run.new.self c.turns.invariant.2 done.1 in
    record {
      same =
          worker_then g.R.Recorder.follows g.met.R.Recorder.follows_along c.args.self.now c.turns.self c.run.new.self c.turns.invariant.1 c.run.ensures.same;
      made = more.made;
      loads = more.loads;
      ended = done.0;
    }

pub turns-preserved : goal.turns-preserved
turns-preserved g c =
    let held = c.run.ensures.held c.in-Held.is in (
      held.0,
      worker_then g.R.Recorder.follows g.met.R.Recorder.follows_along c.args.self.now c.turns.self c.run.new.self c.turns.invariant.1 c.run.ensures.same,
      more_held c.args.self.now c.turns.self c.run.new.self c.turns.invariant.2 held.1,
    )
