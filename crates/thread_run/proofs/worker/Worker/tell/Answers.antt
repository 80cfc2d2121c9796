use Rattle.std.proofs.Common.{ap, ◌+◌, ◌∙◌}
use Rattle.sled_rule.specs.declared.views.WorkView.{WorkView}
use Rattle.sled_rule.specs.Seats.{work_view}
use Rattle.thread_run.proofs.LoadAndSeat.{at_work_counted}
use Rattle.thread_run.proofs.WorkerLoads.{seat_changed}
use Rattle.thread_run.proofs.worker.Worker.tell.Goals as goal

pub returns-clause-same : goal.returns-clause-same
returns-clause-same g c = seat_changed g.R.Recorder.follows g.met.R.Recorder.follows_itself c.args.self.now c.passed.new.seat

pub returns-clause-going : goal.returns-clause-going
returns-clause-going g c =
    let worker = c.args.self.now in
    record {
      at = at_work_counted g.R.Recorder.stands worker c.passed.new.seat ((work_view worker.seat).count + 1) c.requires.at c.passed.ensures.own c.passed.ensures.view;
      count = ap (λ (x : WorkView). x.count) c.passed.ensures.view ∙ c.requires.one;
    }
