use Rattle.std.proofs.Common.{ap, subst, sym}
use Rattle.xray_image.specs.Program.{IsAccepted}
use Rattle.sled_rule.specs.declared.views.WorkView.{WorkView}
use Rattle.sled_rule.specs.Seats.{work_view, script_of}
use Rattle.sled_rule.specs.Views.{ended_count}
use Rattle.thread_run.proofs.LoadAndSeat.{at_work_counted, marks_follow}
use Rattle.thread_run.proofs.WorkerLoads.{seat_changed}
use Rattle.thread_run.proofs.worker.Worker.finish.Goals as goal

pub returns-clause-same : goal.returns-clause-same
returns-clause-same g c = seat_changed g.R.Recorder.follows g.met.R.Recorder.follows_itself c.args.self.now c.ended.new.seat

pub returns-clause-ended : goal.returns-clause-ended
returns-clause-ended g c =
    let worker = c.args.self.now in let at = c.requires.going.at in
    let after = at_work_counted g.R.Recorder.stands worker c.ended.new.seat ended_count at c.ended.ensures.own c.ended.ensures.view in
    let has = after.along.all.loaded in
    let ends = c.a_traced_thread_ends_as_its_plain_run.ensures at.thread.accepted.0 worker.cpu at.passed at.passed _ has.end has.last
    (subst (IsAccepted at.thread.accepted.0) (sym at.thread.program) at.thread.accepted.1) has c.requires.done c.a_thread_stands_as_it_wants.ensures has.run in
    record {
      at = after;
      count = ap (λ (x : WorkView). x.count) c.ended.ensures.view;
      end = has.end;
      last = has.last;
      plain = ends;
      marks = marks_follow (script_of worker.table.now) worker.cpu (work_view worker.seat) at.passed has.end has.last _ at.thread at.along at.within ends;
    }
