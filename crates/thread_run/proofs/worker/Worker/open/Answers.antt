use Rattle.std.proofs.Common.{ap, refl, sym, subst, length, ◌∙◌}
use Rattle.std.specs.Prelude.{List}
use Rattle.handler_word.specs.declared.mark.Mark.{Mark}
use Rattle.machine_step.specs.Events.{recorded}
use Rattle.machine_step.specs.Traced.{Traced}
use Rattle.sled_rule.specs.Seats.{work_view, script_of}
use Rattle.thread_run.proofs.LoadAndSeat.{along_same, same_in}
use Rattle.thread_run.proofs.WorkerLoads.{opened_same}
use Rattle.thread_run.proofs.worker.Worker.open.Goals as goal

pub returns-clause-same : goal.returns-clause-same
returns-clause-same g c = record {
  table = refl;
  thread = opened_same c.args.self.now.cpu c.opened.new.self c.opened.ensures.same;
  recorder = g.met.R.Recorder.follows_itself _;
}

pub returns-clause-going : goal.returns-clause-going
returns-clause-going g c =
    let worker = c.args.self.now in
    let plan = script_of worker.table.now in
    let t = worker.cpu in
    let t' = c.opened.new.self in
    let at = c.requires.going.at in
    let same = opened_same t t' c.opened.ensures.same in
    let marks = ap (λ (x : Traced). x.marks) c.opened.ensures.same in
    record {
      at = record {
        own = at.own;
        thread = same_in plan t t' at.thread same;
        seat = at.seat ∙ sym same.thread;
        within = at.within;
        passed = at.passed;
        along = along_same plan t t' (work_view worker.seat) at.passed same.thread (λ loads. c.opened.ensures.loads at.passed loads) at.along;
        recorded_are = subst (λ (m : List Mark). g.R.Recorder.stands worker.recorder (recorded at.passed m)) (sym marks) at.recorded_are;
      };
      count = c.requires.going.count ∙ ap length (sym marks);
    }
