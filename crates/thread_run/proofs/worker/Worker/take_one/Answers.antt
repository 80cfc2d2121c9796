use Rattle.std.proofs.Common.{ap, refl, subst, ◌∙◌}
use Rattle.machine_step.specs.Traced.{IsLoadable}
use Rattle.sled_rule.specs.declared.seats.WorkSeat.{WorkSeat}
use Rattle.sled_rule.specs.declared.views.WorkView.{WorkView}
use Rattle.sled_rule.specs.Seats.{work_view, script_of}
use Rattle.thread_run.specs.Following.{given}
use Rattle.thread_run.proofs.LoadAndSeat.{is_kept, not_kept, the_load, word_there}
use Rattle.thread_run.proofs.WorkerLoads.{seat_changed, worker_then}
use Rattle.thread_run.proofs.worker.Worker.take_one.Goals as goal

pub fetch-found-requires-clause-word : goal.fetch-found-requires-clause-word
fetch-found-requires-clause-word g c =
    let worker = c.args.self.now in
    word_there (script_of worker.table.now) worker.cpu c.args.word c.requires.going.at.thread
    (subst (IsLoadable worker.cpu) c.requires.wants c.requires.there)

pub give-requires : goal.give-requires
give-requires g c = record {
  fetched = record {
    before = c.args.self.now.seat;
    word = c.args.word;
    going = c.requires.going;
    wants = c.requires.wants;
    own = c.fetch-found.ensures.own;
    fetched = c.fetch-found.ensures.fetched;
  };
}

pub returns-clause-same : goal.returns-clause-same
returns-clause-same g c =
    let worker = c.args.self.now in
    worker_then g.R.Recorder.follows g.met.R.Recorder.follows_along worker _ c.give.new.self
    (seat_changed g.R.Recorder.follows g.met.R.Recorder.follows_itself worker c.fetch-found.new.seat) c.give.ensures.same

pub returns-clause-taken : goal.returns-clause-taken
returns-clause-taken g c =
    let t = c.args.self.now.cpu in
    let v = work_view c.args.self.now.seat in
    let plan = script_of c.args.self.now.table.now in
    let at = c.requires.going.at in
    let gave = c.give.ensures.given in
    let fetched = c.fetch-found.ensures.fetched in
    let load = the_load v c.args.word c.fetch-found.result fetched.place in
    record {
      count =
          ap (λ (s : WorkSeat). (work_view s).count) c.give.ensures.seat
          ∙ ap (λ (x : WorkView). x.count) fetched.view
          ∙ c.requires.going.count;
      marks = gave.marks;
      load = load;
      word_is = refl;
      loads = ap (λ (s : WorkSeat). (work_view s).loads) c.give.ensures.seat ∙ ap (λ (x : WorkView). x.loads) fetched.view;
      held = λ held. gave.kept (is_kept plan t at.passed (given v.loads) load at.thread at.along.all.loaded c.requires.wants held);
      goes_on = λ on. gave.nearer (not_kept t load c.requires.wants on);
    }
