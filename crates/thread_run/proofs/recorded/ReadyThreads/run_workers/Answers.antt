use Rattle.std.proofs.Common.{◌≡◌, ap, arith, length, map, subst, sym, ◌∙◌}
use Rattle.std.specs.Prelude.{All}
use Rattle.std.proofs.lemmas.List.{length-map}
use Rattle.sled_rule.specs.declared.table.CodeTable.{CodeTable}
use Rattle.sled_rule.specs.Seats.{IsWorkerOf, script_of}
use Rattle.thread_run.specs.Each.{HaveChanged}
use Rattle.thread_run.specs.Ready.{ReadyThreads}
use Rattle.thread_run.specs.private.Rooms.{IsGathered}
use Rattle.thread_run.specs.private.Starting.{AreStarted, HaveWorked}
use Rattle.thread_run.specs.Workers.{IsGoing, recorder_of}
use Rattle.thread_run.proofs.EachItem.{written_back}
use Rattle.thread_run.proofs.StartedWorkers.{all_going, all_run_out, own_seats, recorders_follow}
use Rattle.thread_run.proofs.recorded.ReadyThreads.run_workers.Goals as goal

pub run_threads-requires-clause-going : goal.run_threads-requires-clause-going
run_threads-requires-clause-going g c κs within =
    let s = c.self.inside in
    subst (All (IsGoing g.R.Recorder.stands)) (sym c.deref_mut.ensures.value)
    (all_going g.R.Recorder.stands s.table.now s.limits c.start_workers-workers.result.items (c.start_workers-workers.ensures.workers s.limits c.self.invariant.fresh))

pub returns-clause-seats : goal.returns-clause-seats
returns-clause-seats g c =
    let s = c.self.inside in
    let made = c.start_workers-workers in
    let new = c.run_threads.new.workers in
    let has = c.run_threads.ensures.workers in
    let started = subst (AreStarted g.R.Recorder.stands s.table.now s.limits) (sym c.deref_mut.ensures.value) (made.ensures.workers s.limits c.self.invariant.fresh) in
    let count : length new ≡ length made.result.items = has.count ∙ ap length c.deref_mut.ensures.value in
    let same = written_back made.result.len made.result.items new (omega (arith, made.result.ok.0, count)) in
    let gathered = subst (λ ws. IsGathered ws c.gather.result) same c.gather.ensures in
    let table_is : s.table.now ≡ c.args.self.table = ap (λ (r : ReadyThreads). r.table) c.self.view_is in
    subst (λ (t : CodeTable). All (IsWorkerOf t) c.gather.result.seats.items) table_is
    (subst (All (IsWorkerOf s.table.now)) (sym gathered.seats)
    (own_seats g.R.Recorder.stands g.R.Recorder.follows s.table.now s.limits c.deref_mut.result.now new started has))

pub returns-clause-worked : goal.returns-clause-worked
returns-clause-worked g c =
    let s = c.self.inside in
    let made = c.start_workers-workers in
    let new = c.run_threads.new.workers in
    let has = c.run_threads.ensures.workers in
    let end = c.gather.result in
    let started = subst (AreStarted g.R.Recorder.stands s.table.now s.limits) (sym c.deref_mut.ensures.value) (made.ensures.workers s.limits c.self.invariant.fresh) in
    let count : length new ≡ length made.result.items = has.count ∙ ap length c.deref_mut.ensures.value in
    let same = written_back made.result.len made.result.items new (omega (arith, made.result.ok.0, count)) in
    let gathered = subst (λ ws. IsGathered ws end) same c.gather.ensures in
    let were : map (λ w. recorder_of w) c.deref_mut.result.now ≡ c.args.recorders.items =
    ap (map (λ w. recorder_of w)) c.deref_mut.ensures.value ∙ made.ensures.recorders in
    let worked : HaveWorked g.R.Recorder.stands g.R.Recorder.follows (script_of s.table.now) s.limits c.args.recorders.items end.cpus.items end.seats.items
    end.recorders.items =
    record {
      workers = new;
      count = count ∙ sym (length-map made.result.items (λ w. recorder_of w)) ∙ ap length made.ensures.recorders;
      ended = all_run_out g.R.Recorder.stands g.R.Recorder.follows s.table.now s.limits c.deref_mut.result.now new started has;
      cpus_are = gathered.cpus;
      seats_are = gathered.seats;
      recorders_are = gathered.recorders;
      followed =
          subst (λ rs. HaveChanged g.R.Recorder.follows rs end.recorders.items) were
          (subst (HaveChanged g.R.Recorder.follows (map (λ w. recorder_of w) c.deref_mut.result.now)) (sym gathered.recorders)
          (recorders_follow g.R.Recorder.stands g.R.Recorder.follows c.deref_mut.result.now new has));
    } in
    subst (λ (r : ReadyThreads). HaveWorked g.R.Recorder.stands g.R.Recorder.follows (script_of r.table) r.limits c.args.recorders.items end.cpus.items
    end.seats.items end.recorders.items) c.self.view_is worked
