-- Workers that are made for threads and their recorders, and have run.
use Rattle.std.proofs.Common.{◌≡◌, ℕ, zero, suc, ◌+◌, ◌<◌, List, [], ◌∷◌, ◌++◌, Some, ap, append_assoc, arith, get_or, length, length-append, map, refl, subst, sym, ◌∙◌}
use Rattle.std.specs.Prelude.{All, slice_get}
use Rattle.std.proofs.lemmas.List.{length-map}
use Rattle.std.proofs.Math.Seq.{get_or-append_seam}
use Rattle.std.proofs.lemmas.Option.{slice_get-get_or, slice_get_within}
use Rattle.fdr_record.specs.declared.event.Event.{Event}
use Rattle.machine_step.specs.declared.limits.Limits.{Limits}
use Rattle.machine_step.proofs.LoadByLoad.{later}
use Rattle.machine_step.specs.PlainStep.{PlainRun}
use Rattle.machine_step.specs.Traced.{Traced, sleds_passed}
use Rattle.patch_script.specs.Micros.{total_of}
use Rattle.patch_script.specs.Plans.{Plan}
use Rattle.patch_script.specs.Refusals.{commands_of}
use Rattle.sled_rule.specs.declared.seats.WorkSeat.{WorkSeat}
use Rattle.sled_rule.specs.declared.table.CodeTable.{CodeTable}
use Rattle.sled_rule.specs.declared.views.WorkView.{WorkView}
use Rattle.sled_rule.specs.Seats.{IsWorkerOf, script_of, work_view}
use Rattle.traced_run.specs.Following.{LoadsFollow, MarksFollowScript}
use Rattle.traced_run.specs.Left.{HasRun}
use Rattle.traced_run.specs.Runs.{ThreadRun, events_of}
use Rattle.thread_run.specs.declared.worker.Worker.{Worker}
use Rattle.thread_run.specs.Each.{HaveChanged}
use Rattle.thread_run.specs.Following.{given}
use Rattle.thread_run.specs.Recorded.{HaveRecorded}
use Rattle.thread_run.specs.Runs.{HasRunAlong}
use Rattle.thread_run.specs.Workers.{HasEnded, HasRunOut, HaveRun, IsFreshThread, IsGoing, cpu_of, loads_of, recorder_of, seat_of, table_of}
use Rattle.thread_run.specs.private.Starting.{AreFreshThreads, AreStarted, AreWorkersAt, HaveWorked, IsFreshAt, IsGoingAt, IsWorkerAt}
use Rattle.thread_run.proofs.EachItem.{all_of, map_more, next_is, no_item, of_item, one_more, one_taken, same_found, same_item, there_is}

-- ---- threads before their first loads

-- the thread that comes next
pub next_fresh : (plan : Plan) (limits : Limits) (cpus yielded rest : List Traced) (t : Traced) → AreFreshThreads plan limits cpus
    → (yielded ++ t ∷ []) ++ rest ≡ cpus → IsFreshAt plan limits (length yielded + 1) t
next_fresh plan limits cpus yielded rest t are order =
    let placed : yielded ++ t ∷ rest ≡ cpus = sym (append_assoc yielded (t ∷ []) rest) ∙ order in
    let within : length yielded < length cpus = omega (arith, ap length placed, length-append yielded (t ∷ rest)) in
    let found : get_or cpus (length yielded) t ≡ t =
    ap (λ (l : List Traced). get_or l (length yielded) t) (sym placed) ∙ get_or-append_seam yielded t rest t in
    are (length yielded) t (slice_get-get_or cpus (length yielded) t within ∙ ap (λ (u : Traced). Some u) found)

-- one more thread
pub one_more_fresh : (plan : Plan) (limits : Limits) (old new : List Traced) (t : Traced) (number : ℕ) → length old ≡ number
    → AreFreshThreads plan limits old → IsFreshThread plan t → t.thread ≡ number + 1 → t.limits ≡ limits → new ≡ old ++ t ∷ []
    → AreFreshThreads plan limits new
one_more_fresh plan limits old new t number count are fresh thread limits_are more =
    one_more (λ i (u : Traced). IsFreshAt plan limits (i + 1) u) old new t number count are
    (record { fresh = fresh; thread = thread; limits_are = limits_are }) more

-- the worker of the thread that comes next
pub one_more_started : {R : Type 0} (stands : R → List Event → Type 0) (table : CodeTable) (limits : Limits) (number : ℕ) (old new : List (Worker R))
    (worker : Worker R) (t : Traced) → length old ≡ number → AreStarted stands table limits old → IsFreshAt (script_of table) limits (number + 1) t
    → cpu_of worker ≡ t → IsGoing stands worker → table_of worker ≡ table → new ≡ old ++ worker ∷ [] → AreStarted stands table limits new
one_more_started {R} stands table limits number old new worker t count are is cpu going same more =
    one_more (λ i (w : Worker R). IsWorkerAt (script_of table) limits (i + 1) w × IsGoingAt stands table w) old new worker number count are (
      record {
        table = ap script_of same;
        thread = ap (λ (u : Traced). u.thread) cpu ∙ is.thread;
        limits_are = ap (λ (u : Traced). u.limits) cpu ∙ is.limits_are;
      },
      (going, same),
    )
    more

-- the recorders of the workers so far, and those that are left
pub one_recorder_less : {R : Type 0} (old new : List (Worker R)) (worker : Worker R) (recorder : R) (left rest all : List R)
    → map (λ (w : Worker R). recorder_of w) old ++ left ≡ all → left ≡ recorder ∷ rest → recorder_of worker ≡ recorder → new ≡ old ++ worker ∷ []
    → map (λ (w : Worker R). recorder_of w) new ++ rest ≡ all
one_recorder_less {R} old new worker recorder left rest all order is his more =
    ap (λ (rs : List R). rs ++ rest)
    (sym (map_more (λ (w : Worker R). recorder_of w) old worker new (map (λ (w : Worker R). recorder_of w) old) recorder refl his more))
    ∙ one_taken (map (λ (w : Worker R). recorder_of w) old) rest recorder left all is order

-- what holds of all recorders holds of the one that is taken next
pub next_recorder : {R : Type 0} (P : R → Type 0) (workers : List (Worker R)) (recorder : R) (left rest all : List R) → All P all
    → map (λ (w : Worker R). recorder_of w) workers ++ left ≡ all → left ≡ recorder ∷ rest → P recorder
next_recorder {R} P workers recorder left rest all each order is =
    next_is P all (map (λ (w : Worker R). recorder_of w) workers) rest recorder each
    (one_taken (map (λ (w : Worker R). recorder_of w) workers) rest recorder left all is order)

-- ---- workers

-- all of them are going
pub all_going : {R : Type 0} (stands : R → List Event → Type 0) (table : CodeTable) (limits : Limits) (workers : List (Worker R))
    → AreStarted stands table limits workers → All (IsGoing stands) workers
all_going stands table limits workers are = all_of (IsGoing stands) workers (λ i worker found. (are i worker found).1.0)

run_out : {R : Type 0} (stands : R → List Event → Type 0) (follows : R → R → Type 0) (plan : Plan) (limits : Limits) (number : ℕ)
    (old new : Worker R) → IsWorkerAt plan limits number old → HasRunOut stands follows old new
    → IsWorkerAt plan limits number new × HasEnded stands new
run_out stands follows plan limits number old new is has =
    let same = has.same in (
      record {
        table = ap script_of same.table ∙ is.table;
        thread = same.thread.thread ∙ is.thread;
        limits_are = same.thread.limits ∙ is.limits_are;
      },
      has.ended,
    )

pub all_run_out : {R : Type 0} (stands : R → List Event → Type 0) (follows : R → R → Type 0) (table : CodeTable) (limits : Limits)
    (old new : List (Worker R)) → AreStarted stands table limits old → HaveRun stands follows old new
    → AreWorkersAt (script_of table) limits (HasEnded stands) new
all_run_out stands follows table limits old new are has i worker here =
    let within : i < length old = omega (arith, slice_get_within new i worker here, has.count) in
    let was = there_is old i within in
    run_out stands follows (script_of table) limits (i + 1) was.0 worker (are i was.0 was.1).0 (has.each i was.0 worker was.1 here)

-- their seats are the table's
pub own_seats : {R : Type 0} (stands : R → List Event → Type 0) (follows : R → R → Type 0) (table : CodeTable) (limits : Limits)
    (old new : List (Worker R)) → AreStarted stands table limits old → HaveRun stands follows old new
    → All (IsWorkerOf table) (map (λ (w : Worker R). seat_of w) new)
own_seats {R} stands follows table limits old new are has =
    all_of (IsWorkerOf table) (map (λ (w : Worker R). seat_of w) new) (λ i seat found.
    let one = of_item (λ (w : Worker R). seat_of w) new i seat found in
    let was = there_is old i (omega (arith, slice_get_within new i one.0 one.1, has.count)) in
    let ran = has.each i was.0 one.0 was.1 one.1 in
    subst (IsWorkerOf table) one.2
    (subst (λ (t : CodeTable). IsWorkerOf t (seat_of one.0)) (ran.same.table ∙ (are i was.0 was.1).1.1) ran.ended.at.own))

-- their recorders follow those that they began with
pub recorders_follow : {R : Type 0} (stands : R → List Event → Type 0) (follows : R → R → Type 0) (old new : List (Worker R))
    → HaveRun stands follows old new → HaveChanged follows (map (λ (w : Worker R). recorder_of w) old) (map (λ (w : Worker R). recorder_of w) new)
recorders_follow {R} stands follows old new has = record {
  count = length-map new (λ (w : Worker R). recorder_of w) ∙ has.count ∙ sym (length-map old (λ (w : Worker R). recorder_of w));
  each = λ i before after here there.
      let was = of_item (λ (w : Worker R). recorder_of w) old i before here in
      let one = of_item (λ (w : Worker R). recorder_of w) new i after there in
      subst (λ (r : R). follows r after) was.2
      (subst (follows (recorder_of was.0)) one.2 (has.each i was.0 one.0 was.1 one.1).same.recorder);
}

-- ---- the runs of workers that have ended

-- a worker with its run
pub record IsRunOf {R : Type 0} (stands : R → List Event → Type 0) (plan : Plan) (limits : Limits) (number : ℕ) (worker : Worker R)
    (run : ThreadRun) : Type 0 where
  pub plain : PlainRun plan.program limits number run.passed run.end run.last
  pub follow : MarksFollowScript plan.program plan.threads (commands_of plan.lines) number (sleds_passed run.passed) run.marks
  pub along : HasRunAlong plan.program plan.threads (commands_of plan.lines) number run (cpu_of worker) (work_view (seat_of worker))
  pub has : HasRun number run (cpu_of worker)
  pub recorded : stands (recorder_of worker) (events_of run)

-- its run, if so many of its segments were lost
pub run_of : {R : Type 0} (stands : R → List Event → Type 0) (plan : Plan) (limits : Limits) (number lost : ℕ) (worker : Worker R)
    → IsWorkerAt plan limits number worker → (ended : HasEnded stands worker)
    → IsRunOf stands plan limits number worker
    (record { passed = ended.at.passed; end = ended.end; last = ended.last; marks = (cpu_of worker).marks; lost = lost })
run_of stands plan limits number lost worker is ended =
    let t : Traced = cpu_of worker in
    let at = ended.at in
    let ends = ended.plain in
    record {
      plain =
          subst (λ q. PlainRun q limits number at.passed ended.end ended.last) (at.thread.program ∙ ap (λ (p : Plan). p.program) is.table)
          (subst (λ l. PlainRun t.program l number at.passed ended.end ended.last) is.limits_are
          (subst (λ k. PlainRun t.program t.limits k at.passed ended.end ended.last) is.thread ends.run));
      follow =
          subst (λ k. MarksFollowScript plan.program plan.threads (commands_of plan.lines) k (sleds_passed at.passed) t.marks) is.thread
          (subst (λ (p : Plan). MarksFollowScript p.program p.threads (commands_of p.lines) t.thread (sleds_passed at.passed) t.marks) is.table ended.marks);
      along = record {
        owner = at.seat ∙ is.thread;
        ended = ended.count;
        follow =
            subst (λ k. LoadsFollow plan.program plan.threads (commands_of plan.lines) k (sleds_passed at.passed) (given (loads_of worker)) (total_of plan.program plan.threads (commands_of plan.lines))) is.thread
            (subst (λ (p : Plan). LoadsFollow p.program p.threads (commands_of p.lines) t.thread (sleds_passed at.passed) (given (loads_of worker)) (total_of p.program p.threads (commands_of p.lines))) is.table
            (later (given (loads_of worker)) _ _ at.within at.along.all.follow));
        ends = ends;
      };
      has = record { thread = is.thread; loads = given (loads_of worker); ends = ends; marks = refl };
      recorded = at.recorded_are;
    }

module _ {R : Type 0} (stands : R → List Event → Type 0) (plan : Plan) (limits : Limits) where
  abbrev AreRunsOf : ℕ → List (Worker R) → List ThreadRun → Type 0
  AreRunsOf n [] [] = Unit {0}
  AreRunsOf n [] (run ∷ runs) = ⊥
  AreRunsOf n (worker ∷ workers) [] = ⊥
  AreRunsOf n (worker ∷ workers) (run ∷ runs) = IsRunOf stands plan limits n worker run × AreRunsOf (n + 1) workers runs

  all_runs : (n : ℕ) (workers : List (Worker R))
      → ((i : ℕ) (worker : Worker R) → slice_get workers i ≡ Some worker → IsWorkerAt plan limits (n + i) worker × HasEnded stands worker)
      → (runs : List ThreadRun) × AreRunsOf n workers runs
  all_runs n [] each = ([], tt)
  all_runs n (worker ∷ workers) each =
      let here : n + 0 ≡ n = omega arith in
      let first = each 0 worker refl in
      let is = subst (λ (k : ℕ). IsWorkerAt plan limits k worker) here first.0 in
      let rest = all_runs (n + 1) workers (λ i other found.
      let there : n + suc i ≡ n + 1 + i = omega arith in
      let one = each (suc i) other found in
      (subst (λ (k : ℕ). IsWorkerAt plan limits k other) there one.0, one.1)) in
      (_ ∷ rest.0, (run_of stands plan limits n 0 worker is first.1, rest.1))

  same_count : (n : ℕ) (workers : List (Worker R)) (runs : List ThreadRun) → AreRunsOf n workers runs → length runs ≡ length workers
  same_count n [] [] all = refl
  same_count n [] (run ∷ runs) all = absurd all
  same_count n (worker ∷ workers) [] all = absurd all
  same_count n (worker ∷ workers) (run ∷ runs) all = ap suc (same_count (n + 1) workers runs all.1)

  run_at : (n : ℕ) (workers : List (Worker R)) (runs : List ThreadRun) → AreRunsOf n workers runs → (i : ℕ) (worker : Worker R) (run : ThreadRun)
      → slice_get workers i ≡ Some worker → slice_get runs i ≡ Some run → IsRunOf stands plan limits (n + i) worker run
  run_at n [] [] all i worker run found there = absurd (no_item i worker found)
  run_at n [] (other ∷ runs) all i worker run found there = absurd all
  run_at n (one ∷ workers) [] all i worker run found there = absurd all
  run_at n (one ∷ workers) (other ∷ runs) all zero worker run found there =
      let here : n ≡ n + 0 = omega arith in
      subst (λ (k : ℕ). IsRunOf stands plan limits k worker run) here
      (subst (λ (w : Worker R). IsRunOf stands plan limits n w run) (same_item one worker found)
      (subst (IsRunOf stands plan limits n one) (same_item other run there) all.0))
  run_at n (one ∷ workers) (other ∷ runs) all (suc i) worker run found there =
      let next : n + 1 + i ≡ n + suc i = omega arith in
      subst (λ (k : ℕ). IsRunOf stands plan limits k worker run) next (run_at (n + 1) workers runs all.1 i worker run found there)

-- what workers have at their ends is what threads have that have run
pub have_recorded : {R : Type 0} (stands : R → List Event → Type 0) (follows : R → R → Type 0) (plan : Plan) (limits : Limits)
    (old : List R) (cpus : List Traced) (seats : List WorkSeat) (new : List R) → HaveWorked stands follows plan limits old cpus seats new
    → HaveRecorded stands follows plan limits old cpus (map (λ s. work_view s) seats) new
have_recorded {R} stands follows plan limits old cpus seats new have =
    let workers = have.workers in
    let all = all_runs stands plan limits 1 workers (λ i worker found.
    let next : i + 1 ≡ 1 + i = omega arith in
    let one = have.ended i worker found in
    (subst (λ (k : ℕ). IsWorkerAt plan limits k worker) next one.0, one.1)) in
    let runs : List ThreadRun = all.0 in
    let count : length runs ≡ length workers = same_count stands plan limits 1 workers runs all.1 in
    let at : (i : ℕ) (worker : Worker R) (run : ThreadRun) → slice_get workers i ≡ Some worker → slice_get runs i ≡ Some run
    → IsRunOf stands plan limits (i + 1) worker run =
    (λ i worker run found there.
    let next : 1 + i ≡ i + 1 = omega arith in
    subst (λ (k : ℕ). IsRunOf stands plan limits k worker run) next (run_at stands plan limits 1 workers runs all.1 i worker run found there)) in
    let of_run : (i : ℕ) (run : ThreadRun) → slice_get runs i ≡ Some run → (worker : Worker R) × (slice_get workers i ≡ Some worker) =
    (λ i run there. there_is workers i (omega (arith, slice_get_within runs i run there, count))) in
    let cpu_at : (i : ℕ) (t : Traced) → slice_get cpus i ≡ Some t → (worker : Worker R) × (slice_get workers i ≡ Some worker) × (cpu_of worker ≡ t) =
    (λ i t found. of_item (λ (w : Worker R). cpu_of w) workers i t (subst (λ (ts : List Traced). slice_get ts i ≡ Some t) have.cpus_are found)) in
    let seat_at : (i : ℕ) (seat : WorkView) → slice_get (map (λ s. work_view s) seats) i ≡ Some seat
    → (worker : Worker R) × (slice_get workers i ≡ Some worker) × (work_view (seat_of worker) ≡ seat) =
    (λ i seat found.
    let one = of_item (λ s. work_view s) seats i seat found in
    let his = of_item (λ (w : Worker R). seat_of w) workers i one.0 (subst (λ (ss : List WorkSeat). slice_get ss i ≡ Some one.0) have.seats_are one.1) in
    (his.0, his.1, ap (λ s. work_view s) his.2 ∙ one.2)) in
    record {
      runs = runs;
      count = count ∙ have.count;
      plain = λ i run there. let one = of_run i run there in (at i one.0 run one.1 there).plain;
      follow = λ i run there. let one = of_run i run there in (at i one.0 run one.1 there).follow;
      cpus_count = ap length have.cpus_are ∙ length-map workers (λ (w : Worker R). cpu_of w) ∙ sym count;
      cpus_are = λ i run t there found.
          let one = cpu_at i t found in
          subst (HasRun (i + 1) run) one.2 (at i one.0 run one.1 there).has;
      seats_count =
          length-map seats (λ s. work_view s) ∙ ap length have.seats_are ∙ length-map workers (λ (w : Worker R). seat_of w) ∙ sym count;
      along = λ i run t seat there found here.
          let one = cpu_at i t found in
          let his = seat_at i seat here in
          let same : his.0 ≡ one.0 = same_found workers i his.0 one.0 his.1 one.1 in
          let seat_is : work_view (seat_of one.0) ≡ seat = ap (λ (w : Worker R). work_view (seat_of w)) (sym same) ∙ his.2 in
          subst (λ (u : Traced). HasRunAlong plan.program plan.threads (commands_of plan.lines) (i + 1) run u seat) one.2
          (subst (HasRunAlong plan.program plan.threads (commands_of plan.lines) (i + 1) run (cpu_of one.0)) seat_is
          (at i one.0 run one.1 there).along);
      recorded = λ i run recorder there found.
          let one = of_item (λ (w : Worker R). recorder_of w) workers i recorder
          (subst (λ (rs : List R). slice_get rs i ≡ Some recorder) have.recorders_are found) in
          subst (λ (r : R). stands r (events_of run)) one.2 (at i one.0 run one.1 there).recorded;
      followed = have.followed;
    }
