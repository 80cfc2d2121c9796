-- What workers leave is what runs leave.
use Rattle.std.proofs.Common.{◌≡◌, ℕ, zero, suc, ◌+◌, ◌-◌, ◌<◌, ◌==◌, List, [], ◌∷◌, ◌++◌, Option, Some, refl, sym, subst, ap, ◌∙◌, arith, append_assoc, get_or, length, length-append, map, take}
use Rattle.std.specs.Prelude.{All, filter, option_map, slice_get, sum_by}
use Rattle.std.proofs.lemmas.List.{length-map, length-take-le, take_more}
use Rattle.std.proofs.lemmas.List.Elements.{All-cons, All-nil}
use Rattle.std.proofs.lemmas.List.Sums.{length-filter, sum_by-cons}
use Rattle.std.proofs.lemmas.Option.{slice_get-map, slice_get_within}
use Rattle.std.specs.List.{AllByRecursion, count_by}
use Rattle.patch_script.specs.Micros.{hold_of}
use Rattle.patch_script.specs.Plans.{Plan}
use Rattle.patch_script.specs.Refusals.{commands_of}
use Rattle.fdr_record.specs.declared.event.Event.{Event}
use Rattle.fdr_buffer.specs.Filled.{Filled, has_event}
use Rattle.fdr_buffer.specs.Segments.{segments}
use Rattle.buffer_queue.specs.Left.{IsLeft, absent_from, of_thread, sealed_in_all}
use Rattle.machine_step.specs.Buffers.{spare_of}
use Rattle.buffer_queue.specs.Passes.{PoolIs}
use Rattle.machine_step.specs.declared.setup.Setup.{Setup}
use Rattle.machine_step.specs.Events.{recorded}
use Rattle.machine_step.specs.PlainStep.{PlainRun}
use Rattle.machine_step.specs.Traced.{IsThreadOf, Traced, sleds_passed}
use Rattle.sled_rule.specs.declared.views.WorkView.{WorkView}
use Rattle.sled_rule.specs.Seats.{work_view}
use Rattle.traced_run.specs.Following.{MarksFollowScript}
use Rattle.traced_run.specs.Kept.{buffers_after, segment_count, stamp_of, thread_buffers}
use Rattle.traced_run.specs.Left.{HasRun}
use Rattle.traced_run.specs.Losses.{AreLost, recycled_of}
use Rattle.traced_run.specs.Runs.{ThreadRun}
use Rattle.thread_run.specs.declared.worker.Worker.{Worker}
use Rattle.thread_run.specs.Recordings.{Recording, StandsFor, segments_begun, segments_in}
use Rattle.thread_run.specs.Runs.{HasRunAlong, HaveRunBeside}
use Rattle.thread_run.specs.private.Pooled.{AreWorkersOfRun, IsWorkerOfRun, lost_beside}
use Rattle.thread_run.specs.Workers.{HasEnded, cpu_of, recorder_of, seat_of}
use Rattle.thread_run.proofs.EachItem.{there_is}
use Rattle.thread_run.proofs.NotedEvents.{begun_are}
use Rattle.thread_run.proofs.BufferOrder.{HoldEvents, IsBetween, all_between, in_order}
use Rattle.thread_run.proofs.StartedWorkers.{IsRunOf, run_of}
use Rattle.thread_run.proofs.PoolAndHands.{AreHands, HandIs, KeepsLast, hand_is, hands_of, in_hand_of, keeps_last, of_all, row_is}

-- ---- the run of a worker that has ended

-- a worker with its run. `used` is what the pool has of all sealed buffers, and `buffers` are those and the hands.
pub record IsRunOfWorker (plan : Plan) (setup : Setup) (used buffers : List Filled) (number : ℕ) (worker : Worker Recording) (run : ThreadRun) : Type 0 where
  pub plain : PlainRun plan.program setup.limits number run.passed run.end run.last
  pub follow : MarksFollowScript plan.program plan.threads (commands_of plan.lines) number (sleds_passed run.passed) run.marks
  pub thread : IsThreadOf plan.program number plan.threads (hold_of number (commands_of plan.lines)) setup.limits (cpu_of worker)
  pub along : HasRunAlong plan.program plan.threads (commands_of plan.lines) number run (cpu_of worker) (work_view (seat_of worker))
  pub has : HasRun number run (cpu_of worker)
  pub segments : segments_begun (recorder_of worker) ≡ segment_count setup.size run
  pub lost_is : segments_begun (recorder_of worker) - count_by (λ (b : Filled). b.thread == number) buffers ≡ run.lost
  pub buffers_are : of_thread number buffers ≡ thread_buffers setup (number, run)
  pub absent : run.lost ≡ length (recorder_of worker).pass.sealed - length (of_thread number used)
  pub sealed : segment_count setup.size run - 1 ≡ length (recorder_of worker).pass.sealed
  pub below : 0 < segment_count setup.size run → run.lost < segment_count setup.size run
  pub none : segment_count setup.size run ≡ 0 → run.lost ≡ 0

-- what the pool has of a worker
pub record IsPooled (used buffers : List Filled) (number : ℕ) (worker : Worker Recording) : Type 0 where
  pub gone : List Filled
  pub last : (recorder_of worker).pass.sealed ≡ gone ++ of_thread number used
  pub all : of_thread number buffers ≡ of_thread number used ++ in_hand_of (recorder_of worker)

pub run_of_worker : (plan : Plan) (pool : PoolIs) (used buffers : List Filled) (number : ℕ) (worker : Worker Recording)
    → IsWorkerOfRun plan pool number worker → HasEnded StandsFor worker → IsPooled used buffers number worker
    → (run : ThreadRun) × IsRunOfWorker plan pool.setup used buffers number worker run
run_of_worker plan pool used buffers number worker is ended pooled =
    let t : Traced = cpu_of worker in
    let r : Recording = recorder_of worker in
    let setup : Setup = pool.setup in
    let at = ended.at in
    let events : List Event = recorded at.passed t.marks in
    let keeps : KeepsLast r (segments_in r events) pooled.gone (of_thread number used) =
    keeps_last r events at.recorded_are pooled.gone (of_thread number used) pooled.last in
    let setup_is : r.pass.setup ≡ setup = is.pass.same_setup in
    let segs_are : segments_in r events ≡ segments setup.size events = ap (λ (s : Setup). segments s.size events) setup_is in
    let run : ThreadRun = record {
      passed = at.passed;
      end = ended.end;
      last = ended.last;
      marks = t.marks;
      lost = length pooled.gone;
    } in
    let its : IsRunOf StandsFor plan setup.limits number worker run =
    run_of StandsFor plan setup.limits number (length pooled.gone) worker (record { table = is.table; thread = is.thread; limits_are = is.limits }) ended in
    let count : segments_begun r ≡ length (segments setup.size events) = begun_are r events at.recorded_are ∙ ap length segs_are in
    let all_count : length (of_thread number buffers) ≡ length (of_thread number used ++ in_hand_of r) = ap length pooled.all in
    let segs_count : length (segments_in r events) ≡ length (segments setup.size events) = ap length segs_are in
    let Kept : Setup → ℕ → List (List Event) → List Filled = λ s thread segs. buffers_after (stamp_of s) (length pooled.gone) thread segs in (
      run,
      record {
        plain = its.plain;
        follow = its.follow;
        thread = record {
          program_is = at.thread.program ∙ ap (λ (p : Plan). p.program) is.table;
          thread_is = is.thread;
          threads_are = at.thread.threads ∙ ap (λ (p : Plan). p.threads) is.table;
          hold_is =
              at.thread.hold ∙ ap (λ (p : Plan). hold_of t.thread (commands_of p.lines)) is.table
              ∙ ap (λ (k : ℕ). hold_of k (commands_of plan.lines)) is.thread;
          limits_are = is.limits;
        };
        along = its.along;
        has = its.has;
        segments = count;
        lost_is = omega (arith, count, segs_count, all_count, keeps.count, length-filter (λ (b : Filled). b.thread == number) buffers);
        buffers_are =
            pooled.all ∙ keeps.kept ∙ ap (λ (s : Setup). Kept s r.pass.thread (segments_in r events)) setup_is
            ∙ ap (λ (k : ℕ). Kept setup k (segments_in r events)) is.owner ∙ ap (Kept setup number) segs_are;
        absent = omega (arith, ap length pooled.last, length-append pooled.gone (of_thread number used));
        sealed = omega (arith, segs_count, keeps.sealed);
        below = λ some. omega (arith, segs_count, keeps.below (omega (arith, some, segs_count)));
        none = λ no. keeps.none (omega (arith, no, segs_count));
      },
    )

-- ---- lists

module _ (plan : Plan) (setup : Setup) (used buffers : List Filled) where
  abbrev AllRuns : ℕ → List (Worker Recording) → List ThreadRun → Type 0
  AllRuns n [] [] = Unit {0}
  AllRuns n [] (run ∷ runs) = ⊥
  AllRuns n (worker ∷ workers) [] = ⊥
  AllRuns n (worker ∷ workers) (run ∷ runs) = IsRunOfWorker plan setup used buffers n worker run × AllRuns (n + 1) workers runs

  gather : (n : ℕ) (workers : List (Worker Recording))
      → ((i : ℕ) (worker : Worker Recording) → slice_get workers i ≡ Some worker
      → (run : ThreadRun) × IsRunOfWorker plan setup used buffers (n + i) worker run)
      → (runs : List ThreadRun) × AllRuns n workers runs
  gather n [] each = ([], tt)
  gather n (worker ∷ workers) each =
      let here : n + 0 ≡ n = omega arith in
      let first = each 0 worker refl in
      let rest = gather (n + 1) workers (λ i other found.
      let there : n + suc i ≡ n + 1 + i = omega arith in
      let one = each (suc i) other found in
      (one.0, subst (λ (k : ℕ). IsRunOfWorker plan setup used buffers k other one.0) there one.1)) in
      (first.0 ∷ rest.0, (subst (λ (k : ℕ). IsRunOfWorker plan setup used buffers k worker first.0) here first.1, rest.1))

  same_count : (n : ℕ) (workers : List (Worker Recording)) (runs : List ThreadRun) → AllRuns n workers runs → length runs ≡ length workers
  same_count n [] [] all = refl
  same_count n [] (run ∷ runs) all = absurd all
  same_count n (worker ∷ workers) [] all = absurd all
  same_count n (worker ∷ workers) (run ∷ runs) all = ap suc (same_count (n + 1) workers runs all.1)

  same_traced : (t other : Traced) → ◌≡◌ {A = Option Traced} (Some t) (Some other) → t ≡ other
  same_traced t other e = cc

  same_run : (run other : ThreadRun) → ◌≡◌ {A = Option ThreadRun} (Some run) (Some other) → run ≡ other
  same_run run other e = cc

  no_run : (i : ℕ) (run : ThreadRun) → slice_get [] i ≡ Some run → ⊥
  no_run zero run e = cc
  no_run (suc i) run e = cc

  -- the run at a place, with its worker
  record At (n i : ℕ) (workers : List (Worker Recording)) (run : ThreadRun) : Type 0 where
    worker : Worker Recording
    found : slice_get workers i ≡ Some worker
    is : IsRunOfWorker plan setup used buffers (n + i) worker run

  run_at : (n : ℕ) (workers : List (Worker Recording)) (runs : List ThreadRun) → AllRuns n workers runs → (i : ℕ) (run : ThreadRun)
      → slice_get runs i ≡ Some run → At n i workers run
  run_at n [] [] all i run e = absurd (no_run i run e)
  run_at n [] (other ∷ runs) all i run e = absurd all
  run_at n (worker ∷ workers) [] all i run e = absurd all
  run_at n (worker ∷ workers) (other ∷ runs) all zero run e =
      let here : n ≡ n + 0 = omega arith in
      record {
        worker = worker;
        found = refl;
        is = subst (λ (k : ℕ). IsRunOfWorker plan setup used buffers k worker run) here
            (subst (IsRunOfWorker plan setup used buffers n worker) (same_run other run e) all.0);
      }
  run_at n (worker ∷ workers) (other ∷ runs) all (suc i) run e =
      let there : n + 1 + i ≡ n + suc i = omega arith in
      let rest = run_at (n + 1) workers runs all.1 i run e in
      record { worker = rest.worker; found = rest.found; is = subst (λ (k : ℕ). IsRunOfWorker plan setup used buffers k rest.worker run) there rest.is }

  all_segments : (n : ℕ) (workers : List (Worker Recording)) (runs : List ThreadRun) → AllRuns n workers runs
      → map (λ w. segments_begun (recorder_of w)) workers ≡ map (segment_count setup.size) runs
  all_segments n [] [] all = refl
  all_segments n [] (run ∷ runs) all = absurd all
  all_segments n (worker ∷ workers) [] all = absurd all
  all_segments n (worker ∷ workers) (run ∷ runs) all =
      ap (λ (k : ℕ). k ∷ map (λ w. segments_begun (recorder_of w)) workers) all.0.segments
      ∙ ap (λ (ks : List ℕ). segment_count setup.size run ∷ ks) (all_segments (n + 1) workers runs all.1)

  all_first : (n : ℕ) (workers : List (Worker Recording)) (runs : List ThreadRun) → AllRuns n workers runs
      → lost_beside buffers n (map (λ w. segments_begun (recorder_of w)) workers) ≡ map (λ run. run.lost) runs
  all_first n [] [] all = refl
  all_first n [] (run ∷ runs) all = absurd all
  all_first n (worker ∷ workers) [] all = absurd all
  all_first n (worker ∷ workers) (run ∷ runs) all =
      ap (λ (k : ℕ). k ∷ lost_beside buffers (n + 1) (map (λ w. segments_begun (recorder_of w)) workers)) all.0.lost_is
      ∙ ap (λ (ks : List ℕ). run.lost ∷ ks) (all_first (n + 1) workers runs all.1)

  -- ---- what is lost

  abbrev Rows : List (Worker Recording) → List (List Filled)
  Rows workers = map (λ (r : Recording). r.pass.sealed) (map (λ w. recorder_of w) workers)

  all_absent : (n : ℕ) (workers : List (Worker Recording)) (runs : List ThreadRun) → AllRuns n workers runs
      → recycled_of runs ≡ absent_from n (Rows workers) used
  all_absent n [] [] all = refl
  all_absent n [] (run ∷ runs) all = absurd all
  all_absent n (worker ∷ workers) [] all = absurd all
  all_absent n (worker ∷ workers) (run ∷ runs) all =
      sum_by-cons (λ (run : ThreadRun). run.lost) run runs
      ∙ ap (λ (k : ℕ). k + recycled_of runs) all.0.absent
      ∙ ap (λ (k : ℕ). length (recorder_of worker).pass.sealed - length (of_thread n used) + k) (all_absent (n + 1) workers runs all.1)

  all_sealed : (n : ℕ) (workers : List (Worker Recording)) (runs : List ThreadRun) → AllRuns n workers runs
      → sealed_in_all (Rows workers) ≡ sum_by (λ run. segment_count setup.size run - 1) runs
  all_sealed n [] [] all = refl
  all_sealed n [] (run ∷ runs) all = absurd all
  all_sealed n (worker ∷ workers) [] all = absurd all
  all_sealed n (worker ∷ workers) (run ∷ runs) all =
      sum_by-cons length (recorder_of worker).pass.sealed (Rows workers)
      ∙ ap (λ (k : ℕ). k + sealed_in_all (Rows workers)) (sym all.0.sealed)
      ∙ ap (λ (k : ℕ). segment_count setup.size run - 1 + k) (all_sealed (n + 1) workers runs all.1)
      ∙ sym (sum_by-cons (λ run. segment_count setup.size run - 1) run runs)

  each_below : (n : ℕ) (workers : List (Worker Recording)) (runs : List ThreadRun) → AllRuns n workers runs
      → All (λ run. 0 < segment_count setup.size run → run.lost < segment_count setup.size run) runs
  each_below n [] [] all = All-nil (λ (run : ThreadRun). 0 < segment_count setup.size run → run.lost < segment_count setup.size run)
  each_below n [] (run ∷ runs) all = absurd all
  each_below n (worker ∷ workers) [] all = absurd all
  each_below n (worker ∷ workers) (run ∷ runs) all =
      All-cons (λ (run : ThreadRun). 0 < segment_count setup.size run → run.lost < segment_count setup.size run) run runs all.0.below
      (each_below (n + 1) workers runs all.1)

  each_none : (n : ℕ) (workers : List (Worker Recording)) (runs : List ThreadRun) → AllRuns n workers runs
      → All (λ run. segment_count setup.size run ≡ 0 → run.lost ≡ 0) runs
  each_none n [] [] all = All-nil (λ (run : ThreadRun). segment_count setup.size run ≡ 0 → run.lost ≡ 0)
  each_none n [] (run ∷ runs) all = absurd all
  each_none n (worker ∷ workers) [] all = absurd all
  each_none n (worker ∷ workers) (run ∷ runs) all =
      All-cons (λ (run : ThreadRun). segment_count setup.size run ≡ 0 → run.lost ≡ 0) run runs all.0.none (each_none (n + 1) workers runs all.1)

  losses_are : (workers : List (Worker Recording)) (runs : List ThreadRun) → AllRuns 1 workers runs
      → absent_from 1 (Rows workers) used ≡ sealed_in_all (Rows workers) - spare_of setup → AreLost setup.size (spare_of setup) runs
  losses_are workers runs all absent = record {
    few = record { below = each_below 1 workers runs all; none = each_none 1 workers runs all };
    recycled = all_absent 1 workers runs all ∙ absent ∙ ap (λ (k : ℕ). k - spare_of setup) (all_sealed 1 workers runs all);
  }

-- ---- the hands of workers that have ended

hands_are : (plan : Plan) (pool : PoolIs) (n : ℕ) (workers : List (Worker Recording))
    → ((i : ℕ) (worker : Worker Recording) → slice_get workers i ≡ Some worker → IsWorkerOfRun plan pool (n + i) worker × HasEnded StandsFor worker)
    → AreHands n (map (λ w. recorder_of w) workers)
hands_are plan pool n [] are = tt
hands_are plan pool n (worker ∷ workers) are =
    let here : n + 0 ≡ n = omega arith in
    let first = are 0 worker refl in
    let events = recorded first.1.at.passed (cpu_of worker).marks in (
      subst (λ (k : ℕ). HandIs k (recorder_of worker)) (first.0.owner ∙ here) (hand_is (recorder_of worker) events first.1.at.recorded_are),
      hands_are plan pool (n + 1) workers (λ i other found.
          let there : n + suc i ≡ n + 1 + i = omega arith in
          subst (λ (k : ℕ). IsWorkerOfRun plan pool k other × HasEnded StandsFor other) there (are (suc i) other found)),
    )

pub from_1 : (plan : Plan) (pool : PoolIs) (workers : List (Worker Recording)) → AreWorkersOfRun plan pool (HasEnded StandsFor) workers
    → (i : ℕ) (worker : Worker Recording) → slice_get workers i ≡ Some worker → IsWorkerOfRun plan pool (1 + i) worker × HasEnded StandsFor worker
from_1 plan pool workers are i worker found =
    let next : i + 1 ≡ 1 + i = omega arith in
    let both = are i worker found in
    (subst (λ (k : ℕ). IsWorkerOfRun plan pool k worker) next both.0, both.1)

-- ---- what they leave

same_seat : (one other : WorkView) → ◌≡◌ {A = Option WorkView} (Some one) (Some other) → one ≡ other
same_seat one other e = cc

pub left_so : HoldEvents → (plan : Plan) (pool : PoolIs) (workers : List (Worker Recording)) (left : List Filled)
    → plan.threads ≡ pool.setup.threads → AreWorkersOfRun plan pool (HasEnded StandsFor) workers → length workers ≡ pool.setup.threads
    → IsLeft pool.setup (map (λ (r : Recording). r.pass.sealed) (map (λ w. recorder_of w) workers)) left
    → HaveRunBeside plan.program (commands_of plan.lines) pool.setup (map (λ w. cpu_of w) workers)
    (map (λ s. work_view s) (map (λ w. seat_of w) workers)) (map (λ w. segments_begun (recorder_of w)) workers)
    (lost_beside (left ++ hands_of (map (λ w. recorder_of w) workers)) 1 (map (λ w. segments_begun (recorder_of w)) workers))
    (left ++ hands_of (map (λ w. recorder_of w) workers))
left_so hold plan pool workers left threads are count is =
    let setup : Setup = pool.setup in
    let rs : List Recording = map (λ w. recorder_of w) workers in
    let rows : List (List Filled) = map (λ (r : Recording). r.pass.sealed) rs in
    let buffers : List Filled = left ++ hands_of rs in
    let each = from_1 plan pool workers are in
    let hands : AreHands 1 rs = hands_are plan pool 1 workers each in
    let all = gather plan setup is.used buffers 1 workers (λ i worker found.
    let at : slice_get rs i ≡ Some (recorder_of worker) =
    slice_get-map (λ w. recorder_of w) workers i ∙ ap (option_map (λ w. recorder_of w)) found in
    let place : i + 1 ≡ 1 + i = omega arith in
    let last = is.last i in
    run_of_worker plan pool is.used buffers (1 + i) worker (each i worker found).0 (each i worker found).1
    (record {
      gone = last.0;
      last = sym (row_is rs i (recorder_of worker) at) ∙ last.1 ∙ ap (λ (k : ℕ). last.0 ++ of_thread k is.used) place;
      all = of_all setup rows left is rs hands i (recorder_of worker) at;
    })) in
    let runs : List ThreadRun = all.0 in
    let at : (i : ℕ) (run : ThreadRun) → slice_get runs i ≡ Some run → At plan setup is.used buffers 1 i workers run =
    run_at plan setup is.used buffers 1 workers runs all.1 in
    let runs_count : length runs ≡ length workers = same_count plan setup is.used buffers 1 workers runs all.1 in
    let rs_count : length rs ≡ length workers = length-map workers (λ w. recorder_of w) in
    let thread_is : (i : ℕ) (run : ThreadRun) (t : Traced) → (found : slice_get runs i ≡ Some run)
    → slice_get (map (λ w. cpu_of w) workers) i ≡ Some t → cpu_of (at i run found).worker ≡ t =
    (λ i run t found there.
    same_traced plan setup is.used buffers (cpu_of (at i run found).worker) t
    (sym (slice_get-map (λ w. cpu_of w) workers i ∙ ap (option_map (λ w. cpu_of w)) (at i run found).found) ∙ there)) in
    record {
      runs = runs;
      run = record {
        count = runs_count ∙ count;
        plain = λ i run found.
            let next : 1 + i ≡ i + 1 = omega arith in
            subst (λ (k : ℕ). PlainRun plan.program setup.limits k run.passed run.end run.last) next (at i run found).is.plain;
      };
      follow = λ i run found.
          let next : 1 + i ≡ i + 1 = omega arith in
          subst (λ (n : ℕ). MarksFollowScript plan.program n (commands_of plan.lines) (i + 1) (sleds_passed run.passed) run.marks) threads
          (subst (λ (k : ℕ). MarksFollowScript plan.program plan.threads (commands_of plan.lines) k (sleds_passed run.passed) run.marks) next (at i run found).is.follow);
      losses = losses_are plan setup is.used buffers workers runs all.1 is.absent;
      threads = λ i t there.
          let within : i < length runs = omega (arith, slice_get_within (map (λ w. cpu_of w) workers) i t there, length-map workers (λ w. cpu_of w), runs_count) in
          let run = there_is runs i within in
          let next : 1 + i ≡ i + 1 = omega arith in
          subst (λ (n : ℕ). IsThreadOf plan.program (i + 1) n (hold_of (i + 1) (commands_of plan.lines)) setup.limits t) threads
          (subst (IsThreadOf plan.program (i + 1) plan.threads (hold_of (i + 1) (commands_of plan.lines)) setup.limits) (thread_is i run.0 t run.1 there)
          (subst (λ (k : ℕ). IsThreadOf plan.program k plan.threads (hold_of k (commands_of plan.lines)) setup.limits (cpu_of (at i run.0 run.1).worker)) next
          (at i run.0 run.1).is.thread));
      each =
          length-map (map (λ w. seat_of w) workers) (λ s. work_view s) ∙ length-map workers (λ w. seat_of w)
          ∙ sym (length-map workers (λ w. cpu_of w));
      along = λ i run t seat found there here.
          let next : 1 + i ≡ i + 1 = omega arith in
          let seat_is : work_view (seat_of (at i run found).worker) ≡ seat =
          same_seat (work_view (seat_of (at i run found).worker)) seat
          (sym (slice_get-map (λ s. work_view s) (map (λ w. seat_of w) workers) i
          ∙ ap (option_map (λ s. work_view s)) (slice_get-map (λ w. seat_of w) workers i ∙ ap (option_map (λ w. seat_of w)) (at i run found).found)) ∙ here) in
          subst (λ (n : ℕ). HasRunAlong plan.program n (commands_of plan.lines) (i + 1) run t seat) threads
          (subst (HasRunAlong plan.program plan.threads (commands_of plan.lines) (i + 1) run t) seat_is
          (subst (λ (u : Traced). HasRunAlong plan.program plan.threads (commands_of plan.lines) (i + 1) run u (work_view (seat_of (at i run found).worker))) (thread_is i run t found there)
          (subst (λ (k : ℕ). HasRunAlong plan.program plan.threads (commands_of plan.lines) k run (cpu_of (at i run found).worker) (work_view (seat_of (at i run found).worker))) next
          (at i run found).is.along)));
      leaves = record {
        leaves = record {
          count = length-map workers (λ w. cpu_of w) ∙ sym runs_count;
          cpus_are = λ i run t found there.
              let next : 1 + i ≡ i + 1 = omega arith in
              subst (HasRun (i + 1) run) (thread_is i run t found there)
              (subst (λ (k : ℕ). HasRun k run (cpu_of (at i run found).worker)) next (at i run found).is.has);
          segments_are = all_segments plan setup is.used buffers 1 workers runs all.1;
          first_are = all_first plan setup is.used buffers 1 workers runs all.1;
          buffers_are = refl;
        };
        buffers_are =
            in_order hold setup runs buffers
            (subst (λ (k : ℕ). AllByRecursion (IsBetween 1 (1 + k)) (filter has_event buffers)) (rs_count ∙ sym runs_count)
            (all_between setup rows left is rs hands (length-map rs (λ (r : Recording). r.pass.sealed))))
            (λ i run found. (at i run found).is.buffers_are);
      };
    }

-- ---- what is lost of one thread after another

lost_push : (bs : List Filled) (n : ℕ) (counts : List ℕ) (count : ℕ)
    → lost_beside bs n (counts ++ count ∷ []) ≡ lost_beside bs n counts ++ (count - count_by (λ (b : Filled). b.thread == n + length counts) bs) ∷ []
lost_push bs n [] count =
    let here : n ≡ n + 0 = omega arith in
    ap (λ (k : ℕ). (count - count_by (λ (b : Filled). b.thread == k) bs) ∷ []) here
lost_push bs n (first ∷ counts) count =
    let there : n + 1 + length counts ≡ n + suc (length counts) = omega arith in
    ap (λ (ks : List ℕ). (first - count_by (λ (b : Filled). b.thread == n) bs) ∷ ks)
    (lost_push bs (n + 1) counts count
    ∙ ap (λ (k : ℕ). lost_beside bs (n + 1) counts ++ (count - count_by (λ (b : Filled). b.thread == k) bs) ∷ []) there)

-- one more thread has lost so many
pub lost_more : (bs : List Filled) (start old new segments : List ℕ) (i thread lost : ℕ) → i < length segments → thread ≡ i
    → old ≡ start ++ lost_beside bs 1 (take i segments) → new ≡ old ++ lost ∷ []
    → lost ≡ get_or segments i 0 - count_by (λ (b : Filled). b.thread == thread + 1) bs → new ≡ start ++ lost_beside bs 1 (take (i + 1) segments)
lost_more bs start old new segments i thread lost within at so more is =
    let count : ℕ = get_or segments i 0 in
    let upto : length (take i segments) ≡ i = length-take-le i segments (omega (arith, within)) in
    let place : thread + 1 ≡ 1 + length (take i segments) = omega (arith, at, upto) in
    let next : lost_beside bs 1 (take (i + 1) segments) ≡ lost_beside bs 1 (take i segments) ++ lost ∷ [] =
    ap (lost_beside bs 1) (take_more segments i 0 within) ∙ lost_push bs 1 (take i segments) count
    ∙ ap (λ (k : ℕ). lost_beside bs 1 (take i segments) ++ (count - count_by (λ (b : Filled). b.thread == k) bs) ∷ []) (sym place)
    ∙ ap (λ (k : ℕ). lost_beside bs 1 (take i segments) ++ k ∷ []) (sym is) in
    more ∙ ap (λ (ks : List ℕ). ks ++ lost ∷ []) so ∙ append_assoc start (lost_beside bs 1 (take i segments)) (lost ∷ [])
    ∙ ap (λ (ks : List ℕ). start ++ ks) (sym next)
