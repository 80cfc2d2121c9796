-- What a replay leaves when all threads have ended.
use Rattle.std.proofs.Common.{◌≡◌, ℕ, zero, suc, ◌+◌, ◌-◌, ◌<◌, ◌^◌, List, [], ◌∷◌, ◌++◌, Option, Some, refl, sym, subst, ap, ◌∙◌, arith, length, length-append, map, get_or}
use Rattle.std.specs.Prelude.{filter, slice_get}
use Rattle.std.specs.List.{All, flat_map}
use Rattle.std.proofs.lemmas.List.{length-map}
use Rattle.std.proofs.lemmas.List.Elements.{All-from_get_or}
use Rattle.std.proofs.lemmas.Option.{get_or_from_slice_get, slice_get_within}
use Rattle.xray_image.specs.Program.{IsAccepted, Program}
use Rattle.patch_script.specs.declared.command.PatchCommand.{PatchCommand}
use Rattle.patch_script.specs.Micros.{hold_of}
use Rattle.fdr_record.specs.declared.event.Event.{Event}
use Rattle.fdr_buffer.specs.Filled.{Filled}
use Rattle.machine_step.specs.declared.setup.Setup.{Setup}
use Rattle.machine_step.specs.Loads.{marks_of}
use Rattle.machine_step.specs.PlainStep.{Passing, PlainRun}
use Rattle.machine_step.specs.Traced.{IsThreadOf, Traced, sleds_passed}
use Rattle.traced_run.specs.Kept.{buffers_after, kept_buffers, segment_count, segments_of, thread_buffers}
use Rattle.traced_run.specs.Left.{HasRun}
use Rattle.traced_run.specs.Runs.{ThreadRun, events_of}
use Rattle.traced_run.proofs.RecordedEvents.{recorded_short}
use Rattle.step_sim.specs.declared.patcher.Patcher.{Patcher}
use Rattle.step_sim.specs.declared.pool.Pool.{Pool}
use Rattle.step_sim.specs.declared.turns.Turns.{Turns}
use Rattle.step_sim.specs.Replay.{marks_at, of_thread, thread_count}
use Rattle.step_sim.specs.Replayed.{IsReplayOf, IsSimulated, cast_of, cast_with, passed_of}
use Rattle.machine_step.specs.Buffers.{spare_of}
use Rattle.step_sim.specs.Pool.{Pooled, PooledReplay, segments_among}
use Rattle.step_sim.specs.private.Turns.{AllPooledRunOut, pooled_lines}
use Rattle.step_sim.specs.Recorded.{numbers_from, pooling_of}
use Rattle.step_sim.specs.private.Counts.{is_of, segments_held}
use Rattle.step_sim.specs.Schedules.{AreTurnsOf}
use Rattle.step_sim.specs.private.Standing.{Rests}
use Rattle.step_sim.specs.private.Holding.{IsHand, opened, segments_in, unbegun}
use Rattle.step_sim.specs.private.Recording.{AllRecordAt, Recording, histories, pooling_in}
use Rattle.step_sim.proofs.EndedRuns.{AllRuns, EndsSo, all_runs, enumerated_buffers, enumerated_map, marks_in, of_thread_at, runs_map}
use Rattle.step_sim.proofs.GatheredBuffers.{all_gathered, first_are, items_are, sealed_are}
use Rattle.step_sim.proofs.PoolLemmas.{AllSaid, SomeSaid, nonempty_count}
use Rattle.step_sim.proofs.RecordedReplay.{Ended, recording}
use Rattle.step_sim.proofs.LostRuns.{replay_loses}
use Rattle.step_sim.proofs.StockRuns.{segments_same}

-- ---- the number of segments

-- a hand and what was put into the queue before it are all segments
held_all : {stamp : _} (thread : ℕ) (segs : List (List Event)) (hand : Filled) (put : ℕ) → IsHand stamp thread segs hand → put ≡ length segs - 1
    → segments_held hand put ≡ length segs
held_all thread segs hand put (unbegun none e) is = rw e (omega (arith, ap length none))
held_all thread segs hand put (opened whole last all e) is =
    rw e (omega (arith, is, ap length all, length-append whole (last ∷ [])))

some_number : (n m : ℕ) → ◌≡◌ {A = Option ℕ} (Some n) (Some m) → n ≡ m
some_number n m e = cc

there_is : {X : Type 0} (xs : List X) (i : ℕ) → i < length xs → (x : X) × (slice_get xs i ≡ Some x)
there_is [] i within = absurd (omega (arith, within))
there_is (x ∷ xs) zero within = (x, refl)
there_is (x ∷ xs) (suc i) within = there_is xs i (omega (arith, within))

-- ---- the buffers that were put into the queue

-- segments have events, by a law; so the numbers of buffers that were put into the queue can be counted on
pub sealed_fit : AllSaid → SomeSaid → (r : Recording) (last : Pooled) (p : Patcher) (ts : List Traced) (pool : Pool) → EndsSo
    → (bytes : List ℕ) × IsAccepted bytes r.cast.program → AllRecordAt r last p ts pool → All Rests ts → All (λ n. n + 1 < 2 ^ 32) pool.sealed.items
sealed_fit hold some r last p ts pool so accepted at rest =
    All-from_get_or (λ n. n + 1 < 2 ^ 32) pool.sealed.items 0 (λ j within.
    let put = there_is pool.sealed.items j within in
    let is : get_or pool.sealed.items j 0 ≡ put.0 = get_or_from_slice_get pool.sealed.items j put.0 0 put.1 in
    let t = there_is ts j (omega (arith, within, at.holds.sealed_count, at.stands.count)) in
    let all = all_runs r last p ts pool so accepted at (λ i u found. subst Rests (get_or_from_slice_get ts i u u found) (rest i u (slice_get_within ts i u found))) in
    let run = there_is all.runs j (omega (arith, within, at.holds.sealed_count, all.count)) in
    let its = all.each j run.0 run.1 in
    let back : 1 + j - 1 ≡ j = omega arith in
    let flipped : j + 1 ≡ 1 + j = omega arith in
    let has = its.has t.0 (ap (slice_get ts) back ∙ t.1) in
    let rests : Rests t.0 = subst Rests (get_or_from_slice_get ts j t.0 t.0 t.1) (rest j t.0 (slice_get_within ts j t.0 t.1)) in
    let segs = segments_of r.stamp.size run.0 in
    let same = ap length (segments_same r last ts (1 + j) run.0 (omega arith) its) in
    let number = at.holds.sealed j put.0 put.1 ∙ ap (λ (k : ℕ). length (segments_in r.stamp (histories r last.moment) k) - 1) flipped in
    omega (
      arith,
      is,
      number,
      same,
      nonempty_count segs (some r.stamp.size (events_of run.0)),
      ap length (hold r.stamp.size (events_of run.0)),
      recorded_short run.0.passed run.0.marks,
      ap length has.marks,
      rests.few,
    ))

-- ---- the whole

-- what the buffers were found to hold
pub record Collected (pool : Pool) (threads : ℕ) (sealed segments first : List ℕ) (buffers : List Filled) : Type 0 where
  pub sealed_are : sealed ≡ pool.sealed.items
  pub segment_count : length segments ≡ length pool.hands.items
  pub segments_are : (i : ℕ) (hand : Filled) (n : ℕ) → slice_get pool.hands.items i ≡ Some hand → slice_get pool.sealed.items i ≡ Some n
      → slice_get segments i ≡ Some (segments_held hand n)
  pub first_are : first ≡ pool.first.items
  pub buffers_are : buffers ≡ flat_map (λ t. filter (is_of t) pool.queue ++ filter (is_of t) pool.hands.items) (numbers_from 1 threads)

pub is_simulated : (program : Program) (script : List PatchCommand) (schedule lines : List Turns) (setup : Setup) (passed : List (List Passing))
    (count : ℕ) (p : Patcher) (ts : List Traced) (pool : Pool) (sealed segments first : List ℕ) (buffers : List Filled) → EndsSo
    → (bytes : List ℕ) × IsAccepted bytes program → length passed ≡ setup.threads → Ended (recording program script setup passed) lines count p ts pool
    → count ≡ setup.threads → lines ≡ schedule → All (AreTurnsOf setup.threads) schedule → All Rests ts
    → Collected pool setup.threads sealed segments first buffers
    → IsSimulated program script schedule setup ts sealed segments first buffers
is_simulated program script schedule lines setup passed count p ts pool sealed segments first buffers so accepted passed_count end counted said turns rest left = record {
  runs = runs;
  replay = replay_is;
  threads = λ i t found.
      subst (λ (h : Option ℕ). IsThreadOf program (i + 1) setup.threads h setup.limits t) (sym (end.at.stands.no_hold (i + 1)))
      (end.at.stands.thread i t found);
  leaves = record {
    count = end.at.stands.count ∙ sym all.count;
    cpus_are = λ i run t found there.
        let flipped : 1 + i ≡ i + 1 = omega arith in
        let back : 1 + i - 1 ≡ i = omega arith in
        subst (λ (n : ℕ). HasRun n run t) flipped ((all.each i run found).has t (ap (slice_get ts) back ∙ there));
    segments_are = segments_are;
    first_are = left.first_are ∙ first_are r.stamp r.threads its last.stock pool end.at.holds ∙ sym lost_are;
    buffers_are = buffers_are;
  };
  sealed_are = left.sealed_are ∙ sealed_are r.stamp r.threads its last.stock pool end.at.holds
      ∙ sym (runs_map (λ run. segment_count setup.size run - 1) (λ t. segs t - 1) runs 1 setup.threads all.count
      (λ j run found. ap (λ (n : ℕ). n - 1) (count_is j run found)));
  losses = replay_loses program script schedule setup runs turns replay_is;
}
  where
    r : Recording
    r = recording program script setup passed

    last : Pooled
    last = end.last

    its : ℕ → List Event
    its = histories r last.moment

    segs : ℕ → ℕ
    segs t = length (segments_in r.stamp its t)

    each_rests : (i : ℕ) (t : Traced) → slice_get ts i ≡ Some t → Rests t
    each_rests i t found = subst Rests (get_or_from_slice_get ts i t t found) (rest i t (slice_get_within ts i t found))

    all : AllRuns r last ts 1 r.threads
    all = all_runs r last p ts pool so accepted end.at each_rests

    runs : List ThreadRun
    runs = all.runs

    passed_is : passed_of runs ≡ passed
    passed_is =
        runs_map (λ run. run.passed) (of_thread passed) runs 1 setup.threads all.count (λ j run found. (all.each j run found).passed)
        ∙ sym (items_are passed (of_thread passed) 1 setup.threads passed_count (λ j xs found. sym (of_thread_at passed j xs found)))

    long : count ≡ length (map sleds_passed passed)
    long = counted ∙ sym (length-map passed sleds_passed ∙ passed_count)

    replayed : PooledReplay r.cast (pooling_in r) schedule last
    replayed =
        subst (λ (ls : List Turns). AllPooledRunOut r.cast (pooling_in r) (length r.cast.passings) 1 (pooled_lines r.cast (pooling_in r) ls) last) said
        (subst (λ (n : ℕ). AllPooledRunOut r.cast (pooling_in r) n 1 (pooled_lines r.cast (pooling_in r) lines) last) long end.out)

    marks_are : map (λ run. run.marks) runs ≡ marks_at (cast_with program script runs) last.moment
    marks_are =
        runs_map (λ run. run.marks) (marks_in r last) runs 1 setup.threads all.count (λ j run found. (all.each j run found).marks)
        ∙ sym (enumerated_map _ (marks_in r last) r.cast.passings 1 setup.threads (length-map passed sleds_passed ∙ passed_count)
        (λ j sleds found. ap (λ (xs : List ℕ). marks_of program (thread_count r.cast) (1 + j) (hold_of (1 + j) script) xs (of_thread last.moment.loads (1 + j)))
        (sym (of_thread_at r.cast.passings j sleds found))))
        ∙ ap (λ (ps : List (List Passing)). marks_at (cast_of program script (map sleds_passed ps)) last.moment) (sym passed_is)

    lost_are : map (λ run. run.lost) runs ≡ map (λ thread. segments_among thread last.stock.taken) (numbers_from 1 setup.threads)
    lost_are = runs_map (λ run. run.lost) (λ t. segments_among t last.stock.taken) runs 1 setup.threads all.count (λ j run found. (all.each j run found).lost)

    count_is : (j : ℕ) (run : ThreadRun) → slice_get runs j ≡ Some run → segment_count setup.size run ≡ segs (1 + j)
    count_is j run found = ap length (segments_same r last ts (1 + j) run (omega arith) (all.each j run found))

    -- the number that was counted for a thread
    counted_is : (j k : ℕ) → slice_get segments j ≡ Some k → k ≡ segs (1 + j)
    counted_is j k found =
        let within : j < setup.threads = omega (arith, slice_get_within segments j k found, left.segment_count, end.at.holds.hand_count) in
        let hand = there_is pool.hands.items j (omega (arith, within, end.at.holds.hand_count)) in
        let put = there_is pool.sealed.items j (omega (arith, within, end.at.holds.sealed_count)) in
        let flipped : j + 1 ≡ 1 + j = omega arith in
        some_number k (segments_held hand.0 put.0) (sym found ∙ left.segments_are j hand.0 put.0 hand.1 put.1)
        ∙ held_all {stamp = r.stamp} (j + 1) (segments_in r.stamp its (j + 1)) hand.0 put.0 (end.at.holds.hand j hand.0 hand.1) (end.at.holds.sealed j put.0 put.1)
        ∙ ap segs flipped

    segments_are : segments ≡ map (segment_count setup.size) runs
    segments_are =
        items_are segments segs 1 setup.threads (left.segment_count ∙ end.at.holds.hand_count) counted_is
        ∙ sym (runs_map (segment_count setup.size) segs runs 1 setup.threads all.count count_is)

    buffers_are : buffers ≡ kept_buffers setup runs
    buffers_are =
        left.buffers_are ∙ all_gathered r.stamp r.threads its last.stock pool end.at.holds
        ∙ enumerated_buffers (λ t. buffers_after r.stamp (segments_among t last.stock.taken) t (segments_in r.stamp its t)) (thread_buffers setup)
        runs 1 setup.threads all.count (λ j run found.
        ap (λ (n : ℕ). buffers_after r.stamp n (1 + j) (segments_in r.stamp its (1 + j))) (sym (all.each j run found).lost)
        ∙ ap (buffers_after r.stamp run.lost (1 + j)) (sym (segments_same r last ts (1 + j) run (omega arith) (all.each j run found))))

    replay_is : IsReplayOf program script schedule setup runs
    replay_is = record {
      run = record {
        count = all.count;
        plain = λ i run found.
            let flipped : 1 + i ≡ i + 1 = omega arith in
            subst (λ (n : ℕ). PlainRun program setup.limits n run.passed run.end run.last) flipped (all.each i run found).plain;
      };
      last = last;
      replay = subst (λ (ps : List (List Passing)). PooledReplay (cast_of program script (map sleds_passed ps))
          (pooling_of (cast_of program script (map sleds_passed ps)) ps setup.size (spare_of setup)) schedule last) (sym passed_is) replayed;
      marks = marks_are;
      lost = lost_are;
    }
