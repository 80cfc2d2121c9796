-- The beginning and the end of a replay with buffers.
use Rattle.std.proofs.Common.{◌≡◌, ℕ, zero, suc, ◌+◌, ◌-◌, ◌<◌, ◌≤◌, ◌^◌, List, [], ◌∷◌, ◌++◌, Bool, true, false, Option, Some, None, refl, ap, ◌∙◌, arith, length, length-append, map, fold, vec_len}
use Rattle.std.specs.Prelude.{slice_get, nat_lt, ◌&&◌, ◌==◌, if◌then◌else◌}
use Rattle.std.specs.List.{All}
use Rattle.std.proofs.lemmas.List.{length-drop, length-map, length-replicate}
use Rattle.xray_image.specs.Program.{IsAccepted, Program}
use Rattle.patch_script.specs.declared.command.PatchCommand.{PatchCommand}
use Rattle.patch_script.specs.Micros.{hold_of, start_of}
use Rattle.sled_words.specs.Words.{word_count}
use Rattle.machine_step.specs.declared.end.End.{End}
use Rattle.machine_step.specs.declared.limits.Limits.{Limits}
use Rattle.machine_step.specs.declared.setup.Setup.{Setup}
use Rattle.machine_step.specs.Events.{recorded}
use Rattle.machine_step.specs.Loads.{Load, is_held_at, marks_of, marks_from}
use Rattle.machine_step.specs.PlainStep.{Passing, PlainRun, State}
use Rattle.machine_step.specs.Traced.{Traced, sleds_passed}
use Rattle.step_sim.specs.declared.patcher.Patcher.{Patcher}
use Rattle.step_sim.specs.declared.pool.Pool.{Pool}
use Rattle.step_sim.specs.declared.turns.Turns.{Turns}
use Rattle.step_sim.specs.declared.turns.Turns.TheVariants.{Thread, Patcher as PatcherTurns}
use Rattle.step_sim.specs.Plays.{turns}
use Rattle.step_sim.specs.Replay.{Cast, first_moment, of_thread, thread_count, thread_turn}
use Rattle.step_sim.specs.Replayed.{cast_of}
use Rattle.step_sim.specs.Pool.{Fresh, QueueItem, Pooled, Pooling, Segment, Stock, first_pooled, first_stock, pooled_step, pooled_turn, queued, stock_after}
use Rattle.step_sim.specs.private.Turns.{AllPooledRunOut, pooled_line}
use Rattle.traced_run.specs.Kept.{stamp_of}
use Rattle.step_sim.specs.private.Standing.{AllHaveBegun, IsPatcherAt}
use Rattle.step_sim.specs.private.Holding.{PoolHolds}
use Rattle.step_sim.specs.private.Recording.{AllRecordAt, Recording, histories, line_in, pooling_in}
use Rattle.step_sim.proofs.Bounds.{Gathered, begins, gathered, item_sleds, run_alike}
use Rattle.step_sim.proofs.OneRecorded.{history_is, holds_same}
use Rattle.step_sim.proofs.ReplayAlong.{no_loads, of_thread_is}

-- ---- the length of the queue

queued_length : (item : QueueItem) (stock : Stock) → length (queued item stock).queue ≡ length stock.queue
queued_length item stock =
    omega (arith, length-drop 1 (stock.queue ++ item ∷ []), length-append stock.queue (item ∷ []))

after_length : (thread before after : ℕ) (stock : Stock) → length (stock_after thread before after stock).queue ≡ length stock.queue
after_length thread before after stock = by_test (nat_lt 0 before && (after == before + 1))
  where
    by_test : (b : Bool) → length (if b then queued (Segment thread (before - 1)) stock else stock).queue ≡ length stock.queue
    by_test true = queued_length (Segment thread (before - 1)) stock
    by_test false = refl

turns_keep : (n : ℕ) (turn : Pooled → Pooled) → ((x : Pooled) → length (turn x).stock.queue ≡ length x.stock.queue) → (pooled : Pooled)
    → length (turns n turn pooled).stock.queue ≡ length pooled.stock.queue
turns_keep zero turn keeps pooled = refl
turns_keep (suc n) turn keeps pooled = turns_keep n turn keeps (turn pooled) ∙ keeps pooled

turn_keeps : (cast : Cast) (pooling : Pooling) (thread n : ℕ) (pooled : Pooled)
    → length (turns n (pooled_turn cast pooling thread) pooled).stock.queue ≡ length pooled.stock.queue
turn_keeps cast pooling thread n pooled =
    turns_keep n (pooled_turn cast pooling thread) (λ x. after_length thread (pooling.segment_count thread x.moment)
    (pooling.segment_count thread (thread_turn cast thread x.moment)) x.stock) pooled

line_keeps : (cast : Cast) (pooling : Pooling) (pooled : Pooled) (line : Turns)
    → length (pooled_line cast pooling pooled line).stock.queue ≡ length pooled.stock.queue
line_keeps cast pooling pooled (Thread thread count) = turn_keeps cast pooling thread count pooled
line_keeps cast pooling pooled (PatcherTurns count) = turns_keep count (pooled_step cast) (λ x. refl) pooled

lines_keep : (cast : Cast) (pooling : Pooling) (lines : List Turns) (pooled : Pooled)
    → length (fold (pooled_line cast pooling) pooled lines).stock.queue ≡ length pooled.stock.queue
lines_keep cast pooling [] pooled = refl
lines_keep cast pooling (line ∷ lines) pooled = lines_keep cast pooling lines (pooled_line cast pooling pooled line) ∙ line_keeps cast pooling pooled line

run_keeps : (cast : Cast) (pooling : Pooling) (n thread : ℕ) (before after : Pooled) → AllPooledRunOut cast pooling n thread before after
    → length after.stock.queue ≡ length before.stock.queue
run_keeps cast pooling zero thread before after e = ap (λ (x : Pooled). length x.stock.queue) e
run_keeps cast pooling (suc n) thread before after (mid, (count, made, ends), rest) =
    run_keeps cast pooling n (thread + 1) mid after rest ∙ ap (λ (x : Pooled). length x.stock.queue) made ∙ turn_keeps cast pooling thread count before

-- ---- the beginning

marks_none : (program : Program) (threads thread number : ℕ) (hold : Option ℕ) (sleds : List ℕ) → marks_from program threads thread hold number sleds [] ≡ []
marks_none program threads thread number hold [] = refl
marks_none program threads thread number hold (sled ∷ sleds) = by_held (is_held_at hold number) refl
  where
    by_held : (held : Bool) → is_held_at hold number ≡ held → marks_from program threads thread hold number (sled ∷ sleds) [] ≡ []
    by_held true e = rw e refl
    by_held false e = rw e refl

recorded_none : (passed : List Passing) → recorded passed [] ≡ []
recorded_none [] = refl
recorded_none (p ∷ passed) = refl

-- no thread has recorded an event at first
no_events : (r : Recording) (k : ℕ) → histories r (first_moment r.cast) k ≡ []
no_events r zero = refl
no_events r (suc n) =
    let none : of_thread (first_moment r.cast).loads (suc n) ≡ [] =
    of_thread_is (first_moment r.cast).loads (suc n) ∙ no_loads r.cast.passings (suc n - 1) in
    history_is r (first_moment r.cast) (suc n) (omega arith)
    ∙ ap (λ (ls : List Load). recorded (of_thread r.passed (suc n))
    (marks_of r.cast.program (thread_count r.cast) (suc n) (hold_of (suc n) r.cast.script) (of_thread r.cast.passings (suc n)) ls)) none
    ∙ ap (recorded (of_thread r.passed (suc n)))
    (marks_none r.cast.program (thread_count r.cast) (suc n) 0 (hold_of (suc n) r.cast.script) (of_thread r.cast.passings (suc n)))
    ∙ recorded_none (of_thread r.passed (suc n))

-- what a setup's replay is played with
abbrev pub recording : Program → List PatchCommand → Setup → List (List Passing) → Recording
recording program script setup passed = record {
  cast = cast_of program script (map sleds_passed passed);
  limits = setup.limits;
  threads = setup.threads;
  passed = passed;
  stamp = stamp_of setup;
  spare = setup.max - setup.threads;
}

abbrev pub first_of : Recording → Pooled
first_of r = first_pooled r.cast (pooling_in r)

-- the law that the ids of a plain run's passings fit their records
abbrev pub SmallIds : Type 0
SmallIds =
    (bytes : List ℕ) (program : Program) (limits : Limits) (thread : ℕ) (passed : List Passing) (end : End) (last : State)
    → IsAccepted bytes program → PlainRun program limits thread passed end last → All (λ p. p.id < 2 ^ 28) passed

pub record Begun (program : Program) (script : List PatchCommand) (setup : Setup) (p : Patcher) (ts : List Traced) (pool : Pool) : Type 0 where
  pub passed : List (List Passing)
  pub count : length passed ≡ setup.threads
  pub at : AllRecordAt (recording program script setup passed) (first_of (recording program script setup passed)) p ts pool

pub begins_recording : (program : Program) (script : List PatchCommand) (setup : Setup) (p : Patcher) (ts : List Traced) (pool : Pool)
    → length ts ≡ setup.threads → AllHaveBegun program script setup.threads setup.limits ts → ((number : ℕ) → hold_of number script ≡ None)
    → IsPatcherAt program setup.threads script (start_of program setup.threads script) p → vec_len p.words ≡ word_count program setup.threads
    → (bytes : List ℕ) × IsAccepted bytes program → SmallIds
    → PoolHolds (stamp_of setup) setup.threads (λ _. []) (first_stock (setup.max - setup.threads)) pool
    → Begun program script setup p ts pool
begins_recording program script setup p ts pool count begun free patcher words (bytes, accepted) few holds = record {
  passed = its.all;
  count = its.count ∙ count;
  at = record {
    stands = begins program script setup.threads setup.limits p ts count begun free patcher words its;
    traced = record {
      run = its_run;
      sleds = λ thread some within. item_sleds its.all (thread - 1);
      small = λ thread some within.
          let run = its_run thread some within in
          few bytes program setup.limits thread (of_thread its.all thread) run.0 run.1 accepted run.2;
    };
    holds = holds_same r.stamp r.threads (λ _. []) (histories r (first_moment r.cast)) (first_stock r.spare) pool (no_events r) holds;
  };
}
  where
    its : Gathered ts
    its = gathered ts (λ i t found. ((begun i t found).passed, (begun i t found).loaded))

    r : Recording
    r = recording program script setup its.all

    its_run : (thread : ℕ) → 0 < thread → thread ≤ setup.threads
        → (end : End) × (last : State) × PlainRun program setup.limits thread (of_thread its.all thread) end last
    its_run thread some within = by_thread (slice_get_there ts (thread - 1) (omega (arith, some, within, count)))
      where
        slice_get_there : (us : List Traced) (i : ℕ) → i < length us → (t : Traced) × (slice_get us i ≡ Some t)
        slice_get_there [] i within = absurd (omega (arith, within))
        slice_get_there (u ∷ us) zero within = (u, refl)
        slice_get_there (u ∷ us) (suc i) within = slice_get_there us i (omega (arith, within))

        by_thread : (t : Traced) × (slice_get ts (thread - 1) ≡ Some t)
            → (end : End) × (last : State) × PlainRun program setup.limits thread (of_thread its.all thread) end last
        by_thread (t, found) =
            let is = (begun (thread - 1) t found).thread_is in
            let loaded = its.own (thread - 1) t found in
            let number : t.thread ≡ thread = omega (arith, is.thread_is, some) in (
              loaded.end,
              loaded.last,
              run_alike t.program program t.limits setup.limits t.thread thread (of_thread its.all thread) loaded.end loaded.last
                  is.program_is is.limits_are number loaded.run,
            )

-- ---- the end

-- where the turns of a schedule lead
pub record Ended (r : Recording) (lines : List Turns) (count : ℕ) (p : Patcher) (ts : List Traced) (pool : Pool) : Type 0 where
  pub last : Pooled
  pub out : AllPooledRunOut r.cast (pooling_in r) count 1 (fold (line_in r) (first_of r) lines) last
  pub at : AllRecordAt r last p ts pool

pub ended : (r : Recording) (lines : List Turns) (count : ℕ) (p : Patcher) (ts : List Traced) (pool : Pool)
    → (last : Pooled) × AllPooledRunOut r.cast (pooling_in r) count 1 (fold (line_in r) (first_of r) lines) last × AllRecordAt r last p ts pool
    → Ended r lines count p ts pool
ended r lines count p ts pool (last, out, at) = record { last = last; out = out; at = at }

-- there is room for all buffers
pub has_room_for_all : (r : Recording) (lines : List Turns) (count most room : ℕ) (p : Patcher) (ts : List Traced) (pool : Pool)
    → Ended r lines count p ts pool → r.spare + r.threads ≤ most → room ≡ most → length pool.queue + length pool.hands.items ≤ room
has_room_for_all r lines count most room p ts pool end few is =
    let held : length pool.queue ≡ length end.last.stock.queue = ap length end.at.holds.queue ∙ length-map end.last.stock.queue _ in
    let kept = run_keeps r.cast (pooling_in r) count 1 (fold (line_in r) (first_of r) lines) end.last end.out
    ∙ lines_keep r.cast (pooling_in r) lines (first_of r) ∙ length-replicate r.spare Fresh in
    omega (arith, held, kept, end.at.holds.hand_count, few, is)
