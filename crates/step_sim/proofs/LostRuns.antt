-- What a replay loses: as many segments as the queue has no buffers for, and each thread's oldest.
use Rattle.std.proofs.Common.{◌≡◌, ℕ, zero, suc, ◌+◌, ◌-◌, ◌<◌, ◌≤◌, List, [], ◌∷◌, ◌++◌, Bool, true, false, Some, drop, get_or, inl, inr, refl, sym, subst, take, ap, ◌∙◌, arith, length, map, fold}
use Rattle.std.specs.Prelude.{◌&&◌, ◌==◌, if◌then◌else◌, nat_lt, replicate, slice_get}
use Rattle.std.specs.List.{All}
use Rattle.std.proofs.lemmas.Bool.{cases_eq}
use Rattle.std.proofs.lemmas.Bool.Decides.{nat_tests}
use Rattle.std.proofs.lemmas.List.{append-nil, length-map}
use Rattle.std.proofs.lemmas.List.Elements.{All-head, All-tail, recursion_from_All}
use Rattle.std.proofs.lemmas.Option.{same_Some, slice_get-get_or, slice_get_within}
use Rattle.std.proofs.Math.Seq.{drop-append_seam, take-append_seam}
use Rattle.xray_image.specs.Program.{Program}
use Rattle.patch_script.specs.declared.command.PatchCommand.{PatchCommand}
use Rattle.patch_script.specs.Micros.{hold_of}
use Rattle.handler_word.specs.declared.mark.Mark.{Mark}
use Rattle.fdr_buffer.specs.Segments.{segments}
use Rattle.machine_step.specs.declared.setup.Setup.{Setup}
use Rattle.machine_step.specs.Events.{recorded}
use Rattle.machine_step.specs.Loads.{Load, marks_of}
use Rattle.machine_step.specs.PlainStep.{Passing}
use Rattle.machine_step.specs.Traced.{sleds_passed}
use Rattle.traced_run.specs.Kept.{segment_count}
use Rattle.traced_run.specs.Losses.{AreLost}
use Rattle.traced_run.specs.Runs.{ThreadRun}
use Rattle.step_sim.specs.declared.turns.Turns.{Turns}
use Rattle.step_sim.specs.declared.turns.Turns.TheVariants.{Thread, Patcher}
use Rattle.step_sim.specs.private.Holding.{below}
use Rattle.step_sim.specs.Pool.{Fresh, Pooled, Pooling, Segment, Stock, first_pooled, pooled_step, pooled_turn, queued, segments_among, serials_of, stock_after}
use Rattle.step_sim.specs.private.Turns.{AllPooledRunOut, pooled_line, pooled_lines}
use Rattle.step_sim.specs.Recorded.{numbers_from, pooling_of, segments_at}
use Rattle.step_sim.specs.Plays.{turns}
use Rattle.step_sim.specs.Replay.{Cast, Moment, of_thread, thread_count, thread_turn}
use Rattle.step_sim.specs.Replayed.{IsReplayOf, LoseOldest, TakesFirst, cast_with, passed_of, pooling_with}
use Rattle.machine_step.specs.Buffers.{spare_of}
use Rattle.step_sim.specs.Schedules.{AreTurnsOf}
use Rattle.step_sim.proofs.CountedSegments.{fresh_serials}
use Rattle.step_sim.proofs.EndedRuns.{enumerated_map, no_run, of_thread_at, some_run}
use Rattle.step_sim.proofs.MoreLoads.{IsSameOrNext, no_marks, turn_segments}
use Rattle.step_sim.proofs.PoolLemmas.{same_items, serial_other, serial_own, serials_of-append, stock_stays}
use Rattle.step_sim.proofs.ReplayAlong.{no_loads, of_thread_is}
use Rattle.step_sim.proofs.StockRuns.{StockIs, first_is, lines_are, losses_of, runs_are}
use Rattle.step_sim.proofs.TurnLemmas.{turn_other}

-- ---- what a replay keeps

-- The queue, and what was taken from it, have all segments of each thread except the last, in order.
abbrev AreInOrder : Pooling → Pooled → Type 0
AreInOrder pooling x =
    (t : ℕ) → 0 < t → serials_of t (x.stock.taken ++ x.stock.queue) ≡ below (pooling.segment_count t x.moment - 1)

-- at first there are none
none_yet : (cast : Cast) (passed : List (List Passing)) (size t : ℕ) → length (segments_at cast passed size t (first_pooled cast (pooling_of cast passed size 0)).moment) ≡ 0
none_yet cast passed size t =
    let loads : of_thread (first_pooled cast (pooling_of cast passed size 0)).moment.loads t ≡ [] =
    of_thread_is _ t ∙ no_loads cast.passings (t - 1) in
    ap (λ (ls : List Load). length (segments size (recorded (of_thread passed t) (marks_of cast.program (thread_count cast) t (hold_of t cast.script) (of_thread cast.passings t) ls)))) loads
    ∙ ap (λ (ms : List Mark). length (segments size (recorded (of_thread passed t) ms))) (no_marks cast.program (thread_count cast) t (hold_of t cast.script) 0 (of_thread cast.passings t))
    ∙ none_recorded (of_thread passed t)
  where
    none_recorded : (ps : List Passing) → length (segments size (recorded ps [])) ≡ 0
    none_recorded [] = refl
    none_recorded (p ∷ ps) = refl

first_ordered : (cast : Cast) (passed : List (List Passing)) (size spare : ℕ)
    → AreInOrder (pooling_of cast passed size spare) (first_pooled cast (pooling_of cast passed size spare))
first_ordered cast passed size spare t some =
    let fresh : serials_of t (replicate spare Fresh) ≡ [] =
    ap (serials_of t) (sym (append-nil (replicate spare Fresh))) ∙ fresh_serials spare t [] in
    fresh ∙ ap (λ n. below (n - 1)) (sym (none_yet cast passed size t))

-- a segment goes to the queue
goes_test : (before : ℕ) → 0 < before → (nat_lt 0 before && (before + 1 == before + 1)) ≡ true
goes_test before some = grind (arith, nat_tests)

stock_goes : (thread before after : ℕ) (stock : Stock) → 0 < before → after ≡ before + 1
    → stock_after thread before after stock ≡ queued (Segment thread (before - 1)) stock
stock_goes thread before after stock some e = rw (e, goes_test before some) refl

queued_serials : (t thread serial : ℕ) (stock : Stock)
    → serials_of t ((queued (Segment thread serial) stock).taken ++ (queued (Segment thread serial) stock).queue)
    ≡ serials_of t (stock.taken ++ stock.queue) ++ serials_of t (Segment thread serial ∷ [])
queued_serials t thread serial stock =
    ap (serials_of t) (same_items stock.taken stock.queue (Segment thread serial))
    ∙ serials_of-append t (stock.taken ++ stock.queue) (Segment thread serial ∷ [])

-- the numbers of a thread's segments in a stock
abbrev in_stock : ℕ → Stock → List ℕ
in_stock t stock = serials_of t (stock.taken ++ stock.queue)

-- a turn of another thread leaves them as they are
other_serials : (t thread before after : ℕ) (stock : Stock) → (t ≡ thread → ⊥)
    → in_stock t (stock_after thread before after stock) ≡ in_stock t stock
other_serials t thread before after stock apart = by_test (nat_lt 0 before && (after == before + 1))
  where
    by_test : (b : Bool) → in_stock t (if b then queued (Segment thread (before - 1)) stock else stock) ≡ in_stock t stock
    by_test true =
        queued_serials t thread (before - 1) stock
        ∙ ap (λ (ns : List ℕ). in_stock t stock ++ ns) (serial_other thread t (before - 1) (λ same. apart (sym same))) ∙ append-nil (in_stock t stock)
    by_test false = refl

-- a turn of the thread itself adds the segment that was open
own_serials : (thread before after : ℕ) (stock : Stock) → IsSameOrNext before after → in_stock thread stock ≡ below (before - 1)
    → in_stock thread (stock_after thread before after stock) ≡ below (after - 1)
own_serials thread before after stock (inl same) is =
    ap (in_stock thread) (stock_stays thread before after stock (inr same)) ∙ is ∙ ap (λ n. below (n - 1)) (sym same)
own_serials thread zero after stock (inr next) is =
    let one : after - 1 ≡ zero = omega (arith, next) in
    ap (in_stock thread) (stock_stays thread zero after stock (inl refl)) ∙ is ∙ ap below (sym one)
own_serials thread (suc n) after stock (inr next) is =
    let some : 0 < suc n = omega arith in
    let back : suc n - 1 ≡ n = omega arith in
    let count : after - 1 ≡ suc n = omega (arith, next) in
    ap (in_stock thread) (stock_goes thread (suc n) after stock some next) ∙ queued_serials thread thread (suc n - 1) stock
    ∙ ap (λ (ns : List ℕ). ns ++ serials_of thread (Segment thread (suc n - 1) ∷ [])) is
    ∙ ap (λ (ns : List ℕ). below (suc n - 1) ++ ns) (serial_own thread (suc n - 1))
    ∙ ap (λ k. below k ++ k ∷ []) back ∙ ap below (sym count)

turn_ordered : (cast : Cast) (passed : List (List Passing)) (size spare thread : ℕ) (x : Pooled) → 0 < thread
    → AreInOrder (pooling_of cast passed size spare) x
    → AreInOrder (pooling_of cast passed size spare) (pooled_turn cast (pooling_of cast passed size spare) thread x)
turn_ordered cast passed size spare thread x some is t some_t = elim (cases_eq t thread) [
  | inl same ↦
      subst (λ (k : ℕ). in_stock k (stock_after thread (segs thread x.moment) (segs thread after) x.stock) ≡ below (segs k after - 1)) (sym same)
      (own_serials thread (segs thread x.moment) (segs thread after) x.stock (turn_segments cast passed size thread x.moment) (is thread some))
  | inr apart ↦
      other_serials t thread (segs thread x.moment) (segs thread after) x.stock apart ∙ is t some_t
      ∙ ap (λ (ls : List Load). below (length (segments size (recorded (of_thread passed t)
      (marks_of cast.program (thread_count cast) t (hold_of t cast.script) (of_thread cast.passings t) ls))) - 1)) (sym (turn_other cast thread t x.moment some some_t apart))
]
  where
    segs : ℕ → Moment → ℕ
    segs k m = length (segments_at cast passed size k m)

    after : Moment
    after = thread_turn cast thread x.moment

-- ---- all turns

turns_ordered : (pooling : Pooling) (n : ℕ) (turn : Pooled → Pooled) → ((x : Pooled) → AreInOrder pooling x → AreInOrder pooling (turn x))
    → (x : Pooled) → AreInOrder pooling x → AreInOrder pooling (turns n turn x)
turns_ordered pooling zero turn keeps x is = is
turns_ordered pooling (suc n) turn keeps x is = turns_ordered pooling n turn keeps (turn x) (keeps x is)

line_ordered : (cast : Cast) (passed : List (List Passing)) (size spare threads : ℕ) (line : Turns) (x : Pooled) → AreTurnsOf threads line
    → AreInOrder (pooling_of cast passed size spare) x
    → AreInOrder (pooling_of cast passed size spare) (pooled_line cast (pooling_of cast passed size spare) x line)
line_ordered cast passed size spare threads (Thread thread count) x of is =
    turns_ordered (pooling_of cast passed size spare) count (pooled_turn cast (pooling_of cast passed size spare) thread)
    (λ y. turn_ordered cast passed size spare thread y of.0) x is
line_ordered cast passed size spare threads (Patcher count) x of is =
    turns_ordered (pooling_of cast passed size spare) count (pooled_step cast) (λ y there. there) x is

lines_ordered : (cast : Cast) (passed : List (List Passing)) (size spare threads : ℕ) (lines : List Turns) (x : Pooled) → All (AreTurnsOf threads) lines
    → AreInOrder (pooling_of cast passed size spare) x
    → AreInOrder (pooling_of cast passed size spare) (fold (pooled_line cast (pooling_of cast passed size spare)) x lines)
lines_ordered cast passed size spare threads [] x of is = is
lines_ordered cast passed size spare threads (line ∷ lines) x of is =
    lines_ordered cast passed size spare threads lines (pooled_line cast (pooling_of cast passed size spare) x line) (All-tail (AreTurnsOf threads) line lines of)
    (line_ordered cast passed size spare threads line x (All-head (AreTurnsOf threads) line lines of) is)

out_ordered : (cast : Cast) (passed : List (List Passing)) (size spare n thread : ℕ) (x y : Pooled) → 0 < thread
    → AllPooledRunOut cast (pooling_of cast passed size spare) n thread x y → AreInOrder (pooling_of cast passed size spare) x
    → AreInOrder (pooling_of cast passed size spare) y
out_ordered cast passed size spare zero thread x y some e is = subst (AreInOrder (pooling_of cast passed size spare)) (sym e) is
out_ordered cast passed size spare (suc n) thread x y some (mid, (count, made, ends), rest) is =
    out_ordered cast passed size spare n (thread + 1) mid y (omega arith) rest
    (subst (AreInOrder (pooling_of cast passed size spare)) (sym made)
    (turns_ordered (pooling_of cast passed size spare) count (pooled_turn cast (pooling_of cast passed size spare) thread)
    (λ z. turn_ordered cast passed size spare thread z some) x is))

-- ---- runs by their numbers

-- what is read of the runs is what is said by their numbers
run_at : {Y : Type 0} (f : ThreadRun → Y) (F : ℕ → Y) (runs : List ThreadRun) (first n : ℕ) → map f runs ≡ map F (numbers_from first n)
    → (j : ℕ) (run : ThreadRun) → slice_get runs j ≡ Some run → f run ≡ F (first + j)
run_at f F [] first n same j run found = absurd (no_run j run found)
run_at f F (r ∷ runs) first zero same j run found = absurd cc
run_at {Y = Y} f F (r ∷ runs) first (suc n) same zero run found =
    let here : first ≡ first + zero = omega arith in
    let head : f r ≡ F first = cc in
    ap f (sym (some_run r run found)) ∙ head ∙ ap F here
run_at {Y = Y} f F (r ∷ runs) first (suc n) same (suc j) run found =
    let there : first + 1 + j ≡ first + suc j = omega arith in
    let tail : map f runs ≡ map F (numbers_from (first + 1) n) = cc in
    run_at f F runs (first + 1) n tail j run found ∙ ap F there

passed_at : (runs : List ThreadRun) (j : ℕ) (run : ThreadRun) → slice_get runs j ≡ Some run → slice_get (passed_of runs) j ≡ Some run.passed
passed_at [] j run found = absurd (no_run j run found)
passed_at (r ∷ runs) zero run found = ap (λ (o : ThreadRun). Some o.passed) (some_run r run found)
passed_at (r ∷ runs) (suc j) run found = passed_at runs j run found

-- ---- the whole

-- the marks of each run are those of the loads at the last moment
pub marks_of_run : (program : Program) (script : List PatchCommand) (schedule : List Turns) (setup : Setup) (runs : List ThreadRun)
    (is : IsReplayOf program script schedule setup runs) (j : ℕ) (run : ThreadRun) → slice_get runs j ≡ Some run
    → run.marks ≡ marks_of program (thread_count (cast_with program script runs)) (1 + j) (hold_of (1 + j) script) (of_thread (cast_with program script runs).passings (1 + j))
    (of_thread is.last.moment.loads (1 + j))
marks_of_run program script schedule setup runs is j run found = run_at (λ r. r.marks) marks_in runs 1 setup.threads marks_told j run found
  where
    cast : Cast
    cast = cast_with program script runs

    marks_in : ℕ → List Mark
    marks_in t = marks_of program (thread_count cast) t (hold_of t script) (of_thread cast.passings t) (of_thread is.last.moment.loads t)

    long : length cast.passings ≡ setup.threads
    long = length-map (passed_of runs) sleds_passed ∙ length-map runs (λ (run : ThreadRun). run.passed) ∙ is.run.count

    marks_told : map (λ (run : ThreadRun). run.marks) runs ≡ map marks_in (numbers_from 1 setup.threads)
    marks_told =
        is.marks ∙ enumerated_map _ marks_in cast.passings 1 setup.threads long
        (λ j sleds found. ap (λ (xs : List ℕ). marks_of program (thread_count cast) (1 + j) (hold_of (1 + j) script) xs (of_thread is.last.moment.loads (1 + j)))
        (sym (of_thread_at cast.passings j sleds found)))

-- what a replay keeps of each run
record IsKept (program : Program) (script : List PatchCommand) (schedule : List Turns) (setup : Setup) (runs : List ThreadRun)
    (is : IsReplayOf program script schedule setup runs) : Type 0 where
  lost_is : (j : ℕ) (run : ThreadRun) → slice_get runs j ≡ Some run → run.lost ≡ segments_among (1 + j) is.last.stock.taken
  count_is : (j : ℕ) (run : ThreadRun) → slice_get runs j ≡ Some run
      → segment_count setup.size run ≡ length (segments_at (cast_with program script runs) (passed_of runs) setup.size (1 + j) is.last.moment)
  order : AreInOrder (pooling_with program script setup runs) is.last

kept_of_replay : (program : Program) (script : List PatchCommand) (schedule : List Turns) (setup : Setup) (runs : List ThreadRun)
    → All (AreTurnsOf setup.threads) schedule → (is : IsReplayOf program script schedule setup runs)
    → IsKept program script schedule setup runs is
kept_of_replay program script schedule setup runs of is = record { lost_is = lost_is; count_is = count_is; order = order }
  where
    cast : Cast
    cast = cast_with program script runs

    passed : List (List Passing)
    passed = passed_of runs

    pooling : Pooling
    pooling = pooling_with program script setup runs

    segs : ℕ → ℕ
    segs t = length (segments_at cast passed setup.size t is.last.moment)

    lost_is : (j : ℕ) (run : ThreadRun) → slice_get runs j ≡ Some run → run.lost ≡ segments_among (1 + j) is.last.stock.taken
    lost_is j run found = run_at (λ r. r.lost) (λ thread. segments_among thread is.last.stock.taken) runs 1 setup.threads is.lost j run found

    count_is : (j : ℕ) (run : ThreadRun) → slice_get runs j ≡ Some run → segment_count setup.size run ≡ segs (1 + j)
    count_is j run found =
        ap (λ (ps : List Passing). length (segments setup.size (recorded ps run.marks))) (sym (of_thread_at passed j run.passed (passed_at runs j run found)))
        ∙ ap (λ (ms : List Mark). length (segments setup.size (recorded (of_thread passed (1 + j)) ms)))
        (marks_of_run program script schedule setup runs is j run found)

    order : AreInOrder pooling is.last
    order =
        out_ordered cast passed setup.size (spare_of setup) (length cast.passings) 1 (pooled_lines cast pooling schedule) is.last (omega arith) is.replay
        (lines_ordered cast passed setup.size (spare_of setup) setup.threads schedule (first_pooled cast pooling) of
        (first_ordered cast passed setup.size (spare_of setup)))

-- its stock
pub replay_stocks : (program : Program) (script : List PatchCommand) (schedule : List Turns) (setup : Setup) (runs : List ThreadRun)
    → All (AreTurnsOf setup.threads) schedule → (is : IsReplayOf program script schedule setup runs)
    → StockIs setup.threads (spare_of setup) is.last.stock
replay_stocks program script schedule setup runs of is =
    runs_are cast pooling setup.threads (spare_of setup) (length cast.passings) 1 (pooled_lines cast pooling schedule) is.last (omega arith)
    (omega (arith, long)) is.replay
    (lines_are cast pooling setup.threads (spare_of setup) schedule (first_pooled cast pooling) (recursion_from_All (AreTurnsOf setup.threads) schedule of)
    (first_is setup.threads (spare_of setup)))
  where
    cast : Cast
    cast = cast_with program script runs

    pooling : Pooling
    pooling = pooling_with program script setup runs

    long : length cast.passings ≡ setup.threads
    long = length-map (passed_of runs) sleds_passed ∙ length-map runs (λ (run : ThreadRun). run.passed) ∙ is.run.count

pub replay_loses : (program : Program) (script : List PatchCommand) (schedule : List Turns) (setup : Setup) (runs : List ThreadRun)
    → All (AreTurnsOf setup.threads) schedule → IsReplayOf program script schedule setup runs → AreLost setup.size (spare_of setup) runs
replay_loses program script schedule setup runs of is =
    let kept = kept_of_replay program script schedule setup runs of is in
    losses_of setup.size (spare_of setup) setup.threads runs is.last.stock segs is.run.count kept.lost_is kept.count_is kept.order
    (replay_stocks program script schedule setup runs of is)
  where
    segs : ℕ → ℕ
    segs t = length (segments_at (cast_with program script runs) (passed_of runs) setup.size t is.last.moment)

-- ---- the oldest

-- one more number
numbers_more : (first n : ℕ) → numbers_from first (n + 1) ≡ numbers_from first n ++ (first + n) ∷ []
numbers_more first zero = let e : first ≡ first + zero = omega arith in ap (λ (k : ℕ). k ∷ []) e
numbers_more first (suc n) =
    let count : suc n + 1 ≡ suc (n + 1) = omega arith in
    let last : first + 1 + n ≡ first + suc n = omega arith in
    ap (numbers_from first) count
    ∙ ap (λ (ns : List ℕ). first ∷ ns) (numbers_more (first + 1) n ∙ ap (λ (k : ℕ). numbers_from (first + 1) n ++ k ∷ []) last)

below_is : (n : ℕ) → below n ≡ numbers_from 0 n
below_is zero = refl
below_is (suc n) =
    let count : n + 1 ≡ suc n = omega arith in
    let last : n ≡ 0 + n = omega arith in
    ap (λ (ns : List ℕ). ns ++ n ∷ []) (below_is n) ∙ ap (λ (k : ℕ). numbers_from 0 n ++ k ∷ []) last ∙ sym (numbers_more 0 n)
    ∙ ap (numbers_from 0) count

-- both parts of numbers that follow one another do so
parts_follow : (xs ys : List ℕ) (first n : ℕ) → xs ++ ys ≡ numbers_from first n
    → (xs ≡ numbers_from first (length xs)) × (ys ≡ numbers_from (first + length xs) (n - length xs))
parts_follow [] ys first n is =
    let here : first ≡ first + 0 = omega arith in
    let all : n ≡ n - 0 = omega arith in
    (refl, is ∙ ap (λ (k : ℕ). numbers_from k n) here ∙ ap (numbers_from (first + 0)) all)
parts_follow (x ∷ xs) ys first zero is = absurd cc
parts_follow (x ∷ xs) ys first (suc n) is =
    let head : x ≡ first = cc in
    let tail : xs ++ ys ≡ numbers_from (first + 1) n = cc in
    let rest = parts_follow xs ys (first + 1) n tail in
    let start : first + 1 + length xs ≡ first + suc (length xs) = omega arith in
    let count : n - length xs ≡ suc n - suc (length xs) = omega arith in (
      ap (λ (k : ℕ). k ∷ xs) head ∙ ap (λ (ks : List ℕ). first ∷ ks) rest.0,
      rest.1 ∙ ap (λ (k : ℕ). numbers_from k (n - length xs)) start ∙ ap (numbers_from (first + suc (length xs))) count,
    )

pub replay_loses_oldest : (program : Program) (script : List PatchCommand) (schedule : List Turns) (setup : Setup) (runs : List ThreadRun)
    → All (AreTurnsOf setup.threads) schedule → (is : IsReplayOf program script schedule setup runs) → LoseOldest setup.size runs is.last.stock
replay_loses_oldest program script schedule setup runs of is = record {
  taken = λ j run found.
      let number : j + 1 ≡ 1 + j = omega arith in
      ap (λ (t : ℕ). serials_of t is.last.stock.taken) number ∙ (parts j).0 ∙ ap (numbers_from 0) (sym (kept.lost_is j run found));
  left = λ j run found.
      let number : j + 1 ≡ 1 + j = omega arith in
      ap (λ (t : ℕ). serials_of t is.last.stock.queue) number ∙ (parts j).1
      ∙ ap (λ (k : ℕ). numbers_from k (segs (1 + j) - 1 - k)) (sym (kept.lost_is j run found))
      ∙ ap (λ (n : ℕ). numbers_from run.lost (n - 1 - run.lost)) (sym (kept.count_is j run found));
}
  where
    kept : IsKept program script schedule setup runs is
    kept = kept_of_replay program script schedule setup runs of is

    segs : ℕ → ℕ
    segs t = length (segments_at (cast_with program script runs) (passed_of runs) setup.size t is.last.moment)

    parts : (j : ℕ) → (serials_of (1 + j) is.last.stock.taken ≡ numbers_from 0 (segments_among (1 + j) is.last.stock.taken))
        × (serials_of (1 + j) is.last.stock.queue
        ≡ numbers_from (segments_among (1 + j) is.last.stock.taken) (segs (1 + j) - 1 - segments_among (1 + j) is.last.stock.taken))
    parts j =
        let both = parts_follow (serials_of (1 + j) is.last.stock.taken) (serials_of (1 + j) is.last.stock.queue) 0 (segs (1 + j) - 1)
        (sym (serials_of-append (1 + j) is.last.stock.taken is.last.stock.queue) ∙ kept.order (1 + j) (omega arith) ∙ below_is (segs (1 + j) - 1)) in
        let lost : ℕ = segments_among (1 + j) is.last.stock.taken in
        let from : 0 + lost ≡ lost = omega arith in
        (both.0, both.1 ∙ ap (λ (k : ℕ). numbers_from k (segs (1 + j) - 1 - lost)) from)

-- ---- the first

-- numbers that follow one another, in two parts
numbers_add : (first a b : ℕ) → numbers_from first (a + b) ≡ numbers_from first a ++ numbers_from (first + a) b
numbers_add first zero b =
    let count : zero + b ≡ b = omega arith in
    let start : first ≡ first + zero = omega arith in
    ap (numbers_from first) count ∙ ap (λ (k : ℕ). numbers_from k b) start
numbers_add first (suc a) b =
    let count : suc a + b ≡ suc (a + b) = omega arith in
    let start : first + 1 + a ≡ first + suc a = omega arith in
    ap (numbers_from first) count
    ∙ ap (λ (ns : List ℕ). first ∷ ns) (numbers_add (first + 1) a b ∙ ap (λ (k : ℕ). numbers_from (first + 1) a ++ numbers_from k b) start)

of_all : (P : ThreadRun → Type 0) (runs : List ThreadRun) → All P runs → (j : ℕ) (run : ThreadRun) → slice_get runs j ≡ Some run → P run
of_all P runs all j run found =
    let within : j < length runs = slice_get_within runs j run found in
    subst P (same_Some (get_or runs j run) run (sym (slice_get-get_or runs j run within) ∙ found)) (all j run within)

pub replay_takes_first : (program : Program) (script : List PatchCommand) (schedule : List Turns) (setup : Setup) (runs : List ThreadRun)
    → All (AreTurnsOf setup.threads) schedule → (is : IsReplayOf program script schedule setup runs)
    → TakesFirst setup.size (spare_of setup) runs is.last.stock
replay_takes_first program script schedule setup runs of is =
    record {
      put = stock.pushed;
      own = λ j run found.
          let few = at_most (segment_count setup.size run) run.lost (below run j found) (none run j found) in
          let start : 0 + run.lost ≡ run.lost = omega arith in
          let whole : run.lost + (segment_count setup.size run - 1 - run.lost) ≡ segment_count setup.size run - 1 = omega (arith, few) in
          sym (fresh_serials (spare_of setup) (j + 1) stock.pushed)
          ∙ (ap (serials_of (j + 1)) (sym stock.all)
          ∙ (serials_of-append (j + 1) is.last.stock.taken is.last.stock.queue
          ∙ (ap (λ (ns : List ℕ). ns ++ serials_of (j + 1) is.last.stock.queue) (oldest.taken j run found)
          ∙ (ap (λ (ns : List ℕ). numbers_from 0 run.lost ++ ns) (oldest.left j run found)
          ∙ (ap (λ (k : ℕ). numbers_from 0 run.lost ++ numbers_from k (segment_count setup.size run - 1 - run.lost)) (sym start)
          ∙ (sym (numbers_add 0 run.lost (segment_count setup.size run - 1 - run.lost)) ∙ ap (numbers_from 0) whole))))));
      taken = sym (take-append_seam is.last.stock.taken is.last.stock.queue)
          ∙ (ap (take (length is.last.stock.taken)) stock.all ∙ ap (λ (n : ℕ). take n (replicate (spare_of setup) Fresh ++ stock.pushed)) stock.count);
      left = sym (drop-append_seam is.last.stock.taken is.last.stock.queue)
          ∙ (ap (drop (length is.last.stock.taken)) stock.all ∙ ap (λ (n : ℕ). drop n (replicate (spare_of setup) Fresh ++ stock.pushed)) stock.count);
    }
  where
    stock : StockIs setup.threads (spare_of setup) is.last.stock
    stock = replay_stocks program script schedule setup runs of is

    oldest : LoseOldest setup.size runs is.last.stock
    oldest = replay_loses_oldest program script schedule setup runs of is

    lost : AreLost setup.size (spare_of setup) runs
    lost = replay_loses program script schedule setup runs of is

    at_most : (segments lost : ℕ) → (0 < segments → lost < segments) → (segments ≡ 0 → lost ≡ 0) → lost ≤ segments - 1
    at_most zero lost below none = omega (arith, none refl)
    at_most (suc segments) lost below none = omega (arith, below (omega arith))

    below : (run : ThreadRun) (j : ℕ) → slice_get runs j ≡ Some run → 0 < segment_count setup.size run → run.lost < segment_count setup.size run
    below run j found = of_all (λ run. 0 < segment_count setup.size run → run.lost < segment_count setup.size run) runs lost.few.below j run found

    none : (run : ThreadRun) (j : ℕ) → slice_get runs j ≡ Some run → segment_count setup.size run ≡ 0 → run.lost ≡ 0
    none run j found = of_all (λ run. segment_count setup.size run ≡ 0 → run.lost ≡ 0) runs lost.few.none j run found
