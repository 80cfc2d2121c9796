-- How many segments are lost: what is in the queue, and what was taken away from it, through a replay.
use Rattle.std.proofs.Common.{◌≡◌, ℕ, zero, suc, ◌+◌, ◌-◌, ◌<◌, ◌≤◌, List, [], ◌∷◌, ◌++◌, Bool, true, false, Some, refl, sym, subst, ap, ◌∙◌, arith, length, length-append, fold, append_assoc, drop, take}
use Rattle.std.specs.Prelude.{◌&&◌, ◌==◌, if◌then◌else◌, nat_lt, replicate, slice_get, sum_by}
use Rattle.std.specs.List.{AllByRecursion}
use Rattle.std.proofs.lemmas.List.{append-nil, length-take, take-append-drop}
use Rattle.std.proofs.lemmas.List.Elements.{All-from_recursion}
use Rattle.std.proofs.Math.Seq.{take-append_seam}
use Rattle.fdr_record.specs.declared.event.Event.{Event}
use Rattle.fdr_buffer.specs.Segments.{segments}
use Rattle.machine_step.specs.Events.{recorded}
use Rattle.machine_step.specs.PlainStep.{Passing}
use Rattle.handler_word.specs.declared.mark.Mark.{Mark}
use Rattle.machine_step.specs.Traced.{Traced}
use Rattle.traced_run.specs.Kept.{segment_count, segments_of}
use Rattle.traced_run.specs.Losses.{AreLost, recycled_of}
use Rattle.traced_run.specs.Runs.{ThreadRun}
use Rattle.step_sim.specs.declared.turns.Turns.{Turns}
use Rattle.step_sim.specs.declared.turns.Turns.TheVariants.{Thread, Patcher}
use Rattle.step_sim.specs.Pool.{Fresh, QueueItem, Pooled, Pooling, Segment, Stock, first_stock, pooled_step, pooled_turn, queued, segments_among, serials_of, stock_after}
use Rattle.step_sim.specs.private.Turns.{AllPooledRunOut, pooled_line}
use Rattle.step_sim.specs.private.Holding.{below, segments_in}
use Rattle.step_sim.specs.private.Recording.{Recording, histories}
use Rattle.step_sim.specs.Plays.{turns}
use Rattle.step_sim.specs.Replay.{Cast, of_thread, thread_turn}
use Rattle.step_sim.specs.Schedules.{AreTurnsOf}
use Rattle.step_sim.proofs.CountedSegments.{IsItemOf, IsSegmentOf, all_segments, first_segments, fresh_serials, front_items, pushed_items, segment_items, summed, summed_among, summed_runs}
use Rattle.step_sim.proofs.EndedRuns.{IsRunOf}
use Rattle.step_sim.proofs.OneRecorded.{history_is}
use Rattle.step_sim.proofs.PoolLemmas.{length-below, serials_of-append}

-- ---- the stock

-- The queue was given `spare` buffers that aren't begun, and then these segments. As many items were taken away from
-- its start as segments were given to it.
pub record StockIs (threads spare : ℕ) (stock : Stock) : Type 0 where
  pub pushed : List QueueItem
  pub own : AllByRecursion (IsSegmentOf threads) pushed
  pub all : stock.taken ++ stock.queue ≡ replicate spare Fresh ++ pushed
  pub count : length stock.taken ≡ length pushed

pub first_is : (threads spare : ℕ) → StockIs threads spare (first_stock spare)
first_is threads spare = record { pushed = []; own = tt; all = sym (append-nil (replicate spare Fresh)); count = refl }

own_push : (threads : ℕ) (pushed : List QueueItem) (thread serial : ℕ) → AllByRecursion (IsSegmentOf threads) pushed → 1 ≤ thread → thread ≤ threads
    → AllByRecursion (IsSegmentOf threads) (pushed ++ Segment thread serial ∷ [])
own_push threads [] thread serial own low high = ((low, high), tt)
own_push threads (item ∷ pushed) thread serial (here, own) low high = (here, own_push threads pushed thread serial own low high)

queued_is : (threads spare thread serial : ℕ) (stock : Stock) → 1 ≤ thread → thread ≤ threads → StockIs threads spare stock
    → StockIs threads spare (queued (Segment thread serial) stock)
queued_is threads spare thread serial stock low high is =
    let item : QueueItem = Segment thread serial in
    let xs : List QueueItem = stock.queue ++ item ∷ [] in
    record {
      pushed = is.pushed ++ item ∷ [];
      own = own_push threads is.pushed thread serial is.own low high;
      all = append_assoc stock.taken (take 1 xs) (drop 1 xs) ∙ ap (λ (ys : List QueueItem). stock.taken ++ ys) (take-append-drop 1 xs)
          ∙ sym (append_assoc stock.taken stock.queue (item ∷ [])) ∙ ap (λ (ys : List QueueItem). ys ++ item ∷ []) is.all
          ∙ append_assoc (replicate spare Fresh) is.pushed (item ∷ []);
      count = omega (
        arith,
        is.count,
        length-append stock.taken (take 1 xs),
        length-take 1 xs,
        length-append stock.queue (item ∷ []),
        length-append is.pushed (item ∷ []),
      );
    }

after_is : (threads spare thread before after : ℕ) (stock : Stock) → 1 ≤ thread → thread ≤ threads → StockIs threads spare stock
    → StockIs threads spare (stock_after thread before after stock)
after_is threads spare thread before after stock low high is = by_test (nat_lt 0 before && (after == before + 1))
  where
    by_test : (b : Bool) → StockIs threads spare (if b then queued (Segment thread (before - 1)) stock else stock)
    by_test true = queued_is threads spare thread (before - 1) stock low high is
    by_test false = is

-- ---- turns

turns_are : (threads spare n : ℕ) (turn : Pooled → Pooled) → ((x : Pooled) → StockIs threads spare x.stock → StockIs threads spare (turn x).stock)
    → (x : Pooled) → StockIs threads spare x.stock → StockIs threads spare (turns n turn x).stock
turns_are threads spare zero turn keeps x is = is
turns_are threads spare (suc n) turn keeps x is = turns_are threads spare n turn keeps (turn x) (keeps x is)

thread_is : (cast : Cast) (pooling : Pooling) (threads spare thread n : ℕ) (x : Pooled) → 1 ≤ thread → thread ≤ threads → StockIs threads spare x.stock
    → StockIs threads spare (turns n (pooled_turn cast pooling thread) x).stock
thread_is cast pooling threads spare thread n x low high is =
    turns_are threads spare n (pooled_turn cast pooling thread)
    (λ y. after_is threads spare thread (pooling.segment_count thread y.moment) (pooling.segment_count thread (thread_turn cast thread y.moment)) y.stock low high)
    x is

line_is : (cast : Cast) (pooling : Pooling) (threads spare : ℕ) (line : Turns) (x : Pooled) → AreTurnsOf threads line → StockIs threads spare x.stock
    → StockIs threads spare (pooled_line cast pooling x line).stock
line_is cast pooling threads spare (Thread thread count) x of is = thread_is cast pooling threads spare thread count x of.0 of.1 is
line_is cast pooling threads spare (Patcher count) x of is = turns_are threads spare count (pooled_step cast) (λ y there. there) x is

pub lines_are : (cast : Cast) (pooling : Pooling) (threads spare : ℕ) (lines : List Turns) (x : Pooled) → AllByRecursion (AreTurnsOf threads) lines
    → StockIs threads spare x.stock → StockIs threads spare (fold (pooled_line cast pooling) x lines).stock
lines_are cast pooling threads spare [] x of is = is
lines_are cast pooling threads spare (line ∷ lines) x (here, of) is =
    lines_are cast pooling threads spare lines (pooled_line cast pooling x line) of (line_is cast pooling threads spare line x here is)

pub runs_are : (cast : Cast) (pooling : Pooling) (threads spare n thread : ℕ) (x y : Pooled) → 1 ≤ thread → thread + n ≤ threads + 1
    → AllPooledRunOut cast pooling n thread x y → StockIs threads spare x.stock → StockIs threads spare y.stock
runs_are cast pooling threads spare zero thread x y low high e is = subst (λ (z : Pooled). StockIs threads spare z.stock) (sym e) is
runs_are cast pooling threads spare (suc n) thread x y low high (mid, (count, made, ends), rest) is =
    let there = thread_is cast pooling threads spare thread count x low (omega (arith, high)) is in
    let at_mid : StockIs threads spare mid.stock = subst (λ (z : Pooled). StockIs threads spare z.stock) (sym made) there in
    runs_are cast pooling threads spare n (thread + 1) mid y (omega (arith, low)) (omega (arith, high)) rest at_mid

-- ---- what is lost

-- the segments of a run are those of its thread
pub segments_same : (r : Recording) (last : Pooled) (ts : List Traced) (thread : ℕ) (run : ThreadRun) → 0 < thread → IsRunOf r last ts thread run
    → segments_of r.stamp.size run ≡ segments_in r.stamp (histories r last.moment) thread
segments_same r last ts thread run some is =
    ap (λ (ps : List Passing). segments r.stamp.size (recorded ps run.marks)) is.passed
    ∙ ap (λ (ms : List Mark). segments r.stamp.size (recorded (of_thread r.passed thread) ms)) is.marks
    ∙ ap (λ (es : List Event). segments r.stamp.size es) (sym (history_is r last.moment thread some))

each_run : (P : ThreadRun → Type 0) (runs : List ThreadRun) → ((j : ℕ) (run : ThreadRun) → slice_get runs j ≡ Some run → P run)
    → AllByRecursion P runs
each_run P [] each = tt
each_run P (run ∷ runs) each = (each zero run refl, each_run P runs (λ j. each (suc j)))

-- The losses of runs, by a stock that has, for each thread, the segments that it has put into the queue.
pub losses_of : (size spare threads : ℕ) (runs : List ThreadRun) (stock : Stock) (segs : ℕ → ℕ) → length runs ≡ threads
    → ((j : ℕ) (run : ThreadRun) → slice_get runs j ≡ Some run → run.lost ≡ segments_among (1 + j) stock.taken)
    → ((j : ℕ) (run : ThreadRun) → slice_get runs j ≡ Some run → segment_count size run ≡ segs (1 + j))
    → ((t : ℕ) → 0 < t → serials_of t (stock.taken ++ stock.queue) ≡ below (segs t - 1)) → StockIs threads spare stock
    → AreLost size spare runs
losses_of size spare threads runs stock segs count lost_is count_is order is = record {
  few = record {
    below = All-from_recursion (λ run. 0 < segment_count size run → run.lost < segment_count size run) runs (each_run (λ run. 0 < segment_count size run → run.lost < segment_count size run) runs below_of);
    none = All-from_recursion (λ run. segment_count size run ≡ 0 → run.lost ≡ 0) runs (each_run (λ run. segment_count size run ≡ 0 → run.lost ≡ 0) runs none_of);
  };
  recycled = lost_sum ∙ taken_sum ∙ ap (λ (n : ℕ). n - spare) (is.count ∙ sym (put_sum ∙ pushed_sum));
}
  where
    few_of : (j : ℕ) (run : ThreadRun) → slice_get runs j ≡ Some run → run.lost ≤ segment_count size run - 1
    few_of j run found =
        let there : 0 < 1 + j = omega arith in
        omega (
          arith,
          ap length (order (1 + j) there),
          ap length (serials_of-append (1 + j) stock.taken stock.queue),
          length-append (serials_of (1 + j) stock.taken) (serials_of (1 + j) stock.queue),
          length-below (segs (1 + j) - 1),
          lost_is j run found,
          count_is j run found,
        )

    below_of : (j : ℕ) (run : ThreadRun) → slice_get runs j ≡ Some run → 0 < segment_count size run → run.lost < segment_count size run
    below_of j run found some = omega (arith, few_of j run found, some)

    none_of : (j : ℕ) (run : ThreadRun) → slice_get runs j ≡ Some run → segment_count size run ≡ 0 → run.lost ≡ 0
    none_of j run found none = omega (arith, few_of j run found, none)

    lost_sum : recycled_of runs ≡ summed (λ t. segments_among t stock.taken) 1 threads
    lost_sum = summed_runs (λ run. run.lost) (λ t. segments_among t stock.taken) runs 1 threads count lost_is

    taken_is : stock.taken ≡ take (length stock.taken) (replicate spare Fresh ++ is.pushed)
    taken_is = sym (take-append_seam stock.taken stock.queue) ∙ ap (take (length stock.taken)) is.all

    taken_few : length stock.taken ≤ spare + length is.pushed
    taken_few = omega (arith, is.count)

    taken_sum : summed (λ t. segments_among t stock.taken) 1 threads ≡ length stock.taken - spare
    taken_sum =
        summed_among threads stock.taken (subst (AllByRecursion (IsItemOf threads)) (sym taken_is)
        (front_items threads spare (length stock.taken) is.pushed is.own))
        ∙ ap segment_items taken_is ∙ first_segments threads spare (length stock.taken) is.pushed is.own taken_few

    put_of : (t : ℕ) → 0 < t → segs t - 1 ≡ segments_among t is.pushed
    put_of t some =
        sym (length-below (segs t - 1)) ∙ ap length (sym (order t some)) ∙ ap (λ (items : List QueueItem). length (serials_of t items)) is.all
        ∙ ap length (fresh_serials spare t is.pushed)

    put_sum : sum_by (λ run. segment_count size run - 1) runs ≡ summed (λ t. segments_among t is.pushed) 1 threads
    put_sum = summed_runs (λ run. segment_count size run - 1) (λ t. segments_among t is.pushed) runs 1 threads count
        (λ j run found. ap (λ (n : ℕ). n - 1) (count_is j run found) ∙ put_of (1 + j) (omega arith))

    pushed_sum : summed (λ t. segments_among t is.pushed) 1 threads ≡ length is.pushed
    pushed_sum = summed_among threads is.pushed (pushed_items threads is.pushed is.own) ∙ all_segments threads is.pushed is.own
