-- How many segments of a run are lost.
use Rattle.std.specs.Prelude.{◌≡◌, ◌<◌, ◌-◌, ℕ, List, All, map, sum_by}
use Rattle.traced_run.specs.Runs.{ThreadRun}
use Rattle.traced_run.specs.Kept.{segment_count}

-- how many segments of all threads are lost
abbrev pub recycled_of : List ThreadRun → ℕ
recycled_of runs = sum_by (λ run. run.lost) runs

-- A thread that has segments has lost fewer than it has, so its last segment is left. A thread that has none has lost
-- none.
pub record LosesFew (size : ℕ) (runs : List ThreadRun) : Type 0 where
  pub below : All (λ run. 0 < segment_count size run → run.lost < segment_count size run) runs
  pub none : All (λ run. segment_count size run ≡ 0 → run.lost ≡ 0) runs

-- The losses of a run whose threads share a queue with `spare` spare buffers. A thread that has segments holds the last
-- one itself, and has put each of the others into the queue. If more segments were queued than there are spare buffers,
-- the excess is lost.
pub record AreLost (size spare : ℕ) (runs : List ThreadRun) : Type 0 where
  pub few : LosesFew size runs
  pub recycled : recycled_of runs ≡ sum_by (λ run. segment_count size run - 1) runs - spare

-- a thread, and all threads of a run, as if no segment was lost
abbrev pub without_loss : ThreadRun → ThreadRun
without_loss run = record run { lost = 0 }

abbrev pub without_losses : List ThreadRun → List ThreadRun
without_losses runs = map without_loss runs
