-- The runs that a schedule leaves, and what a replay leaves of them.
use Rattle.std.specs.Prelude.{◌≡◌, ◌-◌, ◌++◌, ℕ, List, drop, length, map, replicate, take}
use Rattle.xray_image.specs.Program.{Program}
use Rattle.patch_script.specs.declared.command.PatchCommand.{PatchCommand}
use Rattle.fdr_buffer.specs.Filled.{Filled}
use Rattle.machine_step.specs.declared.setup.Setup.{Setup}
use Rattle.machine_step.specs.Buffers.{spare_of}
use Rattle.machine_step.specs.PlainStep.{Passing}
use Rattle.machine_step.specs.Traced.{Traced, sleds_passed}
use Rattle.traced_run.specs.Kept.{segment_count}
use Rattle.traced_run.specs.Left.{AreThreadsOf, Leaves}
use Rattle.traced_run.specs.Losses.{AreLost}
use Rattle.traced_run.specs.Runs.{EachThread, IsRun, ThreadRun}
use Rattle.step_sim.specs.declared.turns.Turns.{Turns}
use Rattle.step_sim.specs.Pool.{Fresh, Pooled, PooledReplay, Pooling, QueueItem, Stock, segments_among, serials_of}
use Rattle.step_sim.specs.Recorded.{numbers_from, pooling_of}
use Rattle.step_sim.specs.Replay.{Cast, marks_at}

-- the program, the script, and the sleds that each thread passes
abbrev pub cast_of : Program → List PatchCommand → List (List ℕ) → Cast
cast_of program script passings = record { program = program; script = script; passings = passings }

-- the passings of each of these runs
abbrev pub passed_of : List ThreadRun → List (List Passing)
passed_of runs = map (λ run. run.passed) runs

-- what is replayed if the threads run in this way
abbrev pub cast_with : Program → List PatchCommand → List ThreadRun → Cast
cast_with program script runs = cast_of program script (map sleds_passed (passed_of runs))

abbrev pub pooling_with : Program → List PatchCommand → Setup → List ThreadRun → Pooling
pooling_with program script setup runs =
    pooling_of (cast_with program script runs) (passed_of runs) setup.size (spare_of setup)

-- The runs that a schedule leaves, thread 1 first. When its turns are over, each thread has these marks, and this many
-- of its segments were taken away from the queue.
pub record IsReplayOf (program : Program) (script : List PatchCommand) (schedule : List Turns) (setup : Setup) (runs : List ThreadRun) : Type 0 where
  pub run : IsRun program setup runs
  pub last : Pooled
  pub replay : PooledReplay (cast_with program script runs) (pooling_with program script setup runs) schedule last
  pub marks : map (λ run. run.marks) runs ≡ marks_at (cast_with program script runs) last.moment
  pub lost : map (λ run. run.lost) runs ≡ map (λ thread. segments_among thread last.stock.taken) (numbers_from 1 setup.threads)

-- The segments of each thread whose buffers were taken away are its oldest ones, in their order: those with the numbers
-- from 0 up to the number of its lost segments. The others are in the queue, in their order, except the last one, which
-- the thread holds.
pub record LoseOldest (size : ℕ) (runs : List ThreadRun) (stock : Stock) : Type 0 where
  pub taken : EachThread runs (λ number run. serials_of number stock.taken ≡ numbers_from 0 run.lost)
  pub left : EachThread runs
      (λ number run. serials_of number stock.queue ≡ numbers_from run.lost (segment_count size run - 1 - run.lost))

-- The buffers of a replay by their places. Behind `spare` buffers that aren't begun stand all segments that were put into
-- the queue: of each thread all but the last one, in their order. As many buffers as segments were taken away, from the
-- first one on, and the others are in the queue.
pub record TakesFirst (size spare : ℕ) (runs : List ThreadRun) (stock : Stock) : Type 0 where
  pub put : List QueueItem
  pub own : EachThread runs (λ number run. serials_of number put ≡ numbers_from 0 (segment_count size run - 1))
  pub taken : stock.taken ≡ take (length put) (replicate spare Fresh ++ put)
  pub left : stock.queue ≡ drop (length put) (replicate spare Fresh ++ put)

-- A replay leaves what the runs of its schedule leave: the threads of the setup; how many buffers each has put into the queue, how
-- many segments it has, and how many of them are lost; and the buffers of those that are left. As many are lost as the
-- queue had no buffers for.
pub record IsSimulated (program : Program) (script : List PatchCommand) (schedule : List Turns) (setup : Setup) (cpus : List Traced)
    (sealed segments first : List ℕ) (buffers : List Filled) : Type 0 where
  pub runs : List ThreadRun
  pub replay : IsReplayOf program script schedule setup runs
  pub threads : AreThreadsOf program script setup cpus
  pub leaves : Leaves setup runs cpus segments first buffers
  pub sealed_are : sealed ≡ map (λ run. segment_count setup.size run - 1) runs
  pub losses : AreLost setup.size (spare_of setup) runs
