-- The workers of a run with a pool, and what is absent from its buffers.
use Rattle.std.specs.Prelude.{◌≡◌, ◌+◌, ◌-◌, ◌==◌, ℕ, List, [], ◌∷◌, Some, count_by, slice_get}
use Rattle.patch_script.specs.Plans.{Plan}
use Rattle.buffer_queue.specs.Passes.{PoolIs, IsOf}
use Rattle.fdr_buffer.specs.Filled.{Filled}
use Rattle.sled_rule.specs.Seats.{script_of}
use Rattle.thread_run.specs.declared.worker.Worker.{Worker}
use Rattle.thread_run.specs.Recordings.{Recording, StandsFor}
use Rattle.thread_run.specs.Workers.{cpu_of, recorder_of, table_of}

-- the worker of a number, of a run with this pool
pub record IsWorkerOfRun (plan : Plan) (pool : PoolIs) (number : ℕ) (worker : Worker Recording) : Type 0 where
  pub table : script_of (table_of worker) ≡ plan
  pub thread : (cpu_of worker).thread ≡ number
  pub limits : (cpu_of worker).limits ≡ pool.setup.limits
  pub pass : IsOf pool (recorder_of worker).pass
  pub owner : (recorder_of worker).pass.thread ≡ number

-- workers of all numbers from 1 on, each of which satisfies this
abbrev pub AreWorkersOfRun : Plan → PoolIs → (Worker Recording → Type 0) → List (Worker Recording) → Type 0
AreWorkersOfRun plan pool Is workers =
    (i : ℕ) (worker : Worker Recording) → slice_get workers i ≡ Some worker → IsWorkerOfRun plan pool (i + 1) worker × Is worker

-- the recorder of a thread of a pool, before its first event
pub record IsNewRecorder (pool : PoolIs) (number : ℕ) (recorder : Recording) : Type 0 where
  pub pass : IsOf pool recorder.pass
  pub owner : recorder.pass.thread ≡ number
  pub no_events : StandsFor recorder []

-- the recorders of threads of all numbers from 1 on
abbrev pub AreNewRecorders : PoolIs → List Recording → Type 0
AreNewRecorders pool recorders =
    (i : ℕ) (recorder : Recording) → slice_get recorders i ≡ Some recorder → IsNewRecorder pool (i + 1) recorder

-- for each thread, from this one on, how many of its segments are in none of these buffers
abbrev pub lost_beside : List Filled → ℕ → List ℕ → List ℕ
lost_beside buffers thread [] = []
lost_beside buffers thread (count ∷ counts) = (count - count_by (λ buffer. buffer.thread == thread) buffers) ∷ lost_beside buffers (thread + 1) counts
