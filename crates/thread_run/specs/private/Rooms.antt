-- What is gathered of threads that have ended.
use Rattle.std.specs.Prelude.{◌≡◌, ◌≤◌, ℕ, List, [], Vec, length, map, vec_capacity}
use Rattle.std.specs.declared.alloc.Global.{Global}
use Rattle.machine_step.specs.declared.limits.Limits.{Limits}
use Rattle.machine_step.specs.Traced.{Traced}
use Rattle.patch_script.specs.Plans.{Plan}
use Rattle.sled_rule.specs.declared.table.CodeTable.{CodeTable}
use Rattle.sled_rule.specs.Seats.{script_of}
use Rattle.buffer_queue.specs.Passes.{AreNew, PassIs, PoolIs}
use Rattle.fdr_buffer.specs.Filled.{Filled}
use Rattle.machine_step.specs.Setups.{IsSetup}
use Rattle.machine_step.specs.declared.setup.Setup.{Setup}
use Rattle.thread_run.specs.declared.recorded.RecordedEnd.{RecordedEnd}
use Rattle.thread_run.specs.declared.whole.Gathered.{Gathered}
use Rattle.thread_run.specs.declared.whole.PoolParts.{PoolParts}
use Rattle.thread_run.specs.declared.worker.Worker.{Worker}
use Rattle.thread_run.specs.Ready.{ReadyThreads}
use Rattle.thread_run.specs.Recordings.{Recording, StandsFor, segments_begun}
use Rattle.thread_run.specs.private.Pooled.{AreWorkersOfRun}
use Rattle.thread_run.specs.private.Starting.{AreFreshThreads}
use Rattle.thread_run.specs.Workers.{HasEnded, cpu_of, recorder_of, seat_of}

-- ---- whatever records the events

-- nothing of it stands there, and there is room for so many threads
pub record IsRoom {R : Type 0} (threads : ℕ) (room : RecordedEnd R) : Type 0 where
  pub no_cpu : room.cpus.items ≡ []
  pub no_seat : room.seats.items ≡ []
  pub no_recorder : room.recorders.items ≡ []
  pub cpus : threads ≤ vec_capacity room.cpus
  pub seats : threads ≤ vec_capacity room.seats
  pub recorders : threads ≤ vec_capacity room.recorders

-- All threads of a table's script are before their first loads. There is room for their workers, and for what these have
-- when they have ended.
pub record HasThreads {R : Type 0} (table : CodeTable) (limits : Limits) (cpus : List Traced) (workers : Vec (Worker R) Global) (end : RecordedEnd R)
    : Type 0 where
  pub count : length cpus ≡ (script_of table).threads
  pub fresh : AreFreshThreads (script_of table) limits cpus
  pub none : workers.items ≡ []
  pub room : length cpus ≤ vec_capacity workers
  pub room_to_end : IsRoom (length cpus) end

-- it is what these workers have
pub record IsGathered {R : Type 0} (workers : List (Worker R)) (end : RecordedEnd R) : Type 0 where
  pub cpus : end.cpus.items ≡ map (λ (w : Worker R). cpu_of w) workers
  pub seats : end.seats.items ≡ map (λ (w : Worker R). seat_of w) workers
  pub recorders : end.recorders.items ≡ map (λ (w : Worker R). recorder_of w) workers

-- ---- recorders over a pool

-- nothing of it stands there, and there is room for so many threads
pub record IsPoolRoom (threads : ℕ) (room : PoolParts) : Type 0 where
  pub no_segments : room.segments.items ≡ []
  pub no_pass : room.passes.items ≡ []
  pub no_hand : room.hands.items ≡ []
  pub segments : threads ≤ vec_capacity room.segments
  pub passes : threads ≤ vec_capacity room.passes
  pub hands : threads ≤ vec_capacity room.hands

-- the threads of a setup, and its pool with what each thread begins with
pub record HasPool (threads : ReadyThreads) (setup : Setup) (pool : PoolIs) (hands : List (PassIs × Filled)) : Type 0 where
  pub is_setup : IsSetup setup
  pub count : (script_of threads.table).threads ≡ setup.threads
  pub limits : threads.limits ≡ setup.limits
  pub pool_is : pool.setup ≡ setup
  pub hands_are : AreNew pool 1 setup.threads hands

-- there is room for the recorders of a run, for what they have of their pool at the end, and for all buffers
pub record IsRunRoom (setup : Setup) (recorders : Vec Recording Global) (parts : PoolParts) (first : Vec ℕ Global) (buffers : Vec Filled Global)
    : Type 0 where
  pub no_recorder : recorders.items ≡ []
  pub no_first : first.items ≡ []
  pub no_buffer : buffers.items ≡ []
  pub recorders_room : setup.threads ≤ vec_capacity recorders
  pub first_room : setup.threads ≤ vec_capacity first
  pub buffers_room : setup.max ≤ vec_capacity buffers
  pub parts_room : IsPoolRoom setup.threads parts

-- it is what these recorders have of their pool
pub record AreParts (recorders : List Recording) (parts : PoolParts) : Type 0 where
  pub segments : parts.segments.items ≡ map (λ (r : Recording). segments_begun r) recorders
  pub passes : parts.passes.items ≡ map (λ (r : Recording). r.pass) recorders
  pub hands : parts.hands.items ≡ map (λ (r : Recording). r.hand) recorders

-- all threads of a plan have run with a pool, and it is what they have at their ends
pub record HaveRunPooled (plan : Plan) (pool : PoolIs) (gathered : Gathered) : Type 0 where
  pub workers : List (Worker Recording)
  pub count : length workers ≡ pool.setup.threads
  pub ended : AreWorkersOfRun plan pool (HasEnded StandsFor) workers
  pub cpus : gathered.cpus.items ≡ map (λ (w : Worker Recording). cpu_of w) workers
  pub seats : gathered.seats.items ≡ map (λ (w : Worker Recording). seat_of w) workers
  pub parts : AreParts (map (λ (w : Worker Recording). recorder_of w) workers) gathered.parts
