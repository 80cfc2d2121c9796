-- Workers of all threads of a script: before their first loads, and at their ends.
use Rattle.std.specs.Prelude.{◌≡◌, ◌+◌, ℕ, List, Some, length, map, slice_get}
use Rattle.fdr_record.specs.declared.event.Event.{Event}
use Rattle.machine_step.specs.declared.limits.Limits.{Limits}
use Rattle.machine_step.specs.Traced.{Traced}
use Rattle.patch_script.specs.Plans.{Plan}
use Rattle.sled_rule.specs.declared.seats.WorkSeat.{WorkSeat}
use Rattle.sled_rule.specs.declared.table.CodeTable.{CodeTable}
use Rattle.sled_rule.specs.Seats.{script_of}
use Rattle.thread_run.specs.declared.worker.Worker.{Worker}
use Rattle.thread_run.specs.Each.{HaveChanged}
use Rattle.thread_run.specs.Workers.{HasEnded, IsFreshThread, IsGoing, cpu_of, recorder_of, seat_of, table_of}

-- the thread of a number before its first load, in a run of a script with these limits
pub record IsFreshAt (plan : Plan) (limits : Limits) (number : ℕ) (t : Traced) : Type 0 where
  pub fresh : IsFreshThread plan t
  pub thread : t.thread ≡ number
  pub limits_are : t.limits ≡ limits

-- threads of all numbers from 1 on
abbrev pub AreFreshThreads : Plan → Limits → List Traced → Type 0
AreFreshThreads plan limits cpus = (i : ℕ) (t : Traced) → slice_get cpus i ≡ Some t → IsFreshAt plan limits (i + 1) t

-- the worker of a number, of a run of a script with these limits
pub record IsWorkerAt {R : Type 0} (plan : Plan) (limits : Limits) (number : ℕ) (worker : Worker R) : Type 0 where
  pub table : script_of (table_of worker) ≡ plan
  pub thread : (cpu_of worker).thread ≡ number
  pub limits_are : (cpu_of worker).limits ≡ limits

-- workers of all numbers from 1 on, each of which satisfies this
abbrev pub AreWorkersAt : {R : Type 0} → Plan → Limits → (Worker R → Type 0) → List (Worker R) → Type 0
AreWorkersAt {R} plan limits Is workers =
    (i : ℕ) (worker : Worker R) → slice_get workers i ≡ Some worker → IsWorkerAt plan limits (i + 1) worker × Is worker

-- a worker of a table that hasn't ended
abbrev pub IsGoingAt : {R : Type 0} → (R → List Event → Type 0) → CodeTable → Worker R → Type 0
IsGoingAt stands table worker = IsGoing stands worker × (table_of worker ≡ table)

-- workers of a table, none of which has ended
abbrev pub AreStarted : {R : Type 0} → (R → List Event → Type 0) → CodeTable → Limits → List (Worker R) → Type 0
AreStarted {R} stands table limits workers = AreWorkersAt {R = R} (script_of table) limits (IsGoingAt stands table) workers

-- Workers have run to their ends. These are their threads, their seats and their recorders, and the recorders that they
-- began with.
pub record HaveWorked {R : Type 0} (stands : R → List Event → Type 0) (follows : R → R → Type 0) (plan : Plan) (limits : Limits)
    (old : List R) (cpus : List Traced) (seats : List WorkSeat) (new : List R) : Type 0 where
  pub workers : List (Worker R)
  pub count : length workers ≡ length old
  pub ended : AreWorkersAt plan limits (HasEnded stands) workers
  pub cpus_are : cpus ≡ map (λ (w : Worker R). cpu_of w) workers
  pub seats_are : seats ≡ map (λ (w : Worker R). seat_of w) workers
  pub recorders_are : new ≡ map (λ (w : Worker R). recorder_of w) workers
  pub followed : HaveChanged follows old new
