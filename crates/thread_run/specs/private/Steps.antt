-- The loads of a worker, step by step.
use Rattle.std.specs.Prelude.{◌≡◌, ◌<◌, ◌≤◌, ◌+◌, ◌++◌, ℕ, List, [], ◌∷◌, length, true, false, Option}
use Rattle.xray_image.specs.Program.{Program}
use Rattle.fdr_record.specs.declared.event.Event.{Event}
use Rattle.handler_word.specs.declared.mark.Mark.{Mark}
use Rattle.machine_step.specs.declared.want.Want.{Want}
use Rattle.machine_step.specs.declared.want.Want.TheVariants.{Gate, Load, Done}
use Rattle.machine_step.specs.Events.{events_in}
use Rattle.machine_step.specs.declared.underway.Underway.{Underway}
use Rattle.machine_step.specs.Traced.{IsKept, MarksAdded, Traced, loads_left}
use Rattle.machine_step.specs.Underway.{IsPassingOf, in_passing}
use Rattle.sled_rule.specs.declared.seats.WorkSeat.{WorkSeat}
use Rattle.sled_rule.specs.declared.views.Load.{Load as SeatLoad}
use Rattle.sled_rule.specs.Seats.{work_view, IsWorkerOf}
use Rattle.sled_rule.specs.Steps.{IsFetched}
use Rattle.thread_run.specs.declared.worker.Found.{Found}
use Rattle.thread_run.specs.declared.worker.Found.TheVariants.{Last, More}
use Rattle.thread_run.specs.declared.worker.Worker.{Worker}
use Rattle.thread_run.specs.Following.{is_held_by}
use Rattle.thread_run.specs.Workers.{HasMade, IsAtWork, IsGoing, cpu_of, seat_of, table_of, recorder_of, loads_of}

-- It has made one more load, of this word. If that ended its passing, the thread has one more mark, which isn't counted
-- yet. If that held the thread, it wants the same word again.
pub record HasTakenOne {R : Type 0} (word : ℕ) (old new : Worker R) : Type 0 where
  pub count : (work_view (seat_of new)).count ≡ length (cpu_of old).marks
  pub marks : MarksAdded (cpu_of old).marks (cpu_of new).marks (cpu_of new).want
  pub load : SeatLoad
  pub word_is : load.word ≡ word
  pub loads : loads_of new ≡ loads_of old ++ load ∷ []
  pub held : is_held_by (cpu_of old).program (cpu_of old).thread (load ∷ []) ≡ true → cpu_of new ≡ cpu_of old
  pub goes_on : is_held_by (cpu_of old).program (cpu_of old).thread (load ∷ []) ≡ false → loads_left (cpu_of new) < loads_left (cpu_of old)

-- of these loads, the only one held a thread
pub record IsHeldByOne (program : Program) (thread : ℕ) (made : List SeatLoad) : Type 0 where
  pub load : SeatLoad
  pub only : made ≡ load ∷ []
  pub held : is_held_by program thread (load ∷ []) ≡ true

-- It has made some more loads, the first of which is of this word. If the last one ended its passing, the thread has one
-- more mark, which isn't counted yet. It wants the same word again exactly if the only load held it.
pub record HasTaken {R : Type 0} (word : ℕ) (old new : Worker R) : Type 0 where
  pub count : (work_view (seat_of new)).count ≡ length (cpu_of old).marks
  pub marks : MarksAdded (cpu_of old).marks (cpu_of new).marks (cpu_of new).want
  pub made : List SeatLoad
  pub loads : loads_of new ≡ loads_of old ++ made
  pub again : (cpu_of new).want ≡ Load word → IsHeldByOne (cpu_of old).program (cpu_of old).thread made
  pub free : ((cpu_of new).want ≡ Load word → ⊥) → is_held_by (cpu_of old).program (cpu_of old).thread made ≡ false
  pub nearer : ((cpu_of new).want ≡ Load word → ⊥) → loads_left (cpu_of new) < loads_left (cpu_of old)

-- It has made one more load, which found this value. Its thread hasn't been given the value.
pub record HasFetched {R : Type 0} (stands : R → List Event → Type 0) (value : ℕ) (worker : Worker R) : Type 0 where
  pub before : WorkSeat
  pub word : ℕ
  pub going : IsGoing stands (record worker { seat = before })
  pub wants : (cpu_of worker).want ≡ Load word
  pub own : IsWorkerOf (table_of worker) (seat_of worker)
  pub fetched : IsFetched (work_view before) word value (work_view (seat_of worker))

-- what a value makes of a thread
pub record IsGiven (old : Traced) (value : ℕ) (new : Traced) : Type 0 where
  pub marks : MarksAdded old.marks new.marks new.want
  pub kept : IsKept old value → new ≡ old
  pub nearer : (IsKept old value → ⊥) → loads_left new < loads_left old

-- ---- the loads of a passing

-- the worker, once its thread has come to where its passing is
abbrev pub come_to : {R : Type 0} → Worker R → Underway → Worker R
come_to worker u = record worker { cpu = in_passing (cpu_of worker) u }

-- Where the passing is: before its next load, or after its last one.
abbrev pub IsFound : {R : Type 0} → (R → List Event → Type 0) → Found → Worker R → Type 0
IsFound stands (More u) worker = IsPassingOf (cpu_of worker) u × IsGoing stands (come_to worker u)
IsFound stands (Last u value) worker =
    IsPassingOf (cpu_of worker) u × HasFetched stands value (come_to worker u) × (IsKept (in_passing (cpu_of worker) u) value → ⊥)

-- how much of the thread's loads is left where the passing is
abbrev pub left_in : Traced → Found → ℕ
left_in t (More u) = loads_left (in_passing t u)
left_in t (Last u value) = loads_left (in_passing t u)

-- it was after its last load
abbrev pub IsLast : Found → Type 0
IsLast (More u) = ⊥
IsLast (Last u value) = Unit {0}

-- a load that isn't the last one brings the thread nearer to its end
abbrev pub IsNearer : Traced → Found → Found → Type 0
IsNearer t (More u) (More next) = loads_left (in_passing t next) < loads_left (in_passing t u)
IsNearer t (More u) (Last next value) = Unit {0}
IsNearer t (Last u value) next = Unit {0}

-- The thread has come to where its passing was. If the last load ended it, the thread has one more mark, which isn't
-- counted yet.
pub record HasCome {R : Type 0} (old new : Worker R) : Type 0 where
  pub count : (work_view (seat_of new)).count ≡ length (cpu_of old).marks
  pub marks : MarksAdded (cpu_of old).marks (cpu_of new).marks (cpu_of new).want

-- Some loads of a passing were made, and none held the thread. Only the seat has changed.
pub record HasRead {R : Type 0} (from to : Found) (old new : Worker R) : Type 0 where
  pub same : new ≡ record old { seat = seat_of new }
  pub made : HasMade old new
  pub left : left_in (cpu_of old) to ≤ left_in (cpu_of old) from

-- Its recorder hasn't noted the event of the load, if there is one. Once it has, the worker is at work.
pub record Lacks {R : Type 0} (stands : R → List Event → Type 0) (event : Option Event) (worker : Worker R) : Type 0 where
  pub once : (noted : R) → ((events : List Event) → stands (recorder_of worker) events → stands noted (events ++ events_in event))
      → IsAtWork stands (record worker { recorder = noted })

-- The seat counts the passings that have marks. If the load ended its passing, it leaves out this one.
abbrev pub IsBehind : ℕ → List Mark → Want → Type 0
IsBehind count marks (Load word) = count ≡ length marks
IsBehind count marks (Gate passing) = count + 1 ≡ length marks
IsBehind count marks (Done end) = count + 1 ≡ length marks

-- so of a worker
abbrev pub CountIsBehind : {R : Type 0} → Worker R → Type 0
CountIsBehind worker = IsBehind (work_view (seat_of worker)).count (cpu_of worker).marks (cpu_of worker).want
