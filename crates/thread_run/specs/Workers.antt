-- What is true of a worker: a traced thread that makes its loads from a table by its seat, and notes its events.
use Rattle.std.specs.Prelude.{◌≡◌, ◌≢◌, ◌<◌, ◌≤◌, ◌++◌, ℕ, List, [], ◌∷◌, length, All, false}
use Rattle.xray_image.specs.Program.{IsAccepted}
use Rattle.sled_words.specs.Words.{release_word}
use Rattle.patch_script.specs.Micros.{hold_of, start_of, total_of}
use Rattle.patch_script.specs.Plans.{Plan}
use Rattle.patch_script.specs.Refusals.{commands_of}
use Rattle.fdr_record.specs.declared.event.Event.{Event}
use Rattle.machine_step.specs.declared.end.End.{End}
use Rattle.machine_step.specs.Ended.{EndsAsPlain}
use Rattle.machine_step.specs.Events.{recorded}
use Rattle.machine_step.specs.Loads.{Load}
use Rattle.machine_step.specs.PlainStep.{Passing, State}
use Rattle.machine_step.specs.Traced.{HasLoaded, IsSameThread, Traced, sleds_passed}
use Rattle.sled_rule.specs.declared.seats.WorkSeat.{WorkSeat}
use Rattle.sled_rule.specs.declared.table.CodeTable.{CodeTable}
use Rattle.sled_rule.specs.declared.views.Load.{Load as SeatLoad}
use Rattle.sled_rule.specs.declared.views.WorkView.{WorkView}
use Rattle.sled_rule.specs.Seats.{work_view, script_of, IsWorkerOf}
use Rattle.sled_rule.specs.Views.{ended_count}
use Rattle.traced_run.specs.Following.{HasFollowed, MarksFollowScript}
use Rattle.thread_run.specs.declared.worker.Worker.{Worker}
use Rattle.thread_run.specs.Each.{HaveChanged}
use Rattle.thread_run.specs.Following.{given, is_held_by}

-- the thread, the seat, the table and the recorder of a worker
abbrev pub cpu_of : {R : Type 0} → Worker R → Traced
cpu_of worker = worker.cpu

abbrev pub seat_of : {R : Type 0} → Worker R → WorkSeat
seat_of worker = worker.seat

abbrev pub table_of : {R : Type 0} → Worker R → CodeTable
table_of worker = worker.table.now

abbrev pub recorder_of : {R : Type 0} → Worker R → R
recorder_of worker = worker.recorder

-- the loads of its seat
abbrev pub loads_of : {R : Type 0} → Worker R → List SeatLoad
loads_of worker = (work_view (seat_of worker)).loads

-- the thread runs the script's program as one of its threads, which are numbered from 1 on, and the script holds it
-- where its commands say
pub record IsThreadIn (plan : Plan) (t : Traced) : Type 0 where
  pub program : t.program ≡ plan.program
  pub threads : t.threads ≡ plan.threads
  pub hold : t.hold ≡ hold_of t.thread (commands_of plan.lines)
  pub first : 0 < t.thread
  pub last : t.thread ≤ t.threads
  pub accepted : (bytes : List ℕ) × IsAccepted bytes plan.program

-- a thread before its first load
pub record IsFreshThread (plan : Plan) (t : Traced) : Type 0 where
  pub thread : IsThreadIn plan t
  pub no_marks : t.marks ≡ []
  pub passed : List Passing
  pub loaded : HasLoaded t passed []

-- its seat, which has made no load either
pub record IsFreshIn (plan : Plan) (t : Traced) (v : WorkView) : Type 0 where
  pub fresh : IsFreshThread plan t
  pub own : v.thread ≡ t.thread
  pub seen : v.seen ≡ start_of plan.program plan.threads (commands_of plan.lines)
  pub count : v.count ≡ 0
  pub loads : v.loads ≡ []

-- The loads of the seat are those that the thread was given. They follow the script up to what the seat has seen, and
-- determine the thread's marks. There are also loads that do both and never found the thread held.
pub record IsAlong (plan : Plan) (t : Traced) (v : WorkView) (passed : List Passing) : Type 0 where
  pub all : HasFollowed plan.program plan.threads (commands_of plan.lines) t passed v.seen (given v.loads)
  pub made : List Load
  pub free : HasFollowed plan.program plan.threads (commands_of plan.lines) t passed v.seen made
  pub released : All (λ load. load.word ≡ release_word plan.program t.thread → load.value ≢ 0) made

-- A worker between two loads. Its thread was given exactly the loads of its seat, which follow the table's script. Its
-- recorder stands for exactly the events of the passings that were recorded.
pub record IsAtWork {R : Type 0} (stands : R → List Event → Type 0) (worker : Worker R) : Type 0 where
  pub own : IsWorkerOf (table_of worker) (seat_of worker)
  pub thread : IsThreadIn (script_of (table_of worker)) (cpu_of worker)
  pub seat : (work_view (seat_of worker)).thread ≡ (cpu_of worker).thread
  pub within : (work_view (seat_of worker)).seen
      ≤ total_of (script_of (table_of worker)).program (script_of (table_of worker)).threads (commands_of (script_of (table_of worker)).lines)
  pub passed : List Passing
  pub along : IsAlong (script_of (table_of worker)) (cpu_of worker) (work_view (seat_of worker)) passed
  pub recorded_are : stands (recorder_of worker) (recorded passed (cpu_of worker).marks)

-- it hasn't ended: its seat counts the passings that have marks
pub record IsGoing {R : Type 0} (stands : R → List Event → Type 0) (worker : Worker R) : Type 0 where
  pub at : IsAtWork stands worker
  pub count : (work_view (seat_of worker)).count ≡ length (cpu_of worker).marks

-- It has ended: its thread, which was given the loads of its seat, ends as its plain run does, its seat says that it has
-- ended, and the marks follow the whole script.
pub record HasEnded {R : Type 0} (stands : R → List Event → Type 0) (worker : Worker R) : Type 0 where
  pub at : IsAtWork stands worker
  pub count : (work_view (seat_of worker)).count ≡ ended_count
  pub end : End
  pub last : State
  pub plain : EndsAsPlain (cpu_of worker) at.passed end last (given (loads_of worker))
  pub marks : MarksFollowScript (script_of (table_of worker)).program (script_of (table_of worker)).threads
      (commands_of (script_of (table_of worker)).lines)
      (cpu_of worker).thread (sleds_passed at.passed) (cpu_of worker).marks

-- the same thread of the same table, with the same recorder
pub record IsSameWorker {R : Type 0} (follows : R → R → Type 0) (old new : Worker R) : Type 0 where
  pub table : table_of new ≡ table_of old
  pub thread : IsSameThread (cpu_of old) (cpu_of new)
  pub recorder : follows (recorder_of old) (recorder_of new)

-- a worker has made some more loads, and none of them held it
pub record HasMade {R : Type 0} (old new : Worker R) : Type 0 where
  pub made : List SeatLoad
  pub loads : loads_of new ≡ loads_of old ++ made
  pub free : is_held_by (cpu_of old).program (cpu_of old).thread made ≡ false

-- A worker has made some more loads. The last of them held it: it found the thread's release word at 0. No other did.
pub record WasHeld {R : Type 0} (old new : Worker R) : Type 0 where
  pub made : List SeatLoad
  pub last : SeatLoad
  pub loads : loads_of new ≡ loads_of old ++ made ++ last ∷ []
  pub free : is_held_by (cpu_of old).program (cpu_of old).thread made ≡ false
  pub word : last.word ≡ release_word (cpu_of old).program (cpu_of old).thread
  pub value : last.value ≡ 0

-- A worker has run to its end. Its loads are those that it had made before, and then some more.
pub record HasRunOut {R : Type 0} (stands : R → List Event → Type 0) (follows : R → R → Type 0) (old new : Worker R) : Type 0 where
  pub same : IsSameWorker follows old new
  pub made : List SeatLoad
  pub loads : loads_of new ≡ loads_of old ++ made
  pub ended : HasEnded stands new

-- each worker of a list has run, and is at its place
abbrev pub HaveRun : {R : Type 0} → (R → List Event → Type 0) → (R → R → Type 0) → (old new : List (Worker R)) → Type 0
HaveRun stands follows = HaveChanged (HasRunOut stands follows)
