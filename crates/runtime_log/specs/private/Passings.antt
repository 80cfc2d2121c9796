-- The passings of a basic log by their places, and their events as they are read again.
use Rattle.std.specs.Prelude.{◌≡◌, ◌≢◌, ◌≤◌, ◌⊎◌, ℕ, ◌+◌, ⊤, ◌==◌, ◌&&◌, Bool, All, List, [], ◌∷◌, length, drop, map, take, Option, Some, None, Result, Ok, Err, if◌then◌else◌}
use Rattle.xray_io.specs.Rows.{InTurn}
use Rattle.fdr_record.specs.declared.event.Event.{Event}
use Rattle.fdr_record.specs.declared.event.Kind.TheVariants.{Entry}
use Rattle.fdr_file.specs.declared.trace.Block.{Block}
use Rattle.fdr_file.specs.ThreadEvents.{ThreadEvent}
use Rattle.runtime_log.specs.declared.basic.BasicRec.{BasicRec}
use Rattle.runtime_log.specs.declared.basic.BasicRec.TheVariants.{Passed, Argument}
use Rattle.runtime_log.specs.declared.basic.Passing.{Passing}
use Rattle.runtime_log.specs.declared.basic.RecordOwner.{RecordOwner}
use Rattle.runtime_log.specs.declared.version.BasicVersion.{BasicVersion}
use Rattle.runtime_log.specs.declared.blocks.Head.{Head}
use Rattle.runtime_log.specs.declared.fault.LogFault.{LogFault}
use Rattle.runtime_log.specs.BasicLogs.{basic_length, basic_places, basic_records, basic_rows, lost_count, recorded_events, tagged_rows, with_argument}
use Rattle.runtime_log.specs.Threads.{recorded_by}

-- the record at a place of a log
abbrev pub record_at : BasicVersion → List ℕ → ℕ → Result BasicRec LogFault
record_at version bytes at = tagged_rows version at (take basic_length (drop at bytes))

-- the event of this owner's passing, with the argument that a record says, if that one belongs to it
abbrev pub argued_by : RecordOwner → Event → Result BasicRec LogFault → Event
argued_by owner event (Ok r) = with_argument owner event (r ∷ [])
argued_by owner event (Err fault) = event

-- the event of a passing, by the record behind it; some event if it is no passing
abbrev pub passed_event : Result BasicRec LogFault → Result BasicRec LogFault → Event
passed_event (Ok (Passed owner event)) next = argued_by owner event next
passed_event (Ok (Argument owner func value)) next = record { tsc = 0; arg = 0; func = 0; cpu = 0; kind = Entry }
passed_event (Err fault) next = record { tsc = 0; arg = 0; func = 0; cpu = 0; kind = Entry }

abbrev pub event_at : BasicVersion → List ℕ → ℕ → Event
event_at version bytes at = passed_event (record_at version bytes at) (record_at version bytes (at + basic_length))

abbrev pub event_of_passing : BasicVersion → List ℕ → Passing → ThreadEvent
event_of_passing version bytes passing = record { thread = passing.thread; pid = passing.pid; event = event_at version bytes passing.at }

abbrev pub events_of_passings : BasicVersion → List ℕ → List Passing → List ThreadEvent
events_of_passings version bytes passings = map (event_of_passing version bytes) passings

-- the passings of records, the first of which is at a place
abbrev pub passings_from : ℕ → List BasicRec → List Passing
passings_from at [] = []
passings_from at (Passed owner event ∷ later) =
    record { at = at; thread = owner.thread; pid = owner.pid } ∷ passings_from (at + basic_length) later
passings_from at (Argument owner func value ∷ later) = passings_from (at + basic_length) later

-- the records of a log from one place up to another
abbrev pub AreBetween : BasicVersion → List ℕ → ℕ → ℕ → List BasicRec → Type 0
AreBetween version bytes from to [] = from ≡ to
AreBetween version bytes from to (r ∷ later) = (record_at version bytes from ≡ Ok r) × AreBetween version bytes (from + basic_length) to later

-- the last of records, if there is one
abbrev pub last_record : List BasicRec → Option BasicRec
last_record [] = None
last_record (r ∷ []) = Some r
last_record (r ∷ next ∷ records) = last_record (next ∷ records)

-- the records of a log up to a place were read; `last` is the last of them, and so many arguments have lost their entries
pub record PassingsRead (version : BasicVersion) (bytes : List ℕ) (at : ℕ) (last : Option BasicRec) (lost : ℕ) (passings : List Passing) : Type 0 where
  pub records : List BasicRec
  pub on : basic_records version bytes ≡ InTurn (basic_rows version) records (basic_places at (drop at bytes))
  pub ends : last ≡ last_record records
  pub between : AreBetween version bytes 32 at records
  pub lost_is : lost ≡ lost_count None records
  pub are : passings ≡ passings_from 32 records

-- a passing is of the thread and the process of another one
abbrev pub IsOfRun : Passing → Passing → Type 0
IsOfRun first passing = (passing.thread ≡ first.thread) × (passing.pid ≡ first.pid)

-- the first of these is not, if there is one
abbrev pub BeginsOther : Passing → List Passing → Type 0
BeginsOther first [] = ⊤
BeginsOther first (passing ∷ passings) = (passing.thread ≢ first.thread) ⊎ (passing.pid ≢ first.pid)

-- no event stands behind one of a higher thread
abbrev pub RiseFrom : ℕ → List ThreadEvent → Type 0
RiseFrom thread [] = ⊤
RiseFrom thread (e ∷ events) = (thread ≤ e.thread) × RiseFrom e.thread events

-- what is said of the block of a run of passings
abbrev pub run_head : Passing → Head
run_head first = record { thread = first.thread; pid = first.pid; wall = record { secs = 0; micros = 0 } }

-- a run that begins with an event
abbrev pub run_from : ThreadEvent → List Event → Block
run_from e later = record { thread = e.thread; wall = record { secs = 0; micros = 0 }; pid = e.pid; events = e.event ∷ later }

-- an event before blocks: it is the first of the first of them, if that one is of its thread and its process
abbrev pub is_of : ThreadEvent → Block → Bool
is_of e block = (block.thread == e.thread) && (block.pid == e.pid)

abbrev pub joined_to : ThreadEvent → List Block → List Block
joined_to e [] = run_from e [] ∷ []
joined_to e (block ∷ blocks) = if is_of e block then run_from e block.events ∷ blocks else run_from e [] ∷ block ∷ blocks

-- events as blocks: each run of one thread and one process
abbrev pub runs_of : List ThreadEvent → List Block
runs_of [] = []
runs_of (e ∷ events) = joined_to e (runs_of events)

-- passings have the events of records, thread by thread
pub record HasThreads (version : BasicVersion) (bytes : List ℕ) (records : List BasicRec) (passings : List Passing) : Type 0 where
  pub same : (thread : ℕ) → recorded_by thread (events_of_passings version bytes passings) ≡ recorded_by thread (recorded_events records)
  pub rise : RiseFrom 0 (events_of_passings version bytes passings)

-- so many of passings, from the first on, are of the thread and the process of another one, and the next one isn't
pub record IsRunOf (first : Passing) (passings : List Passing) (count : ℕ) : Type 0 where
  pub within : count ≤ length passings
  pub same : All (IsOfRun first) (take count passings)
  pub ends : BeginsOther first (drop count passings)
