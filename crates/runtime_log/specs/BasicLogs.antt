-- Logs of the basic mode: a record for each passing, and behind an entry that logs its argument another record with the
-- argument. The runtime drops an entry of a call that is too deep, and writes its argument all the same.
use Rattle.std.specs.Prelude.{ℕ, ◌+◌, ◌^◌, ◌==◌, ◌&&◌, not, Bool, false, List, [], ◌∷◌, ◌++◌, length, drop, take, nat_lt, Option, Some, Result, Ok, Err, if◌then◌else◌}
use Rattle.std.specs.Option.{option_map_or}
use Rattle.byteorder.specs.Endian.{little_number}
use Rattle.xray_io.specs.Rows.{First, InTurn, NeedsPart, ◌>>=◌}
pub use Rattle.basic_record.specs.BasicRecords.{basic_length, event_in, func_in, kind_byte, kind_numbered, pid_in, tag_in, thread_in}
use Rattle.fdr_record.specs.declared.event.Event.{Event}
use Rattle.fdr_record.specs.declared.event.Kind.{Kind}
use Rattle.fdr_file.specs.Places.{starts}
use Rattle.fdr_file.specs.ThreadEvents.{ThreadEvent}
use Rattle.fdr_file.specs.Traces.{logs_arg}
use Rattle.fdr_file.specs.declared.fault.TraceFault.TheVariants as traces
use Rattle.runtime_log.specs.declared.basic.BasicRec.{BasicRec}
use Rattle.runtime_log.specs.declared.basic.BasicRec.TheVariants.{Passed, Argument}
use Rattle.runtime_log.specs.declared.basic.RecordOwner.{RecordOwner}
use Rattle.runtime_log.specs.declared.fault.LogFault.{LogFault}
use Rattle.runtime_log.specs.declared.version.BasicVersion.{BasicVersion}
use Rattle.runtime_log.specs.declared.version.BasicVersion.TheVariants.{Early, Third}
use Rattle.runtime_log.specs.declared.fault.LogFault.TheVariants as faults

-- ---- one record

-- the process that a record of this version names: 0 if it names none
abbrev pub process_of : BasicVersion → ℕ → ℕ
process_of Early pid = 0
process_of Third pid = pid

-- the passing that a record of this kind says
abbrev pub passing_in : BasicVersion → Kind → List ℕ → BasicRec
passing_in version kind bytes =
    let owner : RecordOwner = record { thread = thread_in bytes; pid = process_of version (pid_in bytes) } in Passed owner (event_in kind bytes)

-- the argument that a record says
abbrev pub argument_in : BasicVersion → List ℕ → BasicRec
argument_in version bytes =
    let owner : RecordOwner = record { thread = little_number 4 (drop 8 bytes); pid = process_of version (little_number 4 (drop 12 bytes)) } in
    Argument owner (func_in bytes) (little_number 8 (drop 16 bytes))

-- the passing at a place
abbrev pub passing_rows : BasicVersion → ℕ → List ℕ → Result BasicRec LogFault
passing_rows version at bytes =
    NeedsPart (kind_numbered (kind_byte bytes)) (Err (faults.Kind at (kind_byte bytes))) λ kind.
    First (not (nat_lt (func_in bytes) (2 ^ 28))) (Err (faults.Function at (func_in bytes)))
    (Ok (passing_in version kind bytes))

-- the record at a place, by its tag
abbrev pub tagged_rows : BasicVersion → ℕ → List ℕ → Result BasicRec LogFault
tagged_rows version at bytes =
    First (nat_lt (length bytes) basic_length) (Err (faults.Trace (traces.Short at)))
    (First (tag_in bytes == 0) (passing_rows version at bytes)
    (First (tag_in bytes == 1) (Ok (argument_in version bytes))
    (Err (faults.Tag at (tag_in bytes)))))

-- ---- the records of a log

-- the records so far, and the one at a place
abbrev pub basic_rows : BasicVersion → List BasicRec → ℕ × List ℕ → Result (List BasicRec) LogFault
basic_rows version before (at, bytes) = tagged_rows version at (take basic_length bytes) >>= λ r. Ok (before ++ r ∷ [])

-- each place where a record begins, with the bytes from there on
abbrev pub basic_places : ℕ → List ℕ → List (ℕ × List ℕ)
basic_places at bytes = starts (λ rest. basic_length) 0 at bytes

-- the records of a basic log, in its order
abbrev pub basic_records : BasicVersion → List ℕ → Result (List BasicRec) LogFault
basic_records version bytes = InTurn (basic_rows version) [] (basic_places 32 (drop 32 bytes))

-- ---- arguments and their entries

abbrev pub same_owner : RecordOwner → RecordOwner → Bool
same_owner one other = (one.thread == other.thread) && (one.pid == other.pid)

-- the record is the entry that an argument of this owner and this function, directly behind it, belongs to
abbrev pub takes_argument : BasicRec → RecordOwner → (function : ℕ) → Bool
takes_argument (Passed owner event) of function = logs_arg event.kind && (event.func == function) && same_owner owner of
takes_argument (Argument owner func value) of function = false

-- an argument has lost its entry, unless it stands directly behind this
abbrev pub is_lost : Option BasicRec → BasicRec → Bool
is_lost before (Passed owner event) = false
is_lost before (Argument owner func value) = not (option_map_or (λ r. takes_argument r owner func) before false)

abbrev pub one_lost : Option BasicRec → BasicRec → ℕ
one_lost before r = if is_lost before r then 1 else 0

-- how many arguments have lost their entries, of records behind this one
abbrev pub lost_count : Option BasicRec → List BasicRec → ℕ
lost_count before [] = 0
lost_count before (r ∷ records) = one_lost before r + lost_count (Some r) records

-- ---- the events of records

-- the event of a passing, with the argument that the record behind it says, if that one belongs to it
abbrev pub with_argument : RecordOwner → Event → List BasicRec → Event
with_argument owner event [] = event
with_argument owner event (Passed of other ∷ later) = event
with_argument owner event (Argument of func value ∷ later) =
    if takes_argument (Passed owner event) of func then record event { arg = value } else event

-- the events of records, in their order, each with its thread and its process
abbrev pub recorded_events : List BasicRec → List ThreadEvent
recorded_events [] = []
recorded_events (Passed owner event ∷ later) =
    record { thread = owner.thread; pid = owner.pid; event = with_argument owner event later } ∷ recorded_events later
recorded_events (Argument owner func value ∷ later) = recorded_events later
