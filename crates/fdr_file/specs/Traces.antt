-- The trace that the bytes of a file read as, and what is wrong with them.
use Rattle.std.specs.Prelude.{ℕ, zero, suc, ◌+◌, ◌*◌, ◌/◌, ◌%◌, ◌==◌, ◌||◌, ◌&&◌, Bool, true, false, List, [], ◌∷◌, ◌++◌, length, take, drop, map, Option, Some, None, is_some, Result, Ok, Err, nat_lt, not, slice_index, if◌then◌else◌}
use Rattle.std.specs.List.{filter_map, list_any}
use Rattle.byteorder.specs.Endian.{little_number}
use Rattle.xray_io.specs.Rows.{First, InTurn, NeedsPart, ◌>>=◌}
use Rattle.xray_io.specs.declared.wall.Wall.{Wall}
use Rattle.fdr_record.specs.declared.event.Kind.{Kind}
use Rattle.fdr_record.specs.declared.event.Kind.TheVariants.{Entry, Exit, TailExit, EntryArgs}
use Rattle.fdr_record.specs.declared.rec.Rec.{Rec}
use Rattle.fdr_record.specs.declared.rec.Rec.TheVariants.{NewBuffer, NewCpu, TscWrap, WallTime, Pid, CallArg, Extents, Function}
use Rattle.fdr_record.specs.declared.fault.RecFault.{RecFault}
use Rattle.fdr_record.specs.declared.fault.RecFault.TheVariants as decoder_faults
use Rattle.fdr_record.specs.Records.{metadata_length}
use Rattle.fdr_record.specs.Refusals.{length_by}
use Rattle.fdr_record.specs.Reading.{function_record_at, metadata_record_at}
use Rattle.fdr_file.specs.declared.header.Header.{Header}
use Rattle.fdr_file.specs.declared.version.Version.{Version}
use Rattle.fdr_file.specs.declared.version.Version.TheVariants.{Two, Three}
use Rattle.fdr_file.specs.declared.fault.TraceFault.{TraceFault}
use Rattle.fdr_file.specs.declared.fault.TraceFault.TheVariants as faults
use Rattle.fdr_file.specs.declared.trace.Block.{Block}
use Rattle.fdr_file.specs.declared.trace.Trace.{Trace}
use Rattle.fdr_file.specs.Places.{starts}
use Rattle.fdr_file.specs.Events.{events_said}

-- ---- the header

-- the fields of a header: the version, the type, a number of flags, the frequency, and the size of a buffer
abbrev pub version_in : List ℕ → ℕ
version_in bytes = little_number 2 bytes

abbrev pub type_in : List ℕ → ℕ
type_in bytes = little_number 2 (drop 2 bytes)

abbrev pub flags_in : List ℕ → ℕ
flags_in bytes = little_number 4 (drop 4 bytes)

-- flag 0 says that the counter's frequency is constant, and flag 1 that the counter never stops
abbrev pub header_in : List ℕ → Header
header_in bytes = record {
  version = version_in bytes;
  constant = flags_in bytes % 2 == 1;
  nonstop = flags_in bytes / 2 % 2 == 1;
  frequency = little_number 8 (drop 8 bytes);
  size = little_number 8 (drop 16 bytes);
}

-- the version with this number, if it is read
abbrev pub version_of : ℕ → Option Version
version_of number = if number == 3 then Some Three else if number == 2 then Some Two else None

-- A header is whole, of a version that is read, and of the type of the Flight Data Recorder mode.
abbrev pub header_rows : {A : Type 0} → List ℕ → (Version → Result A TraceFault) → Result A TraceFault
header_rows bytes follows =
    First (nat_lt (length bytes) 32) (Err (faults.Short 0))
    (NeedsPart (version_of (version_in bytes)) (Err (faults.Version (version_in bytes))) λ version.
    First (not (type_in bytes == 1)) (Err (faults.Form (type_in bytes)))
    (follows version))

-- ---- the records of a block

-- the record that bytes begin with, or why there is none
unfoldable pub record_in : List ℕ → Result Rec RecFault
record_in [] = Err decoder_faults.Short
record_in (first ∷ rest) = if first % 2 == 0 then function_record_at first (first ∷ rest) else metadata_record_at (first / 2) rest

-- the length of the record that bytes begin with, by its first byte
abbrev pub record_length : List ℕ → ℕ
record_length bytes = length_by (slice_index bytes 0)

-- a place where a record has to be, with the record that is there, or with the reason why there is none
abbrev pub Standing : Type 0
Standing = ℕ × Result Rec RecFault

abbrev pub standing_at : ℕ × List ℕ → Standing
standing_at (at, bytes) = (at, record_in bytes)

-- What is at each place of bytes where a record has to begin. The first of them is at the place `at`.
abbrev pub standings : ℕ → List ℕ → List Standing
standings at bytes = map standing_at (starts record_length 0 at bytes)

-- the records among these
abbrev pub records_among : List Standing → List Rec
records_among [] = []
records_among ((at, Ok r) ∷ following) = r ∷ records_among following
records_among ((at, Err fault) ∷ following) = records_among following

-- the thread that a record names, if a buffer begins with it
abbrev pub thread_named : Rec → Option ℕ
thread_named (NewBuffer thread) = Some thread
thread_named (NewCpu cpu tsc) = None
thread_named (TscWrap tsc) = None
thread_named (WallTime wall) = None
thread_named (Pid pid) = None
thread_named (CallArg value) = None
thread_named (Extents size) = None
thread_named (Function kind func delta) = None

-- the wall time that a record says
abbrev pub wall_named : Rec → Option Wall
wall_named (NewBuffer thread) = None
wall_named (NewCpu cpu tsc) = None
wall_named (TscWrap tsc) = None
wall_named (WallTime wall) = Some wall
wall_named (Pid pid) = None
wall_named (CallArg value) = None
wall_named (Extents size) = None
wall_named (Function kind func delta) = None

-- the process that a record names
abbrev pub pid_named : Rec → Option ℕ
pid_named (NewBuffer thread) = None
pid_named (NewCpu cpu tsc) = None
pid_named (TscWrap tsc) = None
pid_named (WallTime wall) = None
pid_named (Pid pid) = Some pid
pid_named (CallArg value) = None
pid_named (Extents size) = None
pid_named (Function kind func delta) = None

-- the number of bytes that a record says that a block has
abbrev pub size_named : Rec → Option ℕ
size_named (NewBuffer thread) = None
size_named (NewCpu cpu tsc) = None
size_named (TscWrap tsc) = None
size_named (WallTime wall) = None
size_named (Pid pid) = None
size_named (CallArg value) = None
size_named (Extents size) = Some size
size_named (Function kind func delta) = None

-- the record says a CPU and its counter
abbrev pub names_cpu : Rec → Bool
names_cpu (NewBuffer thread) = false
names_cpu (NewCpu cpu tsc) = true
names_cpu (TscWrap tsc) = false
names_cpu (WallTime wall) = false
names_cpu (Pid pid) = false
names_cpu (CallArg value) = false
names_cpu (Extents size) = false
names_cpu (Function kind func delta) = false

-- the record has a meaning only after one that names a CPU
abbrev pub needs_cpu : Rec → Bool
needs_cpu (NewBuffer thread) = false
needs_cpu (NewCpu cpu tsc) = false
needs_cpu (TscWrap tsc) = true
needs_cpu (WallTime wall) = false
needs_cpu (Pid pid) = false
needs_cpu (CallArg value) = true
needs_cpu (Extents size) = false
needs_cpu (Function kind func delta) = true

-- the record is an argument
abbrev pub is_arg : Rec → Bool
is_arg (NewBuffer thread) = false
is_arg (NewCpu cpu tsc) = false
is_arg (TscWrap tsc) = false
is_arg (WallTime wall) = false
is_arg (Pid pid) = false
is_arg (CallArg value) = true
is_arg (Extents size) = false
is_arg (Function kind func delta) = false

-- an event of this kind logs an argument
abbrev pub logs_arg : Kind → Bool
logs_arg Entry = false
logs_arg Exit = false
logs_arg TailExit = false
logs_arg EntryArgs = true

-- an argument may stand directly behind the record: behind an entry that logs one, or behind another argument
abbrev pub takes_arg : Rec → Bool
takes_arg (NewBuffer thread) = false
takes_arg (NewCpu cpu tsc) = false
takes_arg (TscWrap tsc) = false
takes_arg (WallTime wall) = false
takes_arg (Pid pid) = false
takes_arg (CallArg value) = true
takes_arg (Extents size) = false
takes_arg (Function kind func delta) = logs_arg kind

-- the same, of the first of some records
abbrev pub first_takes_arg : List Rec → Bool
first_takes_arg [] = false
first_takes_arg (r ∷ records) = takes_arg r

-- what a record of a preamble names
pub data PreambleItem : Type 0 where
  TheThread : PreambleItem
  TheWallTime : PreambleItem
  TheProcess : PreambleItem

-- what the first records of a block name, in order
abbrev pub preamble_of : Version → List PreambleItem
preamble_of Two = TheThread ∷ TheWallTime ∷ []
preamble_of Three = TheThread ∷ TheWallTime ∷ TheProcess ∷ []

-- how many bytes these records have
abbrev pub preamble_bytes : Version → ℕ
preamble_bytes version = metadata_length * length (preamble_of version)

-- the record names this
abbrev pub names_item : PreambleItem → Rec → Bool
names_item TheThread r = is_some (thread_named r)
names_item TheWallTime r = is_some (wall_named r)
names_item TheProcess r = is_some (pid_named r)

-- The record may be number n of its block, counted from 0, if the first records name these items. CPUs, counters,
-- functions and arguments follow.
abbrev pub may_be : List PreambleItem → ℕ → Rec → Bool
may_be [] n r = names_cpu r || needs_cpu r
may_be (item ∷ items) zero r = names_item item r
may_be (item ∷ items) (suc n) r = may_be items n r

-- the record may stand after these, the last of which comes first
abbrev pub may_stand : Version → List Rec → Rec → Bool
may_stand version before r = may_be (preamble_of version) (length before) r && (not (is_arg r) || first_takes_arg before)

-- why no record is at a place: the block ends too early, or its action or kind isn't one
abbrev pub fault_at : ℕ → RecFault → TraceFault
fault_at at decoder_faults.Short = faults.Extents at
fault_at at (decoder_faults.Action action) = faults.Bad at (decoder_faults.Action action)
fault_at at (decoder_faults.Kind kind) = faults.Bad at (decoder_faults.Kind kind)

-- what is at a place, after the records before it, the last of them first
abbrev pub record_rows : Version → List Rec → Standing → Result (List Rec) TraceFault
record_rows version before (at, Ok r) =
    First (not (may_stand version before r)) (Err (faults.Order at))
    (First (needs_cpu r && not (list_any names_cpu before)) (Err (faults.NoBase at))
    (Ok (r ∷ before)))
record_rows version before (at, Err fault) = Err (fault_at at fault)

-- ---- blocks

-- how many bytes the extents at the start of a block name
abbrev pub extents_in : List ℕ → ℕ
extents_in bytes = little_number 8 (drop 1 bytes)

-- the length of the block that bytes begin with: its extents, and as many bytes as they name
abbrev pub block_length : List ℕ → ℕ
block_length bytes = 16 + extents_in bytes

-- what is at the places of the block that begins at a place
abbrev pub block_standings : ℕ × List ℕ → List Standing
block_standings (at, bytes) = standings (at + 16) (take (extents_in bytes) (drop 16 bytes))

-- the first item of a list
abbrev pub first_or : {A : Type 0} → A → List A → A
first_or otherwise [] = otherwise
first_or otherwise (x ∷ xs) = x

-- the block that records say: what the first of each kind names, and the events
abbrev pub block_of : List Rec → Block
block_of records = record {
  thread = first_or 0 (filter_map thread_named records);
  wall = first_or (record { secs = 0; micros = 0 }) (filter_map wall_named records);
  pid = first_or 0 (filter_map pid_named records);
  events = events_said records;
}

-- the block that begins at a place
abbrev pub block_in : ℕ × List ℕ → Block
block_in start = block_of (records_among (block_standings start))

-- The block that begins at a place: its first record, the number of bytes that it names, and its records.
abbrev pub extents_rows : Version → ℕ × List ℕ → Result Rec RecFault → Result Block TraceFault
extents_rows version (at, bytes) (Ok r) =
    NeedsPart (size_named r) (Err (faults.Order at)) λ size.
    First (nat_lt size (preamble_bytes version)) (Err (faults.Extents at))
    (First (nat_lt (length bytes) (16 + size)) (Err (faults.Short at))
    (InTurn (record_rows version) [] (block_standings (at, bytes)) >>= λ _. Ok (block_in (at, bytes))))
extents_rows version (at, bytes) (Err fault) = Err (faults.Bad at fault)

abbrev pub block_rows : Version → List Block → ℕ × List ℕ → Result (List Block) TraceFault
block_rows version before (at, bytes) =
    First (nat_lt (length bytes) 16) (Err (faults.Short at))
    (extents_rows version (at, bytes) (record_in bytes) >>= λ block. Ok (before ++ block ∷ []))

-- ---- files

-- each place where a block begins, after the 32 bytes of the header, with the bytes from there on
abbrev pub block_starts : List ℕ → List (ℕ × List ℕ)
block_starts bytes = starts block_length 0 32 (drop 32 bytes)

-- The trace of a file, or the fault of the first place that has one.
abbrev pub trace_of : List ℕ → Result Trace TraceFault
trace_of bytes =
    header_rows bytes λ version.
    InTurn (block_rows version) [] (block_starts bytes) >>= λ blocks. Ok (record { header = header_in bytes; blocks = blocks })
