-- The trace of a file, read record by record: the blocks that the records say so far, and where the reading stands.
use Rattle.std.specs.Prelude.{ℕ, ◌+◌, ◌%◌, ◌^◌, ◌==◌, ◌&&◌, Bool, not, List, [], ◌∷◌, ◌++◌, drop, Option, Some, None, Result, Ok, Err, nat_lt, if◌then◌else◌}
use Rattle.xray_io.specs.Rows.{First, NeedsPart, ◌>>=◌}
use Rattle.xray_io.specs.declared.wall.Wall.{Wall}
use Rattle.fdr_record.specs.declared.event.Event.{Event}
use Rattle.fdr_record.specs.declared.event.Kind.{Kind}
use Rattle.fdr_record.specs.declared.event.Kind.TheVariants.{EntryArgs}
use Rattle.fdr_record.specs.declared.rec.Rec.{Rec}
use Rattle.fdr_record.specs.declared.rec.Rec.TheVariants.{NewBuffer, NewCpu, TscWrap, WallTime, Pid, CallArg, Extents, Function}
use Rattle.fdr_record.specs.declared.fault.RecFault.{RecFault}
use Rattle.fdr_file.specs.declared.events.Argument.{Argument}
use Rattle.fdr_file.specs.declared.events.Argument.TheVariants as arguments
use Rattle.fdr_file.specs.declared.events.Base.{Base}
use Rattle.fdr_file.specs.declared.fault.TraceFault.{TraceFault}
use Rattle.fdr_file.specs.declared.fault.TraceFault.TheVariants as faults
use Rattle.fdr_file.specs.declared.header.Header.{Header}
use Rattle.fdr_file.specs.declared.stage.Span.{Span}
use Rattle.fdr_file.specs.declared.stage.Inside.{Inside}
use Rattle.fdr_file.specs.declared.stage.Inside.TheVariants as insides
use Rattle.fdr_file.specs.declared.stage.Stage.{Stage}
use Rattle.fdr_file.specs.declared.stage.Stage.TheVariants.{Due, Within, Faulty}
use Rattle.fdr_file.specs.declared.stage.Told.{Told}
use Rattle.fdr_file.specs.declared.stage.Told.TheVariants.{Nothing, Begun, Noted}
use Rattle.fdr_file.specs.declared.trace.Block.{Block}
use Rattle.fdr_file.specs.declared.trace.Trace.{Trace}
use Rattle.fdr_file.specs.declared.version.Version.{Version}
use Rattle.fdr_file.specs.declared.version.Version.TheVariants.{Two, Three}
use Rattle.fdr_file.specs.Places.{starts}
use Rattle.fdr_file.specs.Traces.{fault_at, header_in, header_rows, logs_arg, pid_named, preamble_bytes, record_in, record_length, size_named, thread_named, wall_named}

-- ---- blocks that grow

-- a block without events
abbrev pub empty_block : ℕ → Wall → ℕ → Block
empty_block thread wall pid = record { thread = thread; wall = wall; pid = pid; events = [] }

-- a block with one more event
abbrev pub longer_block : Block → Event → Block
longer_block block event = record block { events = block.events ++ event ∷ [] }

-- these blocks, the last of which has one more event
abbrev pub last_longer : Event → List Block → List Block
last_longer event [] = []
last_longer event (block ∷ []) = longer_block block event ∷ []
last_longer event (block ∷ other ∷ blocks) = block ∷ last_longer event (other ∷ blocks)

-- the same, if there is one more event
abbrev pub with_event : Option Event → List Block → List Block
with_event None blocks = blocks
with_event (Some event) blocks = last_longer event blocks

-- the blocks after a record
abbrev pub with_told : Told → List Block → List Block
with_told Nothing blocks = blocks
with_told (Begun thread wall pid) blocks = blocks ++ empty_block thread wall pid ∷ []
with_told (Noted entry event) blocks = with_event event (with_event entry blocks)

-- ---- one record

-- the extents of the block that begins at a place
abbrev pub extents_span : ℕ → Span
extents_span at = record { begin = at; end = at + 16 }

-- the block that begins at a place, with as many bytes as its extents name
abbrev pub block_span : ℕ → ℕ → Span
block_span at size = record { begin = at; end = at + 16 + size }

-- the stage after what is where a block has to begin
abbrev pub extents_next : Version → ℕ → Result Rec RecFault → Stage
extents_next version at (Ok r) =
    NeedsPart (size_named r) (Faulty (extents_span at) (faults.Order at)) λ size.
    First (nat_lt size (preamble_bytes version)) (Faulty (extents_span at) (faults.Extents at))
    (Within (block_span at size) insides.Opened)
extents_next version at (Err fault) = Faulty (extents_span at) (faults.Bad at fault)

-- the record at a place of a block, or the fault there
abbrev pub record_or : ℕ → Result Rec RecFault → Result Rec TraceFault
record_or at (Ok r) = Ok r
record_or at (Err fault) = Err (fault_at at fault)

-- the same; a record of this length has to end within the block
abbrev pub record_within : Span → ℕ → ℕ → Result Rec RecFault → Result Rec TraceFault
record_within span at len found = if nat_lt span.end (at + len) then Err (faults.Extents at) else record_or at found

-- what a thread and a wall time say; in version 2 no record names a process
abbrev pub after_wall : Version → ℕ → Wall → Inside × Told
after_wall Two thread wall = (insides.Events None, Begun thread wall 0)
after_wall Three thread wall = (insides.Wall thread wall, Nothing)

-- An entry that logs its argument is told one record later, since the argument may be in that record. If the entry is
-- the last record of its block, it is told at once.

-- the entry whose argument the next record may be, with this argument
abbrev pub entry_due : Argument → Base → ℕ → Option Event
entry_due arguments.Barred base arg = None
entry_due (arguments.Awaited func) base arg =
    Some (record { cpu = base.cpu; func = func; kind = EntryArgs; tsc = base.tsc; arg = arg })
entry_due arguments.Known base arg = None

abbrev pub entry_with : Option Base → ℕ → Option Event
entry_with None arg = None
entry_with (Some base) arg = entry_due base.argument base arg

-- after a record with a CPU or a counter
abbrev pub counted_on : ℕ → ℕ → Option Base → Base × Option Event × Option Event
counted_on cpu tsc base = (record { cpu = cpu; tsc = tsc; argument = arguments.Barred }, entry_with base 0, None)

-- after a function record, which may be the last record of its block
abbrev pub function_on : Bool → Kind → ℕ → ℕ → Base → Base × Option Event × Option Event
function_on ends kind func tsc base =
    if logs_arg kind && not ends
    then (record { cpu = base.cpu; tsc = tsc; argument = arguments.Awaited func }, entry_with (Some base) 0, None)
    else (
      record { cpu = base.cpu; tsc = tsc; argument = arguments.Barred },
      entry_with (Some base) 0,
      Some (record { cpu = base.cpu; func = func; kind = kind; tsc = tsc; arg = 0 }),
    )

-- after an argument; those after the first are skipped
abbrev pub argument_on : ℕ → ℕ → Base → Argument → Result (Base × Option Event × Option Event) TraceFault
argument_on at value base arguments.Barred = Err (faults.Order at)
argument_on at value base (arguments.Awaited func) =
    Ok (record base { argument = arguments.Known }, entry_with (Some base) value, None)
argument_on at value base arguments.Known = Ok (base, None, None)

-- What is known after a record, and the events that it settles: the entry before it, and its own.
abbrev pub step_on : Bool → ℕ → Rec → Option Base → Result (Base × Option Event × Option Event) TraceFault
step_on ends at (NewCpu cpu tsc) base = Ok (counted_on cpu tsc base)
step_on ends at (TscWrap tsc) None = Err (faults.NoBase at)
step_on ends at (TscWrap tsc) (Some base) = Ok (counted_on base.cpu tsc (Some base))
step_on ends at (Function kind func delta) None = Err (faults.NoBase at)
step_on ends at (Function kind func delta) (Some base) = Ok (function_on ends kind func ((base.tsc + delta) % 2 ^ 64) base)
step_on ends at (CallArg value) None = Err (faults.Order at)
step_on ends at (CallArg value) (Some base) = argument_on at value base base.argument
step_on ends at (NewBuffer thread) base = Err (faults.Order at)
step_on ends at (WallTime wall) base = Err (faults.Order at)
step_on ends at (Pid pid) base = Err (faults.Order at)
step_on ends at (Extents size) base = Err (faults.Order at)

-- what is known after the record that bytes begin with, and the events that it settles; it may end its block
abbrev pub event_on : Bool → ℕ → Base → List ℕ → Result (Base × Option Event × Option Event) TraceFault
event_on ends at base bytes = record_or at (record_in bytes) >>= λ r. step_on ends at r (Some base)

-- what a record within a block says, after those before it; the block may end with it
abbrev pub inside_next : Version → Inside → Bool → ℕ → Rec → Result (Inside × Told) TraceFault
inside_next version insides.Opened ends at r =
    NeedsPart (thread_named r) (Err (faults.Order at)) λ thread. Ok (insides.Thread thread, Nothing)
inside_next version (insides.Thread thread) ends at r =
    NeedsPart (wall_named r) (Err (faults.Order at)) λ wall. Ok (after_wall version thread wall)
inside_next version (insides.Wall thread wall) ends at r =
    NeedsPart (pid_named r) (Err (faults.Order at)) λ pid. Ok (insides.Events None, Begun thread wall pid)
inside_next version (insides.Events base) ends at r =
    step_on ends at r base >>= λ step. Ok (insides.Events (Some step.0), Noted step.1 step.2)

-- what is at a place within a block says this
abbrev pub inside_judged : Version → Span → Inside → ℕ → ℕ → Result Rec RecFault → Result (Inside × Told) TraceFault
inside_judged version span inside at len found =
    record_within span at len found >>= λ r. inside_next version inside (at + len == span.end) at r

-- the stage after a record of a block that ends at this place
abbrev pub stage_after : Span → ℕ → Inside → Stage
stage_after span at inside = if at == span.end then Due else Within span inside

abbrev pub stage_within : Span → ℕ → Result (Inside × Told) TraceFault → Stage × Told
stage_within span at (Ok said) = (stage_after span at said.0, said.1)
stage_within span at (Err fault) = (Faulty span fault, Nothing)

-- The stage after what is at a place, and what it says of the blocks. By its first byte it is this long.
abbrev pub stage_judged : Version → Stage → ℕ → ℕ → Result Rec RecFault → Stage × Told
stage_judged version Due at len found = (extents_next version at found, Nothing)
stage_judged version (Within span inside) at len found =
    stage_within span (at + len) (inside_judged version span inside at len found)
stage_judged version (Faulty span fault) at len found = (Faulty span fault, Nothing)

-- ---- all records

-- where the reading stands, and the blocks so far
pub record Scanned : Type 0 where
  pub stage : Stage
  pub blocks : List Block

-- after what is at a place
abbrev pub scanned_next : Version → Scanned → ℕ → List ℕ → Scanned
scanned_next version s at bytes =
    let said = stage_judged version s.stage at (record_length bytes) (record_in bytes) in
    record { stage = said.0; blocks = with_told said.1 s.blocks }

-- after what is at each of these places
unfoldable pub scanned_over : Version → Scanned → List (ℕ × List ℕ) → Scanned
scanned_over version s [] = s
scanned_over version s ((at, bytes) ∷ later) = scanned_over version (scanned_next version s at bytes) later

-- after bytes, the first of which is at a place
abbrev pub scanned_on : Version → Scanned → ℕ → List ℕ → Scanned
scanned_on version s at bytes = scanned_over version s (starts record_length 0 at bytes)

-- before the first block
abbrev pub scan_start : Scanned
scan_start = record { stage = Due; blocks = [] }

-- the version of a file, or the fault of its header
abbrev pub version_read : List ℕ → Result Version TraceFault
version_read bytes = header_rows bytes λ version. Ok version

-- the version and the header of a file, or the fault of its header
abbrev pub header_on : List ℕ → Result (Version × Header) TraceFault
header_on bytes = header_rows bytes λ version. Ok (version, header_in bytes)

-- what a file has after its header, or the fault of the header
abbrev pub scanned_from : Result Version TraceFault → List ℕ → Scanned
scanned_from (Ok version) bytes = scanned_on version scan_start 32 (drop 32 bytes)
scanned_from (Err fault) bytes = record { stage = Faulty (record { begin = 0; end = 0 }) fault; blocks = [] }

-- where the reading of a file stands after its last byte
abbrev pub scanned : List ℕ → Scanned
scanned bytes = scanned_from (version_read bytes) bytes

-- The blocks that the records of a file say, up to the first fault.
abbrev pub blocks_given : List ℕ → List Block
blocks_given bytes = (scanned bytes).blocks

-- what a file of this length reads as, by where the reading stands after its last byte
abbrev pub stage_ends : ℕ → Header → List Block → Stage → Result Trace TraceFault
stage_ends len header blocks Due = Ok (record { header = header; blocks = blocks })
stage_ends len header blocks (Within span inside) = Err (faults.Short span.begin)
stage_ends len header blocks (Faulty span fault) = if nat_lt len span.end then Err (faults.Short span.begin) else Err fault

abbrev pub scanned_ends : ℕ → Header → Scanned → Result Trace TraceFault
scanned_ends len header s = stage_ends len header s.blocks s.stage

-- a header or a fault, with these blocks
abbrev pub with_blocks : Result Header TraceFault → List Block → Result Trace TraceFault
with_blocks (Ok header) blocks = Ok (record { header = header; blocks = blocks })
with_blocks (Err fault) blocks = Err fault
