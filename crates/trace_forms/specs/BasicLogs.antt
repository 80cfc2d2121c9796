-- Basic logs: how the events of a trace are written as a header and a record for each event, and what such bytes read as.
use Rattle.std.specs.Prelude.{◌≡◌, ◌<◌, ◌^◌, ℕ, List, [], ◌∷◌, ◌++◌, ◌==◌, not, nat_lt, length, drop, replicate, All, Option, Result, Ok, Err}
use Rattle.std.specs.List.{flat_map, position}
use Rattle.byteorder.specs.Endian.{little_bytes}
use Rattle.basic_record.specs.BasicRecords.{arg_logged, basic_length, event_in, kind_byte, kind_numbered, pid_in, tag_in, thread_in}
use Rattle.xray_io.specs.Rows.{First, InTurn, NeedsPart, ◌>>=◌}
use Rattle.fdr_record.specs.declared.event.Event.{Event}
use Rattle.fdr_record.specs.declared.event.Kind.{Kind}
use Rattle.fdr_record.specs.Recordable.{ArgFits}
use Rattle.fdr_record.specs.Records.{action_of}
use Rattle.fdr_file.specs.declared.fault.TraceFault.{TraceFault}
use Rattle.fdr_file.specs.declared.header.Header.{Header}
use Rattle.fdr_file.specs.declared.trace.Trace.{Trace}
use Rattle.fdr_file.specs.Places.{starts}
use Rattle.fdr_file.specs.ThreadEvents.{ThreadEvent, event_given, thread_events}
use Rattle.fdr_file.specs.Traces.{header_in, trace_of, type_in, version_in}
use Rattle.trace_forms.specs.declared.basic.BasicFault.{BasicFault}
use Rattle.trace_forms.specs.declared.basic.BasicFault.TheVariants as faults
use Rattle.trace_forms.specs.Runs.{runs}

-- the length of a header, in bytes
abbrev pub header_length : ℕ
header_length = 32

-- ---- what is written

-- a header: version 3, type 0, both flags, the frequency, and 16 reserved bytes
abbrev pub basic_header_bytes : Header → List ℕ
basic_header_bytes header =
    little_bytes 2 3 ++ (little_bytes 2 0 ++ (little_bytes 4 3 ++ (little_bytes 8 header.frequency ++ replicate 16 0)))

-- a record: 2 bytes of 0, the CPU and the number of the kind, then the function's id, the counter, the thread, the
-- process and the argument
abbrev pub event_bytes : ThreadEvent → List ℕ
event_bytes e =
    little_bytes 2 0 ++ (e.event.cpu ∷ action_of e.event.kind ∷ (little_bytes 4 e.event.func ++ (little_bytes 8 e.event.tsc
    ++ (little_bytes 4 e.thread ++ (little_bytes 4 e.pid ++ little_bytes 8 (arg_logged e.event.kind e.event.arg))))))

-- the log with the frequency of a header and these events
abbrev pub log_bytes : Header → List ThreadEvent → List ℕ
log_bytes header events = basic_header_bytes header ++ flat_map event_bytes events

-- the basic log of a trace
abbrev pub basic_bytes : Trace → List ℕ
basic_bytes trace = log_bytes trace.header (thread_events trace.blocks)

-- the same for the trace that was read, if there is one
abbrev pub log_read : Result Trace TraceFault → List ℕ
log_read (Ok trace) = basic_bytes trace
log_read (Err fault) = []

-- the trace that bytes read as
abbrev pub log_of_bytes : List ℕ → List ℕ
log_of_bytes bytes = log_read (trace_of bytes)

-- the number, from 0, of the first event whose CPU doesn't fit the byte for it
abbrev pub wide_cpu : List ThreadEvent → Option ℕ
wide_cpu events = position (λ e. nat_lt 255 e.event.cpu) events

-- ---- what is read

-- A header is whole, of version 3, and of the type of basic logs.
abbrev pub basic_header_rows : {A : Type 0} → List ℕ → Result A BasicFault → Result A BasicFault
basic_header_rows bytes follows =
    First (nat_lt (length bytes) header_length) (Err (faults.Short 0))
    (First (not (version_in bytes == 3)) (Err (faults.Version (version_in bytes)))
    (First (not (type_in bytes == 0)) (Err (faults.Form (type_in bytes))) follows))

-- the header, which says the size of no buffer
abbrev pub basic_header : List ℕ → Header
basic_header bytes = record (header_in bytes) { size = 0 }

-- the thread, the process and the event that the bytes of a record of this kind say
abbrev pub basic_passing : Kind → List ℕ → ℕ × ℕ × Event
basic_passing kind bytes = (thread_in bytes, pid_in bytes, event_in kind bytes)

-- the record that bytes begin with, at this place of the file
abbrev pub basic_record_rows : ℕ → List ℕ → Result (ℕ × ℕ × Event) BasicFault
basic_record_rows at bytes =
    First (nat_lt (length bytes) basic_length) (Err (faults.Short at))
    (First (not (tag_in bytes == 0)) (Err (faults.Tag at (tag_in bytes)))
    (NeedsPart (kind_numbered (kind_byte bytes)) (Err (faults.Kind at (kind_byte bytes))) λ kind. Ok (basic_passing kind bytes)))

-- the same, after these events
abbrev pub events_rows : List ThreadEvent → ℕ × List ℕ → Result (List ThreadEvent) BasicFault
events_rows before (at, bytes) = basic_record_rows at bytes >>= λ x. Ok (before ++ event_given x ∷ [])

-- each place of bytes where a record begins, with the bytes from there on; the first of them is at the place `at`
abbrev pub record_starts : ℕ → List ℕ → List (ℕ × List ℕ)
record_starts at bytes = starts (λ _. basic_length) 0 at bytes

-- The trace of a basic log, or the fault of the first place that has one. Each run of events of one thread and one
-- process is a block.
abbrev pub basic_of : List ℕ → Result Trace BasicFault
basic_of bytes =
    basic_header_rows bytes
    (InTurn events_rows [] (record_starts 32 (drop 32 bytes)) >>= λ events.
    Ok (record { header = basic_header bytes; blocks = runs events }))

-- ---- what is written and read again

-- an event's fields fit their bytes, and it has an argument only if it logs one
pub record EventFits (e : ThreadEvent) : Type 0 where
  pub thread : e.thread < 2 ^ 32
  pub pid : e.pid < 2 ^ 32
  pub cpu : e.event.cpu < 256
  pub func : e.event.func < 2 ^ 32
  pub tsc : e.event.tsc < 2 ^ 64
  pub arg : e.event.arg < 2 ^ 64
  pub logged : ArgFits e.event.kind e.event.arg

-- so do those of a trace
pub record TraceFits (trace : Trace) : Type 0 where
  pub frequency : trace.header.frequency < 2 ^ 64
  pub events : All EventFits (thread_events trace.blocks)

-- The basic log of the trace reads as the other one, which has the same frequency and the same events, each with its
-- thread and its process, in the same order.
pub record LogReadsAs (trace back : Trace) : Type 0 where
  pub read : basic_of (basic_bytes trace) ≡ Ok back
  pub frequency : back.header.frequency ≡ trace.header.frequency
  pub events : thread_events back.blocks ≡ thread_events trace.blocks
