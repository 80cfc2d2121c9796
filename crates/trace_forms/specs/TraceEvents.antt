-- A trace as JSON, in the form that Chrome's tracing page and other viewers of trace events read.
use Rattle.std.specs.Prelude.{ℕ, List, [], ◌++◌, codes, map, Result, Ok, Err}
use Rattle.fdr_record.specs.declared.event.Kind.{Kind}
use Rattle.fdr_record.specs.declared.event.Kind.TheVariants.{Entry, Exit, TailExit, EntryArgs}
use Rattle.fdr_file.specs.declared.fault.TraceFault.{TraceFault}
use Rattle.fdr_file.specs.declared.trace.Trace.{Trace}
use Rattle.fdr_file.specs.ThreadEvents.{ThreadEvent, thread_events}
use Rattle.fdr_file.specs.Traces.{trace_of}
use Rattle.map_names.specs.Naming.{Naming}
use Rattle.function_names.specs.Name.{plain_name}
use Rattle.serde_json.specs.Data.{Data, Members, array, member, no_members, number, object, string, unsigned}
use Rattle.serde_json.specs.View.{items_of}
use Rattle.serde_json.specs.Written.{compact_text}

-- the most events that are printed
abbrev pub most_events : ℕ
most_events = 1048576

-- `B` begins a call, and `E` ends one
abbrev pub phase_text : Kind → List ℕ
phase_text Entry = codes "B"
phase_text Exit = codes "E"
phase_text TailExit = codes "E"
phase_text EntryArgs = codes "B"

-- an object with one member, a whole number
abbrev pub numbered : List ℕ → ℕ → Members → Members
numbered key n members = member key (number (unsigned n)) members

-- these members, after the argument of an event of this kind if it logs one
abbrev pub with_arg : Kind → ℕ → Members → Members
with_arg Entry arg members = members
with_arg Exit arg members = members
with_arg TailExit arg members = members
with_arg EntryArgs arg members = member (codes "args") (object (numbered (codes "arg") arg no_members)) members

-- An event as an object. Its members come in the order of their keys. `ts` is the counter, in cycles.
abbrev pub event_object : Naming → ThreadEvent → Data
event_object names e =
    object (with_arg e.event.kind e.event.arg
    (numbered (codes "cpu") e.event.cpu
    (member (codes "name") (string (plain_name names e.event.func))
    (member (codes "ph") (string (phase_text e.event.kind))
    (numbered (codes "pid") e.pid
    (numbered (codes "tid") e.thread
    (numbered (codes "ts") e.event.tsc no_members)))))))

-- events as an object with one member, their array
abbrev pub events_object : Naming → List ThreadEvent → Data
events_object names events =
    object (member (codes "traceEvents") (array (items_of (map (event_object names) events))) no_members)

-- the compact text of this object, as `serde_json` writes it, on a line
abbrev pub events_text : Naming → List ThreadEvent → List ℕ
events_text names events = compact_text (events_object names events) ++ codes "\n"

-- the events of a trace, in the order of the file
abbrev pub trace_events_text : Naming → Trace → List ℕ
trace_events_text names trace = events_text names (thread_events trace.blocks)

-- the same for the trace that was read, if there is one
abbrev pub events_read : Naming → Result Trace TraceFault → List ℕ
events_read names (Ok trace) = trace_events_text names trace
events_read names (Err fault) = []

-- the trace that bytes read as
abbrev pub events_of_bytes : Naming → List ℕ → List ℕ
events_of_bytes names bytes = events_read names (trace_of bytes)
