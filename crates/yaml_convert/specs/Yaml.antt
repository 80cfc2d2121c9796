-- The YAML text of a trace.
use Rattle.std.specs.Prelude.{◌++◌, ℕ, List, [], ◌∷◌, codes, decimal, Result, Ok, Err}
use Rattle.std.specs.List.{flat_map}
use Rattle.fdr_record.specs.declared.event.Event.{Event}
use Rattle.fdr_record.specs.declared.event.Kind.{Kind}
use Rattle.fdr_record.specs.declared.event.Kind.TheVariants.{Entry, Exit, TailExit, EntryArgs}
use Rattle.fdr_file.specs.declared.fault.TraceFault.{TraceFault}
use Rattle.fdr_file.specs.declared.header.Header.{Header}
use Rattle.fdr_file.specs.declared.trace.Trace.{Trace}
use Rattle.fdr_file.specs.ThreadEvents.{ThreadEvent, thread_events}
use Rattle.fdr_file.specs.Traces.{trace_of}
use Rattle.xray_image.specs.Extract.{truth_text}
use Rattle.map_names.specs.Naming.{Naming}
use Rattle.function_names.specs.Name.{name_text}
use Rattle.function_names.specs.declared.form.NameForm.TheVariants.{Quoted}

-- the header, whose type is that of the Flight Data Recorder mode
abbrev pub header_text : Header → List ℕ
header_text header =
    codes "---\nheader:\n  version: " ++ decimal header.version ++ codes "\n  type: 1\n  constant-tsc: " ++ truth_text header.constant
    ++ codes "\n  nonstop-tsc: " ++ truth_text header.nonstop ++ codes "\n  cycle-frequency: " ++ decimal header.frequency ++ codes "\n"

-- the names that llvm-xray's convert has for the kinds
abbrev pub event_kind_text : Kind → List ℕ
event_kind_text Entry = codes "function-enter"
event_kind_text Exit = codes "function-exit"
event_kind_text TailExit = codes "function-tail-exit"
event_kind_text EntryArgs = codes "function-enter-arg"

-- the argument of an event of this kind, if it logs one
abbrev pub arg_text : Kind → ℕ → List ℕ
arg_text Entry arg = []
arg_text Exit arg = []
arg_text TailExit arg = []
arg_text EntryArgs arg = codes ", args: [ " ++ decimal arg ++ codes " ]"

-- the line of an event, before the name of its function and after it
abbrev pub event_start : Event → List ℕ
event_start event = codes "  - { type: 0, func-id: " ++ decimal event.func ++ codes ", function: '"

abbrev pub event_stamp : ThreadEvent → List ℕ
event_stamp e =
    codes "', cpu: " ++ decimal e.event.cpu ++ codes ", thread: " ++ decimal e.thread ++ codes ", process: " ++ decimal e.pid
    ++ codes ", kind: " ++ event_kind_text e.event.kind

abbrev pub event_counter : Event → List ℕ
event_counter event = codes ", tsc: " ++ decimal event.tsc ++ codes " }\n"

abbrev pub event_end : ThreadEvent → List ℕ
event_end e = event_stamp e ++ arg_text e.event.kind e.event.arg ++ event_counter e.event

abbrev pub event_line : Naming → ThreadEvent → List ℕ
event_line names e = event_start e.event ++ name_text Quoted names e.event.func ++ event_end e

-- the text that the records begin with; an empty list is on the same line
abbrev pub records_start : List ThreadEvent → List ℕ
records_start [] = codes "records: []\n"
records_start (e ∷ later) = codes "records:\n"

-- the records: a line for each event
abbrev pub records_text : Naming → List ThreadEvent → List ℕ
records_text names events = records_start events ++ flat_map (event_line names) events

-- the header and a line for each event, block by block, between the marks of a YAML document
abbrev pub yaml_text : Naming → Trace → List ℕ
yaml_text names trace = header_text trace.header ++ records_text names (thread_events trace.blocks) ++ codes "...\n"

-- the same for the trace that was read, if there is one
abbrev pub yaml_read : Naming → Result Trace TraceFault → List ℕ
yaml_read names (Ok trace) = yaml_text names trace
yaml_read names (Err fault) = []

-- the trace that bytes read as
abbrev pub yaml_of_bytes : Naming → List ℕ → List ℕ
yaml_of_bytes names bytes = yaml_read names (trace_of bytes)
