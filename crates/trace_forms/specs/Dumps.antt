-- The dump of a trace: a line for each record of the longest prefix that can be read, and what is behind it.
use Rattle.std.specs.Prelude.{ℕ, List, [], ◌++◌, codes, decimal, drop, take, Option, Some, None, Result, Ok, Err}
use Rattle.std.specs.List.{flat_map}
use Rattle.std.specs.Option.{unwrap_or}
use Rattle.fdr_record.specs.declared.event.Kind.{Kind}
use Rattle.fdr_record.specs.declared.event.Kind.TheVariants.{Entry, Exit, TailExit, EntryArgs}
use Rattle.fdr_record.specs.declared.rec.Rec.{Rec}
use Rattle.fdr_record.specs.declared.rec.Rec.TheVariants.{NewBuffer, NewCpu, TscWrap, WallTime, Pid, CallArg, Extents, Function}
use Rattle.fdr_file.specs.declared.fault.TraceFault.{TraceFault}
use Rattle.fdr_file.specs.declared.trace.Trace.{Trace}
use Rattle.fdr_file.specs.Traces.{Standing, standings, trace_of, version_in}
use Rattle.trace_words.specs.TraceWords.{trace_words}

-- the word for the kind of a function record
abbrev pub kind_word : Kind → List ℕ
kind_word Entry = codes "enter"
kind_word Exit = codes "exit"
kind_word TailExit = codes "tail-exit"
kind_word EntryArgs = codes "enter-arg"

-- a record: its name and its fields
abbrev pub record_text : Rec → List ℕ
record_text (Extents size) = codes "extents " ++ decimal size
record_text (NewBuffer thread) = codes "new-buffer " ++ decimal thread
record_text (WallTime wall) = codes "wall-time " ++ decimal wall.secs ++ codes "." ++ decimal wall.micros
record_text (Pid pid) = codes "pid " ++ decimal pid
record_text (NewCpu cpu tsc) = codes "new-cpu " ++ decimal cpu ++ codes " " ++ decimal tsc
record_text (TscWrap tsc) = codes "tsc-wrap " ++ decimal tsc
record_text (CallArg value) = codes "call-argument " ++ decimal value
record_text (Function kind func delta) = codes "function " ++ kind_word kind ++ codes " " ++ decimal func ++ codes " delta " ++ decimal delta

-- the line of a record, with its place before it
abbrev pub record_line : ℕ → Rec → List ℕ
record_line at r = decimal at ++ codes " " ++ record_text r ++ codes "\n"

-- the line of what is at a place, if it is a record
abbrev pub standing_line : Standing → List ℕ
standing_line (at, Ok r) = record_line at r
standing_line (at, Err fault) = []

-- the line of the header
abbrev pub header_line : List ℕ → List ℕ
header_line bytes = codes "0 header version " ++ decimal (version_in bytes) ++ codes " type 1\n"

-- the first fault of bytes, if they aren't a trace
abbrev pub fault_of : Result Trace TraceFault → Option TraceFault
fault_of (Ok trace) = None
fault_of (Err fault) = Some fault

abbrev pub fault_in : List ℕ → Option TraceFault
fault_in bytes = fault_of (trace_of bytes)

-- The last line: where the file ends, if it has no fault. Otherwise, where its longest prefix that is a trace ends, and
-- the fault.
abbrev pub last_line : ℕ → Option TraceFault → List ℕ
last_line len None = codes "end " ++ decimal len ++ codes "\n"
last_line len (Some fault) = codes "stop " ++ decimal len ++ codes " " ++ unwrap_or (trace_words fault) [] ++ codes "\n"

-- the lines of the records after the header
abbrev pub record_lines : List ℕ → List ℕ
record_lines bytes = flat_map standing_line (standings 32 (drop 32 bytes))

-- the lines of a prefix, and the last line
abbrev pub lines_of : (prefix : List ℕ) → (len : ℕ) → Option TraceFault → List ℕ
lines_of prefix len fault = header_line prefix ++ record_lines prefix ++ last_line len fault

-- the dump of bytes whose longest prefix that is a trace has this length
abbrev pub dump_text : List ℕ → ℕ → List ℕ
dump_text bytes len = lines_of (take len bytes) len (fault_in bytes)
