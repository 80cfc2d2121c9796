-- The text of trace events, put together of its parts.
use Rattle.std.specs.Prelude.{ℕ, Bool, List, [], ◌∷◌, ◌++◌, ◌==◌, ◌&&◌, not, nat_le, codes, decimal, Option, Some, None}
use Rattle.std.specs.List.{flat_map}
use Rattle.json.specs.Print.{escape}
use Rattle.fdr_record.specs.declared.event.Event.{Event}
use Rattle.fdr_record.specs.declared.event.Kind.{Kind}
use Rattle.fdr_record.specs.declared.event.Kind.TheVariants.{Entry, Exit, TailExit, EntryArgs}
use Rattle.fdr_file.specs.ThreadEvents.{ThreadEvent}
use Rattle.map_names.specs.Naming.{Naming}
use Rattle.function_names.specs.Name.{plain_name}
use Rattle.trace_forms.specs.TraceEvents.{phase_text}

-- the argument of an event of this kind, if it logs one
abbrev pub arg_shown : Kind → ℕ → Option ℕ
arg_shown Entry arg = None
arg_shown Exit arg = None
arg_shown TailExit arg = None
arg_shown EntryArgs arg = Some arg

-- an event up to its CPU
abbrev pub arg_start : Option ℕ → List ℕ
arg_start None = codes "{\"cpu\":"
arg_start (Some arg) = codes "{\"args\":{\"arg\":" ++ (decimal arg ++ codes "},\"cpu\":")

-- an event up to its name
abbrev pub event_start : Event → List ℕ
event_start event = arg_start (arg_shown event.kind event.arg) ++ (decimal event.cpu ++ codes ",\"name\":\"")

-- all that comes after its name
abbrev pub event_end : ThreadEvent → List ℕ
event_end e =
    codes "\",\"ph\":\"" ++ (phase_text e.event.kind ++ (codes "\",\"pid\":" ++ (decimal e.pid ++ (codes ",\"tid\":" ++ (decimal e.thread
    ++ (codes ",\"ts\":" ++ (decimal e.event.tsc ++ codes "}")))))))

-- an event
abbrev pub event_json : Naming → ThreadEvent → List ℕ
event_json names e = event_start e.event ++ (escape (plain_name names e.event.func) ++ event_end e)

-- an event after the first, with a comma before it
abbrev pub next_json : Naming → ThreadEvent → List ℕ
next_json names e = codes "," ++ event_json names e

-- events after the first
abbrev pub later_json : Naming → List ThreadEvent → List ℕ
later_json names events = flat_map (next_json names) events

-- events, with commas between them
abbrev pub list_json : Naming → List ThreadEvent → List ℕ
list_json names [] = []
list_json names (e ∷ events) = event_json names e ++ later_json names events

-- a byte may stand in a string as it is
abbrev pub is_plain_byte : ℕ → Bool
is_plain_byte b = nat_le 32 b && not (b == 34) && not (b == 92)
