-- The records of events, and the cut of events into segments.
use Rattle.std.specs.Prelude.{◌≡◌, ◌<◌, ◌^◌, ◌+◌, ◌-◌, ◌||◌, ℕ, Bool, List, [], ◌∷◌, ◌++◌, Option, Some, None, length, nat_lt, nat_le, ◌==◌, All, if◌then◌else◌}
use Rattle.std.specs.List.{flat_map}
use Rattle.xray_io.specs.declared.wall.Wall.{Wall}
use Rattle.fdr_record.specs.declared.event.Event.{Event}
use Rattle.fdr_record.specs.declared.event.Kind.{Kind}
use Rattle.fdr_record.specs.declared.event.Kind.TheVariants.{Entry, Exit, TailExit, EntryArgs}
use Rattle.fdr_record.specs.declared.rec.Rec.{Rec}
use Rattle.fdr_record.specs.declared.rec.Rec.TheVariants.{NewBuffer, NewCpu, TscWrap, WallTime, Pid, CallArg, Function}
use Rattle.fdr_record.specs.Records.{record_bytes}
use Rattle.fdr_record.specs.Recordable.{ArgFits}

-- the function record of an event
abbrev pub function_record : Event → ℕ → Rec
function_record event delta = Function event.kind event.func delta

-- the record of the argument that an event of this kind logs
abbrev pub arg_records : Kind → ℕ → List Rec
arg_records Entry arg = []
arg_records Exit arg = []
arg_records TailExit arg = []
arg_records EntryArgs arg = CallArg arg ∷ []

-- the function record of an event, and its argument if it logs one
abbrev pub function_records : Event → ℕ → List Rec
function_records event delta = function_record event delta ∷ arg_records event.kind event.arg

-- no delta of 32 bits leads from the counter before to this one
abbrev pub is_out_of_reach : ℕ → ℕ → Bool
is_out_of_reach before tsc = nat_lt tsc before || nat_lt (before + (2 ^ 32 - 1)) tsc

-- the records of the first event of a segment, or of one on another CPU
abbrev pub records_on_new_cpu : Event → List Rec
records_on_new_cpu event = NewCpu event.cpu event.tsc ∷ function_records event 0

-- the records of an event on the same CPU as the event before, by the counter of that one
abbrev pub records_on_same_cpu : ℕ → Event → List Rec
records_on_same_cpu before event =
    if is_out_of_reach before event.tsc then TscWrap event.tsc ∷ function_records event 0
    else function_records event (event.tsc - before)

-- the records of an event, by the event before it in its segment
abbrev pub records_of : Option Event → Event → List Rec
records_of None event = records_on_new_cpu event
records_of (Some before) event = if before.cpu == event.cpu then records_on_same_cpu before.tsc event else records_on_new_cpu event

-- the records of events, each after the event before
abbrev pub records_after : Option Event → List Event → List Rec
records_after before [] = []
records_after before (event ∷ events) = records_of before event ++ records_after (Some event) events

-- the bytes of records, one after the other
abbrev pub bytes_of : List Rec → List ℕ
bytes_of records = flat_map record_bytes records

-- the bytes of a segment
abbrev pub segment_bytes : List Event → List ℕ
segment_bytes events = bytes_of (records_after None events)

-- the bytes that a buffer begins with
abbrev pub preamble : ℕ → Wall → ℕ → List ℕ
preamble thread wall pid = bytes_of (NewBuffer thread ∷ WallTime wall ∷ Pid pid ∷ [])

-- the bytes of a buffer that holds a segment
abbrev pub body : ℕ → Wall → ℕ → List Event → List ℕ
body thread wall pid events = preamble thread wall pid ++ segment_bytes events

-- the length of a preamble
abbrev pub preamble_length : ℕ
preamble_length = 48

-- the events have room in a buffer of this size, after its preamble
abbrev pub has_room : ℕ → List Event → Bool
has_room size events = nat_le (preamble_length + length (segment_bytes events)) size

-- the segments of an open segment and the events after it
abbrev pub segments_from : ℕ → List Event → List Event → List (List Event)
segments_from size opened [] = opened ∷ []
segments_from size opened (event ∷ events) =
    if has_room size (opened ++ event ∷ []) then segments_from size (opened ++ event ∷ []) events
    else opened ∷ segments_from size (event ∷ []) events

-- The events, cut into segments. An event joins the open segment exactly when there is room for its records too.
abbrev pub segments : ℕ → List Event → List (List Event)
segments size [] = []
segments size (event ∷ events) = segments_from size (event ∷ []) events

-- each field of the event fits its record
pub record EventFits (event : Event) : Type 0 where
  pub cpu : event.cpu < 2 ^ 16
  pub func : event.func < 2 ^ 28
  pub tsc : event.tsc < 2 ^ 64
  pub arg : event.arg < 2 ^ 64
  pub logged : ArgFits event.kind event.arg

-- A segment goes on with more events, by the bytes of their records. There are this many, and this is the last of them.
pub record GoesOn (events : List Event) (records : List ℕ) (count : ℕ) (last : Event) (more : List Event) : Type 0 where
  pub bytes : segment_bytes (events ++ more) ≡ segment_bytes events ++ records
  pub count_is : length more ≡ count
  pub earlier : List Event
  pub parts : more ≡ earlier ++ last ∷ []
  pub fit : All EventFits more
