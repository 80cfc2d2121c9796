-- The events that the bytes of a segment say, read from first to last.
use Rattle.std.specs.Prelude.{ℕ, zero, suc, ◌+◌, ◌/◌, ◌%◌, List, [], ◌∷◌, drop, Option, Some, None, ◌==◌, if◌then◌else◌}
use Rattle.byteorder.specs.Endian.{little_number}
use Rattle.fdr_record.specs.declared.event.Kind.{Kind}
use Rattle.fdr_record.specs.declared.event.Kind.TheVariants.{Entry, Exit, TailExit, EntryArgs}
use Rattle.fdr_record.specs.declared.event.Event.{Event}
use Rattle.fdr_record.specs.Records.{first_of, new_cpu_id, tsc_wrap}

-- the kind of event that an action's number stands for, if there is one
abbrev pub kind_told : ℕ → Option Kind
kind_told action =
    if action == 0 then Some Entry else if action == 1 then Some Exit else if action == 2 then Some TailExit
    else if action == 3 then Some EntryArgs else None

-- the argument of an event of this kind, in the record that these bytes begin with
abbrev pub arg_told : Kind → List ℕ → ℕ
arg_told Entry bytes = 0
arg_told Exit bytes = 0
arg_told TailExit bytes = 0
arg_told EntryArgs bytes = little_number 8 (drop 1 bytes)

-- how many bytes come after the first byte of a function record, up to the next event's records
abbrev pub bytes_left : Option Kind → ℕ
bytes_left None = 7
bytes_left (Some Entry) = 7
bytes_left (Some Exit) = 7
bytes_left (Some TailExit) = 7
bytes_left (Some EntryArgs) = 23

-- this event, if its kind is known, and those after it; these bytes come after its function record
abbrev pub event_first : ℕ → ℕ → ℕ → Option Kind → List ℕ → List Event → List Event
event_first cpu func tsc (Some kind) bytes events =
    record { cpu = cpu; func = func; kind = kind; tsc = tsc; arg = arg_told kind bytes } ∷ events
event_first cpu func tsc None bytes events = []

-- The events of bytes after a CPU and a counter; some bytes are skipped first. They end at a record of another kind
-- than those of events.
unfoldable pub events_after : ℕ → ℕ → ℕ → List ℕ → List Event
events_after skipped cpu tsc [] = []
events_after (suc skipped) cpu tsc (byte ∷ bytes) = events_after skipped cpu tsc bytes
events_after zero cpu tsc (first ∷ rest) =
    if first % 2 == 0 then
    event_first cpu (little_number 4 (first ∷ rest) / 16) (tsc + little_number 4 (drop 3 rest)) (kind_told (first / 2 % 8)) (drop 7 rest)
    (events_after (bytes_left (kind_told (first / 2 % 8))) cpu (tsc + little_number 4 (drop 3 rest)) rest)
    else if first == first_of new_cpu_id then events_after 15 (little_number 2 rest) (little_number 8 (drop 2 rest)) rest
    else if first == first_of tsc_wrap then events_after 15 cpu (little_number 8 rest) rest
    else []

-- the events of a segment
unfoldable pub events_in : List ℕ → List Event
events_in bytes = events_after 0 0 0 bytes
