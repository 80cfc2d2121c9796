-- A cursor, from one record to the next.
use Rattle.std.specs.Prelude.{ℕ, ◌+◌, List, Option, Some, None}
use Rattle.fdr_record.specs.declared.event.Event.{Event}
use Rattle.fdr_file.specs.declared.cursor.EventCursor.{EventCursor}
use Rattle.fdr_file.specs.declared.stage.Told.{Told}
use Rattle.fdr_file.specs.declared.stage.Told.TheVariants.{Nothing, Begun, Noted}
use Rattle.fdr_file.specs.Scanning.{stage_judged}
use Rattle.fdr_file.specs.Traces.{record_in, record_length}

-- the first event that is said
abbrev pub event_said : Told → Option Event
event_said Nothing = None
event_said (Begun thread wall pid) = None
event_said (Noted None event) = event
event_said (Noted (Some entry) event) = Some entry

-- the thread and process after this, and the event that comes after the first
abbrev pub cursor_told : EventCursor → Told → EventCursor
cursor_told cursor Nothing = cursor
cursor_told cursor (Begun thread wall pid) = record cursor { thread = thread; pid = pid }
cursor_told cursor (Noted None event) = cursor
cursor_told cursor (Noted (Some entry) event) = record cursor { pending = event }

-- after the record that bytes begin with, and what it says
abbrev pub cursor_passed : EventCursor → List ℕ → EventCursor × Told
cursor_passed cursor bytes =
    let said = stage_judged cursor.version cursor.stage cursor.at (record_length bytes) (record_in bytes) in
    (cursor_told (record cursor { at = cursor.at + record_length bytes; stage = said.0 }) said.1, said.1)
