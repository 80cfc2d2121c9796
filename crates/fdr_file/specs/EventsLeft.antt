-- A cursor: the events of a trace that it has still to give.
use Rattle.std.specs.Prelude.{ℕ, List, [], ◌∷◌, ◌++◌, drop, Option, Some, None}
use Rattle.fdr_record.specs.declared.event.Event.{Event}
use Rattle.fdr_file.specs.declared.cursor.EventCursor.{EventCursor}
use Rattle.fdr_file.specs.declared.header.Header.{Header}
use Rattle.fdr_file.specs.declared.stage.Stage.{Stage}
use Rattle.fdr_file.specs.declared.stage.Told.{Told}
use Rattle.fdr_file.specs.declared.stage.Told.TheVariants.{Nothing, Begun, Noted}
use Rattle.fdr_file.specs.declared.version.Version.{Version}
use Rattle.fdr_file.specs.Places.{starts}
use Rattle.fdr_file.specs.Scanning.{stage_judged}
use Rattle.fdr_file.specs.ThreadEvents.{ThreadEvent}
use Rattle.fdr_file.specs.Traces.{record_in, record_length}

-- what the records at these places say of the blocks, in order
abbrev pub told_over : Version → Stage → List (ℕ × List ℕ) → List Told
told_over version stage [] = []
told_over version stage ((at, bytes) ∷ later) =
    let said = stage_judged version stage at (record_length bytes) (record_in bytes) in said.1 ∷ told_over version said.0 later

-- an event of this thread and process, if there is one
abbrev pub event_of : ℕ → ℕ → Option Event → List ThreadEvent
event_of thread pid None = []
event_of thread pid (Some event) = record { thread = thread; pid = pid; event = event } ∷ []

-- The events among this, each with the thread and the process of its block. Those before the next block belong to this
-- thread and process.
abbrev pub events_among : ℕ → ℕ → List Told → List ThreadEvent
events_among thread pid [] = []
events_among thread pid (Nothing ∷ told) = events_among thread pid told
events_among thread pid (Begun other wall process ∷ told) = events_among other process told
events_among thread pid (Noted entry event ∷ told) =
    event_of thread pid entry ++ (event_of thread pid event ++ events_among thread pid told)

-- The events that are still to come: the one that waits, and those of the records from the cursor's place to the end of
-- the bytes.
abbrev pub events_left : EventCursor → List ThreadEvent
events_left cursor =
    event_of cursor.thread cursor.pid cursor.pending
    ++ events_among cursor.thread cursor.pid (told_over cursor.version cursor.stage (starts record_length 0 cursor.at (drop cursor.at cursor.bytes.now)))

-- the header of the cursor's trace
abbrev pub cursor_header : EventCursor → Header
cursor_header cursor = cursor.header
