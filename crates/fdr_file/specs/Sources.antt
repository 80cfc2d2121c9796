-- The events of a trace that a cursor has still to give.
use Rattle.std.specs.Prelude.{List, ◌++◌, map}
use Rattle.fdr_record.specs.declared.event.Event.{Event}
use Rattle.fdr_file.specs.ThreadEvents.{ThreadEvent, thread_events}
use Rattle.fdr_file.specs.declared.source.TraceCursor.{TraceCursor}

-- those of the block that it is in, and those of the blocks after it
abbrev pub cursor_left : TraceCursor → List ThreadEvent
cursor_left cursor =
    map (λ (event : Event). record { thread = cursor.thread; pid = cursor.pid; event = event }) cursor.events.now
    ++ thread_events cursor.blocks.now
