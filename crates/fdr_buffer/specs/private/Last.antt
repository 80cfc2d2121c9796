-- The last event of a buffer.
use Rattle.std.specs.Prelude.{List, [], ◌∷◌, Option, Some, None}
use Rattle.fdr_record.specs.declared.event.Event.{Event}

-- the last event of a list, or an earlier event if the list is empty
abbrev pub last_after : Option Event → List Event → Option Event
last_after before [] = before
last_after before (event ∷ events) = last_after (Some event) events

-- the last event, if there is one
abbrev pub last_of : List Event → Option Event
last_of events = last_after None events
