-- The events that a thread records.
use Rattle.std.specs.Prelude.{ℕ, List, [], ◌∷◌, Option, Some, None}
use Rattle.std.specs.List.{filter_map, zip}
use Rattle.fdr_record.specs.declared.event.Event.{Event}
use Rattle.fdr_record.specs.declared.event.Kind.{Kind}
use Rattle.fdr_record.specs.declared.event.Kind.TheVariants as events
use Rattle.xray_image.specs.declared.sled.SledKind.{SledKind}
use Rattle.xray_image.specs.declared.sled.SledKind.TheVariants as sleds
use Rattle.handler_word.specs.declared.mark.Mark.{Mark}
use Rattle.handler_word.specs.declared.mark.Mark.TheVariants as marks
use Rattle.machine_step.specs.PlainStep.{Passing}

-- the kind of an event at a sled, without an argument
abbrev pub event_kind : SledKind → Kind
event_kind sleds.Entry = events.Entry
event_kind sleds.Exit = events.Exit
event_kind sleds.Tail = events.TailExit
event_kind sleds.Args = events.Entry

-- the event of a passing of this kind, with this argument
abbrev pub stamped : Passing → Kind → ℕ → Event
stamped p kind arg = record { cpu = p.cpu; func = p.id; kind = kind; tsc = p.counter; arg = arg }

-- the event of a passing with this mark, if the mark records one: with its argument, or without
abbrev pub event_of : Passing → Mark → Option Event
event_of p marks.Skipped = None
event_of p marks.NoHandler = None
event_of p marks.NotLogging = None
event_of p marks.Recorded = Some (stamped p (event_kind p.kind) 0)
event_of p marks.RecordedArg = Some (stamped p events.EntryArgs p.argument)

-- the events of passings with these marks: those of the passings that were recorded, in order
abbrev pub recorded : List Passing → List Mark → List Event
recorded passed marks = filter_map (λ p. event_of p.0 p.1) (zip passed marks)

-- the events of one load: one or none
abbrev pub events_in : Option Event → List Event
events_in None = []
events_in (Some event) = event ∷ []
