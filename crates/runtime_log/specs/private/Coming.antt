-- The events that are still to come of a block.
use Rattle.std.specs.Prelude.{◌<◌, ◌^◌, ◌+◌, ⊤, List, [], ◌++◌, length, map, option_to_list}
use Rattle.fdr_record.specs.declared.event.Event.{Event}
use Rattle.runtime_log.specs.declared.blocks.BlockEvents.{BlockEvents}
use Rattle.runtime_log.specs.declared.blocks.BlockEvents.TheVariants as coming
use Rattle.runtime_log.specs.declared.blocks.RecorderEvents.{RecorderEvents}
use Rattle.runtime_log.specs.private.Passings.{event_at}
use Rattle.runtime_log.specs.private.Walks.{walk_events}

abbrev pub recorder_events : RecorderEvents → List Event
recorder_events events = option_to_list events.pending ++ walk_events events.walk

abbrev pub events_to_come : BlockEvents → List Event
events_to_come (coming.Recorder events) = recorder_events events
events_to_come (coming.Basic events) = map (λ p. event_at events.version events.bytes.now p.at) events.passings.now
events_to_come coming.Done = []

-- they may be taken
abbrev pub MayGive : BlockEvents → Type 0
MayGive (coming.Recorder events) = events.walk.at + length events.walk.rest.now < 2 ^ 32
MayGive (coming.Basic events) = ⊤
MayGive coming.Done = ⊤
