-- The events of a trace, each with the thread and the process that it belongs to.
use Rattle.std.specs.Prelude.{ℕ, List, map}
use Rattle.std.specs.List.{flat_map}
use Rattle.fdr_record.specs.declared.event.Event.{Event}
use Rattle.fdr_file.specs.declared.trace.Block.{Block}

-- an event, the thread that recorded it, and the process of that thread
pub record ThreadEvent : Type 0 where
  pub thread : ℕ
  pub pid : ℕ
  pub event : Event

-- the events of a block, in order
abbrev pub block_events : Block → List ThreadEvent
block_events block = map (λ event. record { thread = block.thread; pid = block.pid; event = event }) block.events

-- the events of blocks, in the order of the file
abbrev pub thread_events : List Block → List ThreadEvent
thread_events blocks = flat_map block_events blocks

-- an event that is given with its thread and its process
abbrev pub event_given : ℕ × ℕ × Event → ThreadEvent
event_given x = record { thread = x.0; pid = x.1; event = x.2 }
