-- The histories of blocks, to which the threads add events block by block. A history is listed from the last event to
-- the first.
use Rattle.std.specs.Prelude.{◌==◌, ℕ, List, [], ◌∷◌, ◌++◌, length, reverse, map, filter, if◌then◌else◌, Option}
use Rattle.std.specs.Option.{option_to_list}
use Rattle.fdr_record.specs.declared.event.Event.{Event}
use Rattle.fdr_file.specs.declared.trace.Block.{Block}
use Rattle.fdr_file.specs.ThreadEvents.{ThreadEvent, thread_events}
use Rattle.stack_rebuild.specs.declared.call.Pair.{Pair}
use Rattle.stack_rebuild.specs.Calls.{open_calls, pair_at}

-- the events of a thread: those of its blocks, in the order of the file
abbrev pub events_of_thread : ℕ → List Block → List Event
events_of_thread thread [] = []
events_of_thread thread (block ∷ later) = if block.thread == thread then block.events ++ events_of_thread thread later else events_of_thread thread later

-- an event of a thread of a process
abbrev pub thread_event : (thread pid : ℕ) → Event → ThreadEvent
thread_event thread pid event = record { thread = thread; pid = pid; event = event }

-- the history of blocks
abbrev pub history_of : List Block → List ThreadEvent
history_of blocks = reverse (thread_events blocks)

-- the part of a history that belongs to one thread
abbrev pub history_of_thread : ℕ → List ThreadEvent → List Event
history_of_thread thread [] = []
history_of_thread thread (e ∷ before) = if e.thread == thread then e.event ∷ history_of_thread thread before else history_of_thread thread before

-- the pair that an event makes with an entry of its own thread, after a history
abbrev pub pair_after : ThreadEvent → List ThreadEvent → Option Pair
pair_after e before = let own = history_of_thread e.thread before in pair_at e.event (length own) (open_calls own)

-- a pair, and the thread whose events make it
pub record ThreadPair : Type 0 where
  pub thread : ℕ
  pub pair : Pair

abbrev pub thread_pair : ℕ → Pair → ThreadPair
thread_pair thread pair = record { thread = thread; pair = pair }

-- the pairs that a history makes, each within its thread, in the order of their exits
abbrev pub pairs_after : List ThreadEvent → List ThreadPair
pairs_after [] = []
pairs_after (e ∷ before) = pairs_after before ++ map (thread_pair e.thread) (option_to_list (pair_after e before))

-- the pairs that blocks make: both reports are made of these
abbrev pub pairs_of_blocks : List Block → List ThreadPair
pairs_of_blocks blocks = pairs_after (history_of blocks)

-- the pairs of one thread
abbrev pub pairs_of_thread : ℕ → List ThreadPair → List Pair
pairs_of_thread thread pairs = map (λ made. made.pair) (filter (λ made. made.thread == thread) pairs)
