-- How a recorder begins a segment.
use Rattle.std.specs.Prelude.{◌≡◌, ◌<◌, ◌-◌, ◌^◌, List, [], ◌∷◌, ◌++◌, Option, Some, None, length, if◌then◌else◌}
use Rattle.fdr_record.specs.declared.event.Event.{Event}
use Rattle.fdr_buffer.specs.Filled.{Filled, empty_buffer}
use Rattle.buffer_queue.specs.Passes.{PassIs, sealing}
use Rattle.thread_run.specs.declared.exchange.Preamble.{Preamble}
use Rattle.thread_run.specs.Recordings.{Recording, segments_in, StandsFor, HasSameOwner}

-- the buffer in hand, if there is one
abbrev pub in_hand : Option Filled → Filled
in_hand None = empty_buffer 0
in_hand (Some hand) = hand

-- one more event begins a segment
abbrev pub CutsAnew : Recording → List Event → Event → Type 0
CutsAnew r events event = segments_in r (events ++ event ∷ []) ≡ segments_in r events ++ (event ∷ []) ∷ []

-- it stands for one more event, and is of the same thread
pub record StandsForMore (old new : Recording) (event : Event) : Type 0 where
  pub same : HasSameOwner old new
  pub stands : (events : List Event) → StandsFor old events → StandsFor new (events ++ event ∷ [])

-- this is how the segments of a pass's thread begin
pub record IsPreambleOf (pass : PassIs) (preamble : Preamble) : Type 0 where
  pub thread : preamble.thread ≡ pass.thread
  pub wall : preamble.wall ≡ pass.setup.wall
  pub pid : preamble.pid ≡ pass.setup.pid

-- the buffer is the next one that the pass's thread may seal
pub record IsNextOf (pass : PassIs) (hand : Filled) : Type 0 where
  pub thread : hand.thread ≡ pass.thread
  pub serial : hand.serial ≡ length pass.sealed
  pub few : hand.serial < 2 ^ 32 - 1

-- the buffer is sealed, if it holds a segment
abbrev pub sealed_with : PassIs → Filled → PassIs
sealed_with pass hand = if hand.begun then sealing pass hand else pass
