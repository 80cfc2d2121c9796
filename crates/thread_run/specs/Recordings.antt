-- What a recorder over a pool keeps of a thread's events.
use Rattle.std.specs.Prelude.{◌≡◌, ◌+◌, ℕ, List, [], ◌∷◌, ◌++◌, length, refl, if◌then◌else◌}
use mathlib.Core.Path.{◌∙◌}
use Rattle.fdr_record.specs.declared.event.Event.{Event}
use Rattle.fdr_buffer.specs.Filled.{Filled, empty_buffer}
use Rattle.fdr_buffer.specs.Segments.{segments}
use Rattle.buffer_queue.specs.Passes.{PassIs}
use Rattle.traced_run.specs.Kept.{buffer_of, buffers_after, stamp_of}

-- what a thread has of a pool: its pass, with the buffers that it has sealed, and the buffer in its hand
pub record Recording : Type 0 where
  pub pass : PassIs
  pub hand : Filled

-- the segments of events in the buffers of its pool
abbrev pub segments_in : Recording → List Event → List (List Event)
segments_in r events = segments r.pass.setup.size events

-- how many segments it has begun: those that it has sealed, and the one in hand
abbrev pub segments_begun : Recording → ℕ
segments_begun r = length r.pass.sealed + (if r.hand.begun then 1 else 0)

-- It holds what it keeps of these events. If they are cut into no segment, it has sealed no buffer, and its hand isn't
-- begun. Otherwise it has sealed the buffers of all segments except the last, in order, and holds the last one in its
-- hand.
pub data StandsFor (r : Recording) (events : List Event) : Type 0 where
  unbegun : segments_in r events ≡ [] → r.pass.sealed ≡ [] → r.hand ≡ empty_buffer r.pass.setup.size → StandsFor r events
  begun : (whole : List (List Event)) → (last : List Event) → segments_in r events ≡ whole ++ last ∷ []
      → r.pass.sealed ≡ buffers_after (stamp_of r.pass.setup) 0 r.pass.thread whole
      → r.hand ≡ buffer_of (stamp_of r.pass.setup) r.pass.thread (length whole, last) → StandsFor r events

-- it is of the same thread and the same pool
pub record HasSameOwner (old new : Recording) : Type 0 where
  pub pool : new.pass.pool ≡ old.pass.pool
  pub setup : new.pass.setup ≡ old.pass.setup
  pub thread : new.pass.thread ≡ old.pass.thread

pub same_itself : (r : Recording) → HasSameOwner r r
same_itself r = record { pool = refl; setup = refl; thread = refl }

pub same_along : (first second third : Recording) → HasSameOwner first second → HasSameOwner second third → HasSameOwner first third
same_along first second third p q = record { pool = q.pool ∙ p.pool; setup = q.setup ∙ p.setup; thread = q.thread ∙ p.thread }
