-- What the fields of a buffer say, and what is true of them.
use Rattle.std.specs.Prelude.{◌≡◌, ◌≤◌, List, [], length, take, drop, nat_lt, All}
use Rattle.fdr_record.specs.declared.event.Event.{Event}
use Rattle.fdr_buffer.specs.declared.buffer.TheConstants.{LEAST_SIZE, LARGEST_SIZE}
use Rattle.fdr_buffer.specs.declared.buffer.Buffer.TheInside.{Inside}
use Rattle.fdr_buffer.specs.Segments.{preamble_length, EventFits}
use Rattle.fdr_buffer.specs.Filled.{Filled, used_bytes}
use Rattle.fdr_buffer.specs.private.Last.{last_of}
use Rattle.fdr_buffer.specs.Fits.{PreambleFits}
use Rattle.fdr_buffer.specs.private.Telling.{events_in}

-- the buffer with these events
abbrev pub filled_with : Inside → List Event → Filled
filled_with a events = record { size = length a.bytes.items; begun = nat_lt 0 a.used; thread = a.thread; serial = a.serial; wall = a.wall; pid = a.pid; events = events }

-- the events that its bytes say, after the preamble
abbrev pub events_told : Inside → List Event
events_told a = events_in (drop preamble_length (take a.used a.bytes.items))

-- the buffer that the fields say
abbrev pub filled_in : Inside → Filled
filled_in a = filled_with a (events_told a)

-- the fields are those of a buffer with these events
pub record Holds (a : Inside) (events : List Event) : Type 0 where
  pub least : LEAST_SIZE ≤ length a.bytes.items
  pub most : length a.bytes.items ≤ LARGEST_SIZE
  pub within : a.used ≤ length a.bytes.items
  pub preamble : PreambleFits (filled_with a events)
  pub bytes : take a.used a.bytes.items ≡ used_bytes (filled_with a events)
  pub unbegun : a.used ≡ 0 → events ≡ []
  pub last : a.last ≡ last_of events
  pub count : a.count ≡ length events
  pub fit : All EventFits events

abbrev pub IsFilled : Inside → Type 0
IsFilled a = Holds a (events_told a)
