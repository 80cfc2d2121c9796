-- A buffer, as contracts see it.
use Rattle.std.specs.Prelude.{ℕ, Bool, false, List, [], if◌then◌else◌, length, nat_lt}
use Rattle.xray_io.specs.declared.wall.Wall.{Wall}
use Rattle.fdr_record.specs.declared.event.Event.{Event}
use Rattle.fdr_buffer.specs.Segments.{body}

-- Its size in bytes; whether it was begun; for which thread, as which of its segments, when, and in which process; and
-- the events that it holds, in order.
pub record Filled : Type 0 where
  pub size : ℕ
  pub begun : Bool
  pub thread : ℕ
  pub serial : ℕ
  pub wall : Wall
  pub pid : ℕ
  pub events : List Event

-- a buffer that holds no segment
abbrev pub empty_buffer : ℕ → Filled
empty_buffer size = record { size = size; begun = false; thread = 0; serial = 0; wall = record { secs = 0; micros = 0 }; pid = 0; events = [] }

-- the bytes of a buffer that are used
abbrev pub used_bytes : Filled → List ℕ
used_bytes buffer = if buffer.begun then body buffer.thread buffer.wall buffer.pid buffer.events else []

-- whether a buffer holds an event
abbrev pub has_event : Filled → Bool
has_event buffer = nat_lt 0 (length buffer.events)
