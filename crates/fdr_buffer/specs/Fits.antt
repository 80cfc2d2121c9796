-- What fits a buffer, and the records that it is read from later.
use Rattle.std.specs.Prelude.{◌<◌, ◌≤◌, ◌^◌, length, All}
use Rattle.fdr_buffer.specs.declared.buffer.TheConstants.{LARGEST_SIZE}
use Rattle.fdr_buffer.specs.Segments.{EventFits}
use Rattle.fdr_buffer.specs.Filled.{Filled, used_bytes}

-- the thread, the wall time and the process fit the records of its preamble
pub record PreambleFits (buffer : Filled) : Type 0 where
  pub thread : buffer.thread < 2 ^ 32
  pub secs : buffer.wall.secs < 2 ^ 64
  pub micros : buffer.wall.micros < 2 ^ 32
  pub pid : buffer.pid < 2 ^ 32

-- so do its events fit theirs; its bytes fit its size, which is in its range
pub record BufferFits (buffer : Filled) : Type 0 where
  pub preamble : PreambleFits buffer
  pub events : All EventFits buffer.events
  pub within : length (used_bytes buffer) ≤ buffer.size
  pub most : buffer.size ≤ LARGEST_SIZE
