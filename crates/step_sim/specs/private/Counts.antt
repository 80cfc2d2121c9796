-- What a pool counts of its buffers and of those that it has lost.
use Rattle.std.specs.Prelude.{◌<◌, ◌≤◌, ◌+◌, ◌-◌, ◌&&◌, ◌==◌, Bool, ℕ, List, length, slice_index, slice_set, if◌then◌else◌}
use Rattle.fdr_buffer.specs.Filled.{Filled}

-- the counts of lost segments after a buffer was taken away: that of its thread is one more, if the buffer held a
-- segment
abbrev pub lost_after : Filled → List ℕ → List ℕ
lost_after buffer first =
    if buffer.begun then slice_set first (buffer.thread - 1) (slice_index first (buffer.thread - 1) + 1) else first

-- whether a buffer holds a segment of this thread
abbrev pub is_of : ℕ → Filled → Bool
is_of thread buffer = buffer.begun && (buffer.thread == thread)

-- how many segments a thread has that has put this many buffers into the queue and holds this one
abbrev pub segments_held : Filled → ℕ → ℕ
segments_held hand put = if hand.begun then put + 1 else 0

-- a thread has lost fewer segments than it has put into the queue
pub record CanLose (first sealed : List ℕ) (thread : ℕ) : Type 0 where
  pub some : 0 < thread
  pub first_there : thread ≤ length first
  pub sealed_there : thread ≤ length sealed
  pub fewer : slice_index first (thread - 1) < slice_index sealed (thread - 1)
