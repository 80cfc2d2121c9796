-- The buffers of a flush, and their order.
use Rattle.std.specs.Prelude.{◌≡◌, ◌<◌, ◌⊎◌}
use Rattle.fdr_buffer.specs.Filled.{Filled}

-- the first buffer comes before the second: it is of an earlier thread, or has an earlier segment of the same thread
abbrev pub IsBefore : Filled → Filled → Type 0
IsBefore first second = (first.thread < second.thread) ⊎ ((first.thread ≡ second.thread) × (first.serial < second.serial))
