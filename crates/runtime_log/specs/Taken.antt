-- Which blocks of a log are taken, and in which order.
use Rattle.std.specs.Prelude.{ℕ, ◌==◌, ◌&&◌, not, Bool, List, [], ◌∷◌, nat_lt, filter, length, if◌then◌else◌, IsPermutation}
use Rattle.std.specs.List.{list_any}
use Rattle.std.specs.List.Sorted.{IsSortedBy}
use Rattle.std.specs.Cmp.Lexicographic.{slice_cmp}
use Rattle.std.specs.Ordering.{is_lt, nat_cmp}
use Rattle.std.specs.Str.{bytes_eq}
use Rattle.fdr_record.specs.declared.event.Event.{Event}
use Rattle.runtime_log.specs.Logs.{LogBlock}

-- ---- which

-- these bytes are among others
abbrev pub is_among_contents : List (List ℕ) → List ℕ → Bool
is_among_contents contents content = list_any (bytes_eq content) contents

-- a block is doubled if its bytes are among those of the blocks before it; a block of no bytes is never doubled
abbrev pub is_doubled : (before : List (List ℕ)) → (content : List ℕ) → Bool
is_doubled before content = not (length content == 0) && is_among_contents before content

-- the blocks whose bytes aren't those of a block before them, and not these either
abbrev pub first_ones : (before : List (List ℕ)) → List LogBlock → List LogBlock
first_ones before [] = []
first_ones before (b ∷ blocks) =
    let others = first_ones (b.content ∷ before) blocks in if is_doubled before b.content then others else b ∷ others

-- a log that is flushed while threads run may have one block twice; only the first of them is looked at
abbrev pub undoubled : List LogBlock → List LogBlock
undoubled blocks = first_ones [] blocks

abbrev pub has_events : LogBlock → Bool
has_events b = nat_lt 0 (length b.block.events)

-- those that are taken have events
abbrev pub chosen : List LogBlock → List LogBlock
chosen blocks = filter has_events (undoubled blocks)

-- ---- in which order

-- the counter of the first event
abbrev pub first_counter : List Event → ℕ
first_counter [] = 0
first_counter (event ∷ events) = event.tsc

-- By the thread, then the wall time, the first counter, and the place. The runtime writes its buffers in the order of its
-- pool. Pairs of entries and exits are found only if the events of a thread are in the order of time.
abbrev pub order_key : LogBlock → List ℕ
order_key b =
    b.block.thread ∷ b.block.wall.secs ∷ b.block.wall.micros ∷ first_counter b.block.events ∷ b.place ∷ []

abbrev pub comes_before : LogBlock → LogBlock → Bool
comes_before b other = is_lt (slice_cmp nat_cmp (order_key b) (order_key other))

-- These are the blocks that are taken of a log, in their order. No two blocks of a log have the same place, so there is
-- only one such order.
pub record AreTaken (blocks taken : List LogBlock) : Type 0 where
  pub all : IsPermutation (chosen blocks) taken
  pub sorted : IsSortedBy comes_before taken
