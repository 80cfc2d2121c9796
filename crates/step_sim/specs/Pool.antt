-- The replay of a schedule with a queue of buffers, over the moments of the replay: what is in the queue, and what was
-- taken away from it.
use Rattle.std.specs.Prelude.{◌+◌, ◌-◌, ◌&&◌, ◌==◌, ℕ, nat_lt, List, [], ◌∷◌, ◌++◌, length, take, drop, replicate, if◌then◌else◌}
use Rattle.step_sim.specs.declared.turns.Turns.{Turns}
use Rattle.step_sim.specs.Plays.{Plays, Rules}
use Rattle.step_sim.specs.Replay.{Cast, Moment, first_moment, patcher_turn, thread_turn, wanted_by}

-- what a queued buffer holds: nothing yet, or a segment of a thread, by the segment's number from 0
pub data QueueItem : Type 0 where
  Fresh : QueueItem
  Segment : (thread : ℕ) → (serial : ℕ) → QueueItem

-- what a replay knows of its buffers: how many segments the events of a thread have at a moment, and how many buffers
-- are in the queue at first
pub record Pooling : Type 0 where
  pub segment_count : ℕ → Moment → ℕ
  pub spare : ℕ

-- the buffers that no thread holds, by what they hold: those in the queue, and all that were taken away from it, each
-- in order
pub record Stock : Type 0 where
  pub queue : List QueueItem
  pub taken : List QueueItem

-- an item goes to the end of the queue, and the first one is taken away; that is the same item if the queue was empty
abbrev pub queued : QueueItem → Stock → Stock
queued item stock = record { queue = drop 1 (stock.queue ++ item ∷ []); taken = stock.taken ++ take 1 (stock.queue ++ item ∷ []) }

-- The stock after a turn of a thread. If the events of the thread have one more segment than before, and had at least
-- one, the segment that was open goes to the queue.
abbrev pub stock_after : ℕ → ℕ → ℕ → Stock → Stock
stock_after thread before after stock =
    if nat_lt 0 before && (after == before + 1) then queued (Segment thread (before - 1)) stock else stock

-- where a replay with buffers is
pub record Pooled : Type 0 where
  pub moment : Moment
  pub stock : Stock

-- at first: the first moment, and only buffers that aren't begun
abbrev pub first_stock : ℕ → Stock
first_stock spare = record { queue = replicate spare Fresh; taken = [] }

abbrev pub first_pooled : Cast → Pooling → Pooled
first_pooled cast pooling = record { moment = first_moment cast; stock = first_stock pooling.spare }

-- a thread's turn is its turn at the moment, together with what it does to the queue
abbrev pub pooled_turn : Cast → Pooling → ℕ → Pooled → Pooled
pooled_turn cast pooling thread pooled = record { moment = after; stock = stock_after thread (segments_at pooled.moment) (segments_at after) pooled.stock }
  where
    after : Moment
    after = thread_turn cast thread pooled.moment

    segments_at : Moment → ℕ
    segments_at moment = pooling.segment_count thread moment

-- the patcher's turn changes only the moment
abbrev pub pooled_step : Cast → Pooled → Pooled
pooled_step cast pooled = record pooled { moment = patcher_turn cast pooled.moment }

-- what a replay plays with its moments and its buffers
abbrev pub pooled_rules : Cast → Pooling → Rules Pooled
pooled_rules cast pooling = record {
  thread = pooled_turn cast pooling;
  patcher = pooled_step cast;
  wanted = λ thread pooled. wanted_by cast thread pooled.moment;
}

-- Where a schedule leaves a replay with buffers. The micro steps that are left change no buffer.
abbrev pub PooledReplay : Cast → Pooling → List Turns → Pooled → Type 0
PooledReplay cast pooling schedule last =
    Plays (pooled_rules cast pooling) (length cast.passings) (first_pooled cast pooling) schedule last

-- the numbers of the segments of a thread among items, in order
abbrev pub serials_of : ℕ → List QueueItem → List ℕ
serials_of thread [] = []
serials_of thread (Fresh ∷ items) = serials_of thread items
serials_of thread (Segment owner serial ∷ items) =
    if owner == thread then serial ∷ serials_of thread items else serials_of thread items

-- how many segments of a thread are among items
abbrev pub segments_among : ℕ → List QueueItem → ℕ
segments_among thread items = length (serials_of thread items)
