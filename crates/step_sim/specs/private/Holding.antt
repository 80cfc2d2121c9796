-- What the buffers of a replay hold, for the contracts of private functions.
use Rattle.std.specs.Prelude.{◌≡◌, ◌<◌, ◌≤◌, ◌+◌, ◌-◌, ◌^◌, ◌++◌, ℕ, zero, suc, List, [], ◌∷◌, length, map, slice_get, true, false, ◌≢◌, unwrap_or, All, ⊤, Some}
use Rattle.fdr_record.specs.declared.event.Event.{Event}
use Rattle.fdr_buffer.specs.declared.buffer.TheConstants.{LEAST_SIZE}
use Rattle.fdr_buffer.specs.Filled.{Filled, empty_buffer}
use Rattle.fdr_buffer.specs.Segments.{has_room, segments}
use Rattle.step_sim.specs.declared.pool.Pool.{Pool}
use Rattle.step_sim.specs.Pool.{Fresh, QueueItem, Segment, Stock, segments_among, serials_of, stock_after}
use Rattle.traced_run.specs.Kept.{Stamp, buffer_of}

-- the events of each thread, by its number
abbrev pub Histories : Type 0
Histories = ℕ → List Event

-- the segments of a thread
abbrev pub segments_in : Stamp → Histories → ℕ → List (List Event)
segments_in stamp events thread = segments stamp.size (events thread)

-- the buffer of a queued item
abbrev pub held : Stamp → Histories → QueueItem → Filled
held stamp events Fresh = empty_buffer stamp.size
held stamp events (Segment thread serial) =
    buffer_of stamp thread (serial, unwrap_or (slice_get (segments_in stamp events thread) serial) [])

-- an item isn't begun, or is a segment of one of the threads that isn't its last
abbrev pub IsClosed : Stamp → Histories → ℕ → QueueItem → Type 0
IsClosed stamp events threads Fresh = ⊤
IsClosed stamp events threads (Segment thread serial) =
    (0 < thread) × (thread ≤ threads) × (serial + 1 < length (segments_in stamp events thread))

-- the numbers below one
abbrev pub below : ℕ → List ℕ
below zero = []
below (suc n) = below n ++ n ∷ []

-- the buffer that a thread with these segments holds: one that isn't begun, or that of its last segment
pub data IsHand (stamp : Stamp) (thread : ℕ) (segs : List (List Event)) (hand : Filled) : Type 0 where
  unbegun : segs ≡ [] → hand ≡ empty_buffer stamp.size → IsHand stamp thread segs hand
  opened : (whole : List (List Event)) → (events : List Event) → segs ≡ whole ++ events ∷ []
      → hand ≡ buffer_of stamp thread (length whole, events) → IsHand stamp thread segs hand

-- a pool holds these events of this many threads, with this stock
pub record PoolHolds (stamp : Stamp) (threads : ℕ) (events : Histories) (stock : Stock) (pool : Pool) : Type 0 where
  pub least : LEAST_SIZE ≤ stamp.size
  pub wall : pool.wall ≡ stamp.wall
  pub pid : pool.pid ≡ stamp.pid
  pub hand_count : length pool.hands.items ≡ threads
  pub sealed_count : length pool.sealed.items ≡ threads
  pub first_count : length pool.first.items ≡ threads
  pub hand : (i : ℕ) (hand : Filled) → slice_get pool.hands.items i ≡ Some hand → IsHand stamp (i + 1) (segments_in stamp events (i + 1)) hand
  pub sealed : (i n : ℕ) → slice_get pool.sealed.items i ≡ Some n → n ≡ length (segments_in stamp events (i + 1)) - 1
  pub first : (i n : ℕ) → slice_get pool.first.items i ≡ Some n → n ≡ segments_among (i + 1) stock.taken
  pub queue : pool.queue ≡ map (held stamp events) stock.queue
  pub closed : All (IsClosed stamp events threads) stock.queue
  pub order : (thread : ℕ) → serials_of thread (stock.taken ++ stock.queue) ≡ below (length (segments_in stamp events thread) - 1)

-- a pool with one more event of a thread, whatever it held
abbrev pub NotesEvent : Pool → Pool → ℕ → Event → Type 0
NotesEvent old new thread event =
    (stamp : Stamp) (threads : ℕ) (events later : Histories) (stock : Stock) → PoolHolds stamp threads events stock old
    → later thread ≡ events thread ++ event ∷ [] → ((other : ℕ) → other ≢ thread → later other ≡ events other)
    → PoolHolds stamp threads later
    (stock_after thread (length (segments_in stamp events thread)) (length (segments_in stamp later thread)) stock) new

-- the hand of a thread is begun, and has no room for an event
abbrev pub IsFull : Pool → ℕ → Event → Type 0
IsFull pool thread event =
    (hand : Filled) → slice_get pool.hands.items (thread - 1) ≡ Some hand
    → (hand.begun ≡ true) × (has_room hand.size (hand.events ++ event ∷ []) ≡ false)

-- a pool of these threads can note an event of a thread
abbrev pub CanNote : Pool → ℕ → Type 0
CanNote pool thread =
    (stamp : Stamp) × (threads : ℕ) × (events : Histories) × (stock : Stock) × PoolHolds stamp threads events stock pool
    × (0 < thread) × (thread ≤ threads) × (length (events thread) < 2 ^ 32)
