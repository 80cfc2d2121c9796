-- The buffers of a replay from event to event.
use Rattle.std.proofs.Common.{◌≡◌, ◌≢◌, ℕ, zero, suc, ◌+◌, ◌-◌, ◌<◌, ◌≤◌, ◌^◌, List, [], ◌∷◌, ◌++◌, Bool, true, false, Option, Some, None, refl, sym, subst, ap, ◌∙◌, inl, inr, arith, length, length-append, map, take, drop, append_assoc, eq-eqb, get_or}
use Rattle.std.specs.Prelude.{◌⊎◌, ◌==◌, ◌&&◌, All, IsFalse, IsTrue, if◌then◌else◌, nat_lt, replicate, slice_get, slice_index, slice_set, unwrap_or}
use Rattle.std.proofs.lemmas.Bool.{cases_eq}
use Rattle.std.proofs.lemmas.Bool.Decides.{nat_tests}
use Rattle.std.proofs.lemmas.List.{append-nil, drop-map, get_or-set_other, get_or-set_same, take-map, map-append, take-append-drop, length-replicate, length-set}
use Rattle.std.proofs.lemmas.List.Elements.{All-append, All-cons, All-drop, All-head, All-nil, All-tail}
use Rattle.std.proofs.lemmas.Option.{get_or_from_slice_get, slice_get-get_or, slice_get_read}
use Rattle.std.specs.List.{flat_map}
use Rattle.xray_io.specs.declared.wall.Wall.{Wall}
use Rattle.fdr_record.specs.declared.event.Event.{Event}
use Rattle.fdr_buffer.specs.declared.buffer.TheConstants.{LEAST_SIZE}
use Rattle.fdr_buffer.specs.Filled.{Filled, empty_buffer}
use Rattle.fdr_buffer.specs.Segments.{has_room, segments}
use Rattle.step_sim.specs.declared.pool.Pool.{Pool}
use Rattle.step_sim.specs.Pool.{Fresh, QueueItem, Segment, Stock, first_stock, queued, segments_among, serials_of, stock_after}
use Rattle.traced_run.specs.Kept.{Stamp, buffer_of}
use Rattle.step_sim.specs.private.Counts.{CanLose, lost_after}
use Rattle.step_sim.specs.private.Holding.{CanNote, Histories, IsClosed, IsFull, IsHand, NotesEvent, PoolHolds, below, held, opened, segments_in, unbegun}
use Rattle.step_sim.proofs.AllThreads.{set_cases}

-- ---- numbers of segments

pub eqb_is : (a b : ℕ) → a ≡ b → (a == b) ≡ true
eqb_is a b e = eq-eqb a b e

pub eqb_not : (a b : ℕ) → a ≢ b → (a == b) ≡ false
eqb_not a b apart = grind (arith, nat_tests)

-- a segment belongs to its own thread
pub serial_own : (thread serial : ℕ) → serials_of thread (Segment thread serial ∷ []) ≡ serial ∷ []
serial_own thread serial = rw (eqb_is thread thread refl) refl

pub serial_other : (owner thread serial : ℕ) → owner ≢ thread → serials_of thread (Segment owner serial ∷ []) ≡ []
serial_other owner thread serial apart = rw (eqb_not owner thread apart) refl

pub serials_of-append : (thread : ℕ) (items others : List QueueItem)
    → serials_of thread (items ++ others) ≡ serials_of thread items ++ serials_of thread others
serials_of-append thread [] others = refl
serials_of-append thread (Fresh ∷ items) others = serials_of-append thread items others
serials_of-append thread (Segment owner serial ∷ items) others = by_owner (owner == thread) (serials_of-append thread items others)
  where
    by_owner : (own : Bool) → serials_of thread (items ++ others) ≡ serials_of thread items ++ serials_of thread others
        → (if own then serial ∷ serials_of thread (items ++ others) else serials_of thread (items ++ others))
        ≡ (if own then serial ∷ serials_of thread items else serials_of thread items) ++ serials_of thread others
    by_owner true rest = ap (λ (ns : List ℕ). serial ∷ ns) rest
    by_owner false rest = rest

pub length-below : (n : ℕ) → length (below n) ≡ n
length-below zero = refl
length-below (suc n) = omega (arith, length-append (below n) (n ∷ []), length-below n)

-- ---- the queue

-- the first item of a queue, once an item was put at its end
record Front {X : Type 0} (queue : List X) (item : X) : Type 0 where
  front : X
  is : take 1 (queue ++ item ∷ []) ≡ front ∷ []

abbrev front_of : {X : Type 0} (queue : List X) (item : X) → Front queue item
front_of [] item = record { front = item; is = refl }
front_of (x ∷ queue) item = record { front = x; is = refl }

-- the same items, in the same order
pub same_items : (taken queue : List QueueItem) (item : QueueItem)
    → (taken ++ take 1 (queue ++ item ∷ [])) ++ drop 1 (queue ++ item ∷ []) ≡ (taken ++ queue) ++ item ∷ []
same_items taken queue item =
    append_assoc taken (take 1 (queue ++ item ∷ [])) (drop 1 (queue ++ item ∷ []))
    ∙ ap (λ (q : List QueueItem). taken ++ q) (take-append-drop 1 (queue ++ item ∷ []))
    ∙ sym (append_assoc taken queue (item ∷ []))

-- ---- segments that stay

-- more segments; all but the last of them were there before
pub record Grows (before after : List (List Event)) : Type 0 where
  pub longer : length before ≤ length after
  pub same : (i : ℕ) → i + 1 < length after → slice_get after i ≡ slice_get before i

-- the histories of all threads, one of which goes on
pub record GoesOn (stamp : Stamp) (events later : Histories) (thread : ℕ) : Type 0 where
  pub own : Grows (segments_in stamp events thread) (segments_in stamp later thread)
  pub others : (other : ℕ) → other ≢ thread → later other ≡ events other

grows_all : (stamp : Stamp) (events later : Histories) (thread k : ℕ) → GoesOn stamp events later thread
    → Grows (segments_in stamp events k) (segments_in stamp later k)
grows_all stamp events later thread k on = elim (cases_eq k thread) [
  | inl same ↦ subst (λ (n : ℕ). Grows (segments_in stamp events n) (segments_in stamp later n)) (sym same) on.own
  | inr apart ↦
      let e : segments_in stamp later k ≡ segments_in stamp events k = ap (segments stamp.size) (on.others k apart) in
      record { longer = omega (arith, ap length e); same = λ i within. ap (λ (segs : List (List Event)). slice_get segs i) e }
]

closed_more : (stamp : Stamp) (events later : Histories) (thread threads : ℕ) (item : QueueItem) → GoesOn stamp events later thread
    → IsClosed stamp events threads item → IsClosed stamp later threads item
closed_more stamp events later thread threads Fresh on is = tt
closed_more stamp events later thread threads (Segment owner serial) on is =
    (is.0, is.1, omega (arith, is.2, (grows_all stamp events later thread owner on).longer))

pub all_closed_more : (stamp : Stamp) (events later : Histories) (thread threads : ℕ) (items : List QueueItem) → GoesOn stamp events later thread
    → All (IsClosed stamp events threads) items → All (IsClosed stamp later threads) items
all_closed_more stamp events later thread threads items on is =
    λ k d within. closed_more stamp events later thread threads _ on (is k d within)

-- a closed item has the same buffer
held_same : (stamp : Stamp) (events later : Histories) (thread threads : ℕ) (item : QueueItem) → GoesOn stamp events later thread
    → IsClosed stamp later threads item → held stamp later item ≡ held stamp events item
held_same stamp events later thread threads Fresh on is = refl
held_same stamp events later thread threads (Segment owner serial) on is =
    ap (λ (o : Option (List Event)). buffer_of stamp owner (serial, unwrap_or o []))
    ((grows_all stamp events later thread owner on).same serial is.2)

pub all_held_same : (stamp : Stamp) (events later : Histories) (thread threads : ℕ) (items : List QueueItem) → GoesOn stamp events later thread
    → All (IsClosed stamp later threads) items → map (held stamp later) items ≡ map (held stamp events) items
all_held_same stamp events later thread threads [] on is = refl
all_held_same stamp events later thread threads (item ∷ items) on is =
    ap (λ (b : Filled). b ∷ map (held stamp later) items)
    (held_same stamp events later thread threads item on (All-head (IsClosed stamp later threads) item items is))
    ∙ ap (λ (bs : List Filled). held stamp events item ∷ bs)
    (all_held_same stamp events later thread threads items on (All-tail (IsClosed stamp later threads) item items is))

-- ---- an event that closes no segment

pub record Stays (stamp : Stamp) (events later : Histories) (thread : ℕ) : Type 0 where
  pub on : GoesOn stamp events later thread
  pub first_or_same : (length (segments_in stamp events thread) ≡ 0) ⊎ (length (segments_in stamp later thread) ≡ length (segments_in stamp events thread))
  pub closed_same : length (segments_in stamp later thread) - 1 ≡ length (segments_in stamp events thread) - 1

no_more : (n : ℕ) → (nat_lt 0 n && (n == n + 1)) ≡ false
no_more n = grind (arith, nat_tests)

pub stock_stays : (thread before after : ℕ) (stock : Stock) → (before ≡ 0) ⊎ (after ≡ before) → stock_after thread before after stock ≡ stock
stock_stays thread before after stock (inl none) = rw none refl
stock_stays thread before after stock (inr same) = rw (same, no_more before) refl

-- there are as many closed segments of each thread as before
closed_count : (stamp : Stamp) (events later : Histories) (thread k : ℕ) → Stays stamp events later thread
    → length (segments_in stamp later k) - 1 ≡ length (segments_in stamp events k) - 1
closed_count stamp events later thread k stays = elim (cases_eq k thread) [
  | inl same ↦
      subst (λ (n : ℕ). length (segments_in stamp later n) - 1 ≡ length (segments_in stamp events n) - 1) (sym same) stays.closed_same
  | inr apart ↦ ap (λ (es : List Event). length (segments stamp.size es) - 1) (stays.on.others k apart)
]

hands_moved : (stamp : Stamp) (events later : Histories) (thread : ℕ) (hands : List Filled) (new : Filled)
    → 0 < thread → ((other : ℕ) → other ≢ thread → later other ≡ events other)
    → ((i : ℕ) (hand : Filled) → slice_get hands i ≡ Some hand → IsHand stamp (i + 1) (segments_in stamp events (i + 1)) hand)
    → IsHand stamp thread (segments_in stamp later thread) new
    → (i : ℕ) (hand : Filled) → slice_get (slice_set hands (thread - 1) new) i ≡ Some hand
    → IsHand stamp (i + 1) (segments_in stamp later (i + 1)) hand
hands_moved stamp events later thread hands new some others each one i hand found = by_place (set_cases hands (thread - 1) i new hand found)
  where
    by_place : ((i ≡ thread - 1) × (hand ≡ new)) ⊎ ((i ≢ thread - 1) × (slice_get hands i ≡ Some hand))
        → IsHand stamp (i + 1) (segments_in stamp later (i + 1)) hand
    by_place (inl (place, e)) =
        let number : thread ≡ i + 1 = omega (arith, place, some) in
        subst (λ (h : Filled). IsHand stamp (i + 1) (segments_in stamp later (i + 1)) h) (sym e)
        (subst (λ (n : ℕ). IsHand stamp n (segments_in stamp later n) new) number one)
    by_place (inr (apart, is)) =
        let other : i + 1 ≢ thread = λ e. apart (omega (arith, e)) in
        subst (λ (es : List Event). IsHand stamp (i + 1) (segments stamp.size es) hand) (sym (others (i + 1) other)) (each i hand is)

-- the pool with another hand
pub stay_holds : (stamp : Stamp) (threads : ℕ) (events later : Histories) (stock : Stock) (thread : ℕ) (old new : Pool) (hand : Filled)
    → 0 < thread → PoolHolds stamp threads events stock old → Stays stamp events later thread
    → IsHand stamp thread (segments_in stamp later thread) hand
    → new.hands.items ≡ slice_set old.hands.items (thread - 1) hand → new.queue ≡ old.queue → new.sealed.items ≡ old.sealed.items
    → new.first.items ≡ old.first.items → new.wall ≡ old.wall → new.pid ≡ old.pid
    → PoolHolds stamp threads later
    (stock_after thread (length (segments_in stamp events thread)) (length (segments_in stamp later thread)) stock) new
stay_holds stamp threads events later stock thread old new hand some holds stays one hands queue sealed first wall pid =
    let still = stock_stays thread (length (segments_in stamp events thread)) (length (segments_in stamp later thread)) stock stays.first_or_same in
    let closed = all_closed_more stamp events later thread threads stock.queue stays.on holds.closed in
    let there : PoolHolds stamp threads later stock new = record {
      least = holds.least;
      wall = wall ∙ holds.wall;
      pid = pid ∙ holds.pid;
      hand_count = ap length hands ∙ length-set old.hands.items (thread - 1) hand ∙ holds.hand_count;
      sealed_count = ap length sealed ∙ holds.sealed_count;
      first_count = ap length first ∙ holds.first_count;
      hand = λ i h found.
          hands_moved stamp events later thread old.hands.items hand some stays.on.others holds.hand one i h
          (ap (λ (bs : List Filled). slice_get bs i) (sym hands) ∙ found);
      sealed = λ i n found.
          holds.sealed i n (ap (λ (ns : List ℕ). slice_get ns i) (sym sealed) ∙ found)
          ∙ sym (closed_count stamp events later thread (i + 1) stays);
      first = λ i n found. holds.first i n (ap (λ (ns : List ℕ). slice_get ns i) (sym first) ∙ found);
      queue = queue ∙ holds.queue ∙ sym (all_held_same stamp events later thread threads stock.queue stays.on closed);
      closed = closed;
      order = λ k. holds.order k ∙ ap below (sym (closed_count stamp events later thread k stays));
    } in
    subst (λ (s : Stock). PoolHolds stamp threads later s new) (sym still) there

-- ---- an event that closes a segment

-- the hand of a thread that has begun
pub record WasOpened (stamp : Stamp) (events : Histories) (thread : ℕ) (hand : Filled) : Type 0 where
  pub whole : List (List Event)
  pub last : List Event
  pub is : segments_in stamp events thread ≡ whole ++ last ∷ []
  pub holds : hand ≡ buffer_of stamp thread (length whole, last)

not_begun : (size : ℕ) (hand : Filled) → hand ≡ empty_buffer size → hand.begun ≡ true → ⊥
not_begun size hand e begun = let same : false ≡ true = sym (ap (λ (b : Filled). b.begun) e) ∙ begun in cc

was_opened : (stamp : Stamp) (events : Histories) (thread : ℕ) (hand : Filled) → IsHand stamp thread (segments_in stamp events thread) hand
    → hand.begun ≡ true → WasOpened stamp events thread hand
was_opened stamp events thread hand (unbegun none e) begun = absurd (not_begun stamp.size hand e begun)
was_opened stamp events thread hand (opened whole last is e) begun = record { whole = whole; last = last; is = is; holds = e }

-- the hand of a thread
pub hand_of_thread : (stamp : Stamp) (threads : ℕ) (events : Histories) (stock : Stock) (pool : Pool) (thread : ℕ) (hand : Filled)
    → 0 < thread → PoolHolds stamp threads events stock pool → slice_get pool.hands.items (thread - 1) ≡ Some hand
    → IsHand stamp thread (segments_in stamp events thread) hand
hand_of_thread stamp threads events stock pool thread hand some holds found =
    let number : thread - 1 + 1 ≡ thread = omega (arith, some) in
    subst (λ (n : ℕ). IsHand stamp n (segments_in stamp events n) hand) number (holds.hand (thread - 1) hand found)

pub opened_hand : (stamp : Stamp) (threads : ℕ) (events : Histories) (stock : Stock) (pool : Pool) (thread : ℕ) (hand : Filled)
    → 0 < thread → PoolHolds stamp threads events stock pool → slice_get pool.hands.items (thread - 1) ≡ Some hand → hand.begun ≡ true
    → WasOpened stamp events thread hand
opened_hand stamp threads events stock pool thread hand some holds found begun =
    was_opened stamp events thread hand (hand_of_thread stamp threads events stock pool thread hand some holds found) begun

-- the count of a thread in a list with one per thread
count_at : (ns : List ℕ) (thread n : ℕ) → 0 < thread → thread ≤ length ns
    → ((i k : ℕ) → slice_get ns i ≡ Some k → i ≡ thread - 1 → k ≡ n) → slice_index ns (thread - 1) ≡ n
count_at ns thread n some there is =
    is (thread - 1) (slice_index ns (thread - 1)) (slice_get-get_or ns (thread - 1) 0 (omega (arith, some, there))) refl

pub sealed_at : (stamp : Stamp) (threads : ℕ) (events : Histories) (stock : Stock) (pool : Pool) (thread : ℕ) → 0 < thread → thread ≤ threads
    → PoolHolds stamp threads events stock pool → slice_index pool.sealed.items (thread - 1) ≡ length (segments_in stamp events thread) - 1
sealed_at stamp threads events stock pool thread some few holds =
    count_at pool.sealed.items thread (length (segments_in stamp events thread) - 1) some (omega (arith, few, holds.sealed_count)) (λ i k found place.
    let number : i + 1 ≡ thread = omega (arith, place, some) in
    holds.sealed i k found ∙ ap (λ (t : ℕ). length (segments_in stamp events t) - 1) number)

first_at : (stamp : Stamp) (threads : ℕ) (events : Histories) (stock : Stock) (pool : Pool) (thread : ℕ) → 0 < thread → thread ≤ threads
    → PoolHolds stamp threads events stock pool → slice_index pool.first.items (thread - 1) ≡ segments_among thread stock.taken
first_at stamp threads events stock pool thread some few holds =
    count_at pool.first.items thread (segments_among thread stock.taken) some (omega (arith, few, holds.first_count)) (λ i k found place.
    let number : i + 1 ≡ thread = omega (arith, place, some) in
    holds.first i k found ∙ ap (λ (t : ℕ). segments_among t stock.taken) number)

-- a thread has at most as many segments as events
pub nonempty_count : (segs : List (List Event)) → All (λ s. s ≢ []) segs → length segs ≤ length (flat_map (λ s. s) segs)
nonempty_count [] some = omega arith
nonempty_count (seg ∷ segs) some =
    let one : 0 < length seg = not_empty seg (All-head (λ s. s ≢ []) seg segs some) in
    omega (arith, one, nonempty_count segs (All-tail (λ s. s ≢ []) seg segs some), length-append seg (flat_map (λ s. s) segs))
  where
    not_empty : (seg : List Event) → seg ≢ [] → 0 < length seg
    not_empty [] none = absurd (none refl)
    not_empty (event ∷ seg) none = omega arith

-- the count of closed segments can rise
pub can_seal : (stamp : Stamp) (threads : ℕ) (events : Histories) (stock : Stock) (pool : Pool) (thread n : ℕ) → 0 < thread → thread ≤ threads
    → PoolHolds stamp threads events stock pool → 0 < length (segments_in stamp events thread) → length (events thread) < 2 ^ 32
    → flat_map (λ s. s) (segments_in stamp events thread) ≡ events thread → All (λ s. s ≢ []) (segments_in stamp events thread)
    → n ≡ slice_index pool.sealed.items (thread - 1) → (n + 1 ≡ length (segments_in stamp events thread)) × (n + 1 < 2 ^ 32)
can_seal stamp threads events stock pool thread n some few holds begun room all each is =
    let at = sealed_at stamp threads events stock pool thread some few holds in
    let count = nonempty_count (segments_in stamp events thread) each in
    let bound : length (segments_in stamp events thread) < 2 ^ 32 = omega (arith, count, ap length all, room) in
    (omega (arith, is, at, begun), omega (arith, is, at, begun, bound))

-- the item of the hand that goes to the queue
abbrev sealing : ℕ → List (List Event) → QueueItem
sealing thread whole = Segment thread (length whole)

slice_get-seam : {X : Type 0} (xs : List X) (x : X) (ys : List X) → slice_get (xs ++ x ∷ ys) (length xs) ≡ Some x
slice_get-seam [] x ys = refl
slice_get-seam (y ∷ xs) x ys = slice_get-seam xs x ys

slice_get-front : {X : Type 0} (xs ys : List X) (i : ℕ) → i < length xs → slice_get (xs ++ ys) i ≡ slice_get xs i
slice_get-front [] ys i within = absurd (omega (arith, within))
slice_get-front (x ∷ xs) ys zero within = refl
slice_get-front (x ∷ xs) ys (suc i) within = slice_get-front xs ys i (omega (arith, within))

-- the hand is the buffer of that item
pub hand_held : (stamp : Stamp) (events : Histories) (thread : ℕ) (hand : Filled) (was : WasOpened stamp events thread hand)
    → hand ≡ held stamp events (sealing thread was.whole)
hand_held stamp events thread hand was =
    let found : slice_get (segments_in stamp events thread) (length was.whole) ≡ Some was.last =
    ap (λ (segs : List (List Event)). slice_get segs (length was.whole)) was.is ∙ slice_get-seam was.whole was.last [] in
    was.holds ∙ ap (λ (o : Option (List Event)). buffer_of stamp thread (length was.whole, unwrap_or o [])) (sym found)

-- the queue, with the hand at its end
queue_held : (stamp : Stamp) (threads : ℕ) (events : Histories) (stock : Stock) (pool : Pool) (thread : ℕ) (hand : Filled)
    (was : WasOpened stamp events thread hand) → PoolHolds stamp threads events stock pool
    → pool.queue ++ hand ∷ [] ≡ map (held stamp events) (stock.queue ++ sealing thread was.whole ∷ [])
queue_held stamp threads events stock pool thread hand was holds =
    ap (λ (q : List Filled). q ++ hand ∷ []) holds.queue
    ∙ ap (λ (b : Filled). map (held stamp events) stock.queue ++ b ∷ []) (hand_held stamp events thread hand was)
    ∙ sym (map-append (held stamp events) stock.queue (sealing thread was.whole ∷ []))

-- the buffer that is taken holds the first item
taken_held : (stamp : Stamp) (threads : ℕ) (events : Histories) (stock : Stock) (pool : Pool) (thread : ℕ) (hand taken : Filled)
    (was : WasOpened stamp events thread hand) → PoolHolds stamp threads events stock pool
    → taken ∷ [] ≡ take 1 (pool.queue ++ hand ∷ [])
    → taken ≡ held stamp events (front_of stock.queue (sealing thread was.whole)).front
taken_held stamp threads events stock pool thread hand taken was holds e =
    let item : QueueItem = sealing thread was.whole in
    let all : taken ∷ [] ≡ held stamp events (front_of stock.queue item).front ∷ [] =
    e ∙ ap (take 1) (queue_held stamp threads events stock pool thread hand was holds)
    ∙ take-map (held stamp events) 1 (stock.queue ++ item ∷ []) ∙ ap (map (held stamp events)) (front_of stock.queue item).is in
    cc

-- whatever an item holds, its buffer has the size of all buffers
pub held_size : (stamp : Stamp) (events : Histories) (item : QueueItem) → (held stamp events item).size ≡ stamp.size
held_size stamp events Fresh = refl
held_size stamp events (Segment owner serial) = refl

-- ---- what is lost

-- the first item is closed, or it is the one that was put into an empty queue
front_within : (stamp : Stamp) (events : Histories) (threads thread serial : ℕ) (queue : List QueueItem) → 0 < thread → thread ≤ threads
    → All (IsClosed stamp events threads) queue → (owner number : ℕ) → (front_of queue (Segment thread serial)).front ≡ Segment owner number
    → (0 < owner) × (owner ≤ threads)
front_within stamp events threads thread serial [] some few closed owner number e =
    let plain : Segment thread serial ≡ Segment owner number = e in
    let same : thread ≡ owner = cc in
    (omega (arith, same, some), omega (arith, same, few))
front_within stamp events threads thread serial (item ∷ queue) some few closed owner number e =
    let is : IsClosed stamp events threads (Segment owner number) =
    subst (IsClosed stamp events threads) e (All-head (IsClosed stamp events threads) item queue closed) in
    (is.0, is.1)

-- the numbers of a thread's segments after an item was put into the queue
serials_after : (stamp : Stamp) (threads : ℕ) (events : Histories) (stock : Stock) (pool : Pool) (k : ℕ) (item : QueueItem)
    → PoolHolds stamp threads events stock pool
    → serials_of k ((stock.taken ++ take 1 (stock.queue ++ item ∷ [])) ++ drop 1 (stock.queue ++ item ∷ []))
    ≡ below (length (segments_in stamp events k) - 1) ++ serials_of k (item ∷ [])
serials_after stamp threads events stock pool k item holds =
    ap (serials_of k) (same_items stock.taken stock.queue item)
    ∙ serials_of-append k (stock.taken ++ stock.queue) (item ∷ [])
    ∙ ap (λ (ns : List ℕ). ns ++ serials_of k (item ∷ [])) (holds.order k)

-- a thread whose segment comes first in the queue has lost fewer than it has put into the queue
fewer_lost : (stamp : Stamp) (threads : ℕ) (events : Histories) (stock : Stock) (pool : Pool) (thread serial owner number : ℕ)
    → PoolHolds stamp threads events stock pool → (front_of stock.queue (Segment thread serial)).front ≡ Segment owner number
    → segments_among owner stock.taken < (length (segments_in stamp events owner) - 1) + length (serials_of owner (Segment thread serial ∷ []))
fewer_lost stamp threads events stock pool thread serial owner number holds e =
    let item : QueueItem = Segment thread serial in
    let rest : List QueueItem = drop 1 (stock.queue ++ item ∷ []) in
    let front : take 1 (stock.queue ++ item ∷ []) ≡ Segment owner number ∷ [] =
    (front_of stock.queue item).is ∙ ap (λ (x : QueueItem). x ∷ []) e in
    let all = serials_after stamp threads events stock pool owner item holds in
    let split : serials_of owner ((stock.taken ++ Segment owner number ∷ []) ++ rest)
    ≡ (serials_of owner stock.taken ++ number ∷ []) ++ serials_of owner rest =
    serials_of-append owner (stock.taken ++ Segment owner number ∷ []) rest
    ∙ ap (λ (ns : List ℕ). ns ++ serials_of owner rest)
    (serials_of-append owner stock.taken (Segment owner number ∷ []) ∙ ap (λ (ns : List ℕ). serials_of owner stock.taken ++ ns) (serial_own owner number)) in
    let same : (serials_of owner stock.taken ++ number ∷ []) ++ serials_of owner rest
    ≡ below (length (segments_in stamp events owner) - 1) ++ serials_of owner (item ∷ []) =
    sym split ∙ ap (λ (xs : List QueueItem). serials_of owner ((stock.taken ++ xs) ++ rest)) (sym front) ∙ all in
    omega (
      arith,
      ap length same,
      length-append (serials_of owner stock.taken ++ number ∷ []) (serials_of owner rest),
      length-append (serials_of owner stock.taken) (number ∷ []),
      length-append (below (length (segments_in stamp events owner) - 1)) (serials_of owner (item ∷ [])),
      length-below (length (segments_in stamp events owner) - 1),
    )

-- the count in a list in which one was set
set_at : (ns : List ℕ) (thread owner n : ℕ) → 0 < thread → 0 < owner → thread ≤ length ns
    → ((owner ≡ thread) × (slice_index (slice_set ns (thread - 1) n) (owner - 1) ≡ n))
    ⊎ ((owner ≢ thread) × (slice_index (slice_set ns (thread - 1) n) (owner - 1) ≡ slice_index ns (owner - 1)))
set_at ns thread owner n some some_owner there = elim (cases_eq owner thread) [
  | inl same ↦
      let place : owner - 1 ≡ thread - 1 = omega (arith, same) in
      inl (same, ap (slice_index (slice_set ns (thread - 1) n)) place ∙ get_or-set_same ns (thread - 1) n 0 (omega (arith, some, there)))
  | inr apart ↦ inr (apart, get_or-set_other ns (thread - 1) (owner - 1) n 0 (λ e. apart (omega (arith, e, some, some_owner))))
]

pub can_lose : (stamp : Stamp) (threads : ℕ) (events : Histories) (stock : Stock) (pool : Pool) (thread n : ℕ) (hand taken : Filled)
    (sealed : List ℕ) → 0 < thread → thread ≤ threads → PoolHolds stamp threads events stock pool → WasOpened stamp events thread hand
    → taken ∷ [] ≡ take 1 (pool.queue ++ hand ∷ []) → n ≡ length (segments_in stamp events thread)
    → sealed ≡ slice_set pool.sealed.items (thread - 1) n → taken.begun ≡ true → CanLose pool.first.items sealed taken.thread
can_lose stamp threads events stock pool thread n hand taken sealed some few holds was e count set begun =
    by_front (front_of stock.queue (sealing thread was.whole)).front refl
  where
    is : taken ≡ held stamp events (front_of stock.queue (sealing thread was.whole)).front
    is = taken_held stamp threads events stock pool thread hand taken was holds e

    by_front : (x : QueueItem) → (front_of stock.queue (sealing thread was.whole)).front ≡ x → CanLose pool.first.items sealed taken.thread
    by_front Fresh front = absurd (not_begun stamp.size taken (is ∙ ap (held stamp events) front) begun)
    by_front (Segment owner number) front =
        let its : taken.thread ≡ owner = ap (λ (b : Filled). b.thread) (is ∙ ap (held stamp events) front) in
        let within = front_within stamp events threads thread (length was.whole) stock.queue some few holds.closed owner number front in
        let fewer = fewer_lost stamp threads events stock pool thread (length was.whole) owner number holds front in
        let first = first_at stamp threads events stock pool owner within.0 within.1 holds in
        let room : thread ≤ length pool.sealed.items = omega (arith, few, holds.sealed_count) in
        let whole_length : length (segments_in stamp events thread) ≡ length was.whole + 1 =
        ap length was.is ∙ length-append was.whole (was.last ∷ []) in
        let there : slice_index pool.first.items (owner - 1) < slice_index sealed (owner - 1) =
        subst (λ (ns : List ℕ). slice_index pool.first.items (owner - 1) < slice_index ns (owner - 1)) (sym set)
        (elim (set_at pool.sealed.items thread owner n some within.0 room) [
          | inl (same, at) ↦
              let own : length (serials_of owner (sealing thread was.whole ∷ [])) ≡ 1 =
              ap (λ (k : ℕ). length (serials_of k (sealing thread was.whole ∷ []))) same ∙ ap length (serial_own thread (length was.whole)) in
              let segs : length (segments_in stamp events owner) ≡ length (segments_in stamp events thread) =
              ap (λ (k : ℕ). length (segments_in stamp events k)) same in
              omega (arith, at, count, fewer, first, own, segs, whole_length)
          | inr (apart, at) ↦
              let none : length (serials_of owner (sealing thread was.whole ∷ [])) ≡ 0 =
              ap length (serial_other thread owner (length was.whole) (λ same. apart (sym same))) in
              omega (arith, at, fewer, first, none, sealed_at stamp threads events stock pool owner within.0 within.1 holds)
        ]) in
        let all : CanLose pool.first.items sealed owner = record {
          some = within.0;
          first_there = omega (arith, within.1, holds.first_count);
          sealed_there = omega (arith, within.1, ap length set, length-set pool.sealed.items (thread - 1) n, holds.sealed_count);
          fewer = there;
        } in
        subst (CanLose pool.first.items sealed) (sym its) all

-- the counts of lost segments after a buffer was taken
lost_is : (stamp : Stamp) (threads : ℕ) (events : Histories) (stock : Stock) (pool : Pool) (front : QueueItem) (i k : ℕ)
    → PoolHolds stamp threads events stock pool
    → ((owner number : ℕ) → front ≡ Segment owner number → (0 < owner) × (owner ≤ threads))
    → slice_get (lost_after (held stamp events front) pool.first.items) i ≡ Some k
    → k ≡ segments_among (i + 1) (stock.taken ++ front ∷ [])
lost_is stamp threads events stock pool Fresh i k holds within found =
    holds.first i k found
    ∙ ap length (sym (serials_of-append (i + 1) stock.taken (Fresh ∷ []) ∙ append-nil (serials_of (i + 1) stock.taken)))
lost_is stamp threads events stock pool (Segment owner number) i k holds within found =
    by_place (set_cases pool.first.items (owner - 1) i (slice_index pool.first.items (owner - 1) + 1) k found)
  where
    owned : (0 < owner) × (owner ≤ threads)
    owned = within owner number refl

    by_place : ((i ≡ owner - 1) × (k ≡ slice_index pool.first.items (owner - 1) + 1)) ⊎ ((i ≢ owner - 1) × (slice_get pool.first.items i ≡ Some k))
        → k ≡ segments_among (i + 1) (stock.taken ++ Segment owner number ∷ [])
    by_place (inl (place, is)) =
        let same : i + 1 ≡ owner = omega (arith, place, owned.0) in
        let more : segments_among owner (stock.taken ++ Segment owner number ∷ []) ≡ segments_among owner stock.taken + 1 =
        ap length (serials_of-append owner stock.taken (Segment owner number ∷ []) ∙ ap (λ (ns : List ℕ). serials_of owner stock.taken ++ ns) (serial_own owner number))
        ∙ length-append (serials_of owner stock.taken) (number ∷ []) in
        let all : k ≡ segments_among owner (stock.taken ++ Segment owner number ∷ []) =
        omega (arith, is, more, first_at stamp threads events stock pool owner owned.0 owned.1 holds) in
        all ∙ ap (λ (t : ℕ). segments_among t (stock.taken ++ Segment owner number ∷ [])) (sym same)
    by_place (inr (apart, is)) =
        let other : owner ≢ i + 1 = λ e. apart (omega (arith, e)) in
        holds.first i k is
        ∙ ap length (sym (serials_of-append (i + 1) stock.taken (Segment owner number ∷ [])
        ∙ ap (λ (ns : List ℕ). serials_of (i + 1) stock.taken ++ ns) (serial_other owner (i + 1) number other)
        ∙ append-nil (serials_of (i + 1) stock.taken)))

-- ---- the pool after such an event

turns_on : (n : ℕ) → 0 < n → (nat_lt 0 n && (n + 1 == n + 1)) ≡ true
turns_on n some = grind (arith, nat_tests)

stock_turns : (thread before after : ℕ) (stock : Stock) → 0 < before → after ≡ before + 1
    → stock_after thread before after stock ≡ queued (Segment thread (before - 1)) stock
stock_turns thread before after stock some more = rw (more, turns_on before some) refl

-- what a turn does to the segments of a thread
pub record Cuts (stamp : Stamp) (events later : Histories) (thread : ℕ) (whole : List (List Event)) (last next : List Event) : Type 0 where
  pub before : segments_in stamp events thread ≡ whole ++ last ∷ []
  pub after : segments_in stamp later thread ≡ (whole ++ last ∷ []) ++ next ∷ []
  pub others : (other : ℕ) → other ≢ thread → later other ≡ events other

cuts_length : (stamp : Stamp) (events later : Histories) (thread : ℕ) (whole : List (List Event)) (last next : List Event)
    → Cuts stamp events later thread whole last next
    → (length (segments_in stamp events thread) ≡ length whole + 1) × (length (segments_in stamp later thread) ≡ length whole + 2)
cuts_length stamp events later thread whole last next cuts =
    let one : length (segments_in stamp events thread) ≡ length whole + 1 = ap length cuts.before ∙ length-append whole (last ∷ []) in
    let two : length (segments_in stamp later thread) ≡ length (whole ++ last ∷ []) + 1 =
    ap length cuts.after ∙ length-append (whole ++ last ∷ []) (next ∷ []) in
    (one, omega (arith, two, length-append whole (last ∷ [])))

cuts_on : (stamp : Stamp) (events later : Histories) (thread : ℕ) (whole : List (List Event)) (last next : List Event)
    → Cuts stamp events later thread whole last next → GoesOn stamp events later thread
cuts_on stamp events later thread whole last next cuts =
    let counts = cuts_length stamp events later thread whole last next cuts in
    record {
      own = record {
        longer = omega (arith, counts.0, counts.1);
        same = λ i within.
            ap (λ (segs : List (List Event)). slice_get segs i) cuts.after
            ∙ slice_get-front (whole ++ last ∷ []) (next ∷ []) i (omega (arith, within, counts.1, length-append whole (last ∷ [])))
            ∙ ap (λ (segs : List (List Event)). slice_get segs i) (sym cuts.before);
      };
      others = cuts.others;
    }

-- the numbers of the closed segments
order_turned : (stamp : Stamp) (threads : ℕ) (events later : Histories) (stock : Stock) (pool : Pool) (thread k : ℕ) (whole : List (List Event))
    (last next : List Event) → PoolHolds stamp threads events stock pool → Cuts stamp events later thread whole last next
    → serials_of k ((stock.taken ++ take 1 (stock.queue ++ sealing thread whole ∷ [])) ++ drop 1 (stock.queue ++ sealing thread whole ∷ []))
    ≡ below (length (segments_in stamp later k) - 1)
order_turned stamp threads events later stock pool thread k whole last next holds cuts =
    serials_after stamp threads events stock pool k (sealing thread whole) holds ∙ elim (cases_eq k thread) [
      | inl same ↦
          let counts = cuts_length stamp events later thread whole last next cuts in
          let count : length (segments_in stamp events k) - 1 ≡ length whole =
          omega (arith, ap (λ (t : ℕ). length (segments_in stamp events t)) same, counts.0) in
          let count' : suc (length whole) ≡ length (segments_in stamp later k) - 1 =
          omega (arith, ap (λ (t : ℕ). length (segments_in stamp later t)) same, counts.1) in
          ap (λ (n : ℕ). below n ++ serials_of k (sealing thread whole ∷ [])) count
          ∙ ap (λ (ns : List ℕ). below (length whole) ++ ns)
          (ap (λ (t : ℕ). serials_of t (sealing thread whole ∷ [])) same ∙ serial_own thread (length whole))
          ∙ ap below count'
      | inr apart ↦
          ap (λ (ns : List ℕ). below (length (segments_in stamp events k) - 1) ++ ns)
          (serial_other thread k (length whole) (λ e. apart (sym e)))
          ∙ append-nil (below (length (segments_in stamp events k) - 1))
          ∙ ap (λ (es : List Event). below (length (segments stamp.size es) - 1)) (sym (cuts.others k apart))
    ]

-- all queued items are closed
closed_turned : (stamp : Stamp) (threads : ℕ) (events later : Histories) (stock : Stock) (thread : ℕ) (whole : List (List Event))
    (last next : List Event) → 0 < thread → thread ≤ threads → Cuts stamp events later thread whole last next
    → All (IsClosed stamp events threads) stock.queue
    → All (IsClosed stamp later threads) (stock.queue ++ sealing thread whole ∷ [])
closed_turned stamp threads events later stock thread whole last next some few cuts closed =
    let counts = cuts_length stamp events later thread whole last next cuts in
    let one : IsClosed stamp later threads (sealing thread whole) = (some, few, omega (arith, counts.1)) in
    All-append (IsClosed stamp later threads) stock.queue (sealing thread whole ∷ [])
    (all_closed_more stamp events later thread threads stock.queue (cuts_on stamp events later thread whole last next cuts) closed)
    (All-cons (IsClosed stamp later threads) (sealing thread whole) [] one (All-nil (IsClosed stamp later threads)))

-- the pool with the hand in the queue, and the event in the buffer that was first
pub turn_holds : (stamp : Stamp) (threads : ℕ) (events later : Histories) (stock : Stock) (thread n : ℕ) (old new : Pool)
    (hand taken next_hand : Filled) (next : List Event) (was : WasOpened stamp events thread hand) → 0 < thread → thread ≤ threads
    → PoolHolds stamp threads events stock old → Cuts stamp events later thread was.whole was.last next
    → n ≡ length (segments_in stamp events thread) → taken ∷ [] ≡ take 1 (old.queue ++ hand ∷ [])
    → next_hand ≡ buffer_of (record { size = taken.size; wall = old.wall; pid = old.pid }) thread (n, next)
    → new.hands.items ≡ slice_set old.hands.items (thread - 1) next_hand → new.queue ≡ drop 1 (old.queue ++ hand ∷ [])
    → new.sealed.items ≡ slice_set old.sealed.items (thread - 1) n → new.first.items ≡ lost_after taken old.first.items
    → new.wall ≡ old.wall → new.pid ≡ old.pid
    → PoolHolds stamp threads later
    (stock_after thread (length (segments_in stamp events thread)) (length (segments_in stamp later thread)) stock) new
turn_holds stamp threads events later stock thread n old new hand taken next_hand next was some few holds cuts count front next_is hands queue sealed first wall pid =
    subst (λ (s : Stock). PoolHolds stamp threads later s new) (sym turned) there
  where
    item : QueueItem
    item = sealing thread was.whole

    on : GoesOn stamp events later thread
    on = cuts_on stamp events later thread was.whole was.last next cuts

    counts : (length (segments_in stamp events thread) ≡ length was.whole + 1) × (length (segments_in stamp later thread) ≡ length was.whole + 2)
    counts = cuts_length stamp events later thread was.whole was.last next cuts

    turned : stock_after thread (length (segments_in stamp events thread)) (length (segments_in stamp later thread)) stock ≡ queued item stock
    turned =
        let place : length (segments_in stamp events thread) - 1 ≡ length was.whole = omega (arith, counts.0) in
        stock_turns thread (length (segments_in stamp events thread)) (length (segments_in stamp later thread)) stock
        (omega (arith, counts.0)) (omega (arith, counts.0, counts.1))
        ∙ ap (λ (k : ℕ). queued (Segment thread k) stock) place

    taken_is : taken ≡ held stamp events (front_of stock.queue item).front
    taken_is = taken_held stamp threads events stock old thread hand taken was holds front

    closed : All (IsClosed stamp later threads) (stock.queue ++ item ∷ [])
    closed = closed_turned stamp threads events later stock thread was.whole was.last next some few cuts holds.closed

    size_is : taken.size ≡ stamp.size
    size_is = ap (λ (b : Filled). b.size) taken_is ∙ held_size stamp events (front_of stock.queue item).front

    new_hand : IsHand stamp thread (segments_in stamp later thread) next_hand
    new_hand =
        let serial : n ≡ length (was.whole ++ was.last ∷ []) = omega (arith, count, counts.0, length-append was.whole (was.last ∷ [])) in
        opened (was.whole ++ was.last ∷ []) next cuts.after
        (next_is ∙ rw (size_is, holds.wall, holds.pid, serial) refl)

    there : PoolHolds stamp threads later (queued item stock) new
    there = record {
      least = holds.least;
      wall = wall ∙ holds.wall;
      pid = pid ∙ holds.pid;
      hand_count = ap length hands ∙ length-set old.hands.items (thread - 1) next_hand ∙ holds.hand_count;
      sealed_count = ap length sealed ∙ length-set old.sealed.items (thread - 1) n ∙ holds.sealed_count;
      first_count = ap length first ∙ length_lost taken old.first.items ∙ holds.first_count;
      hand = λ i h found.
          hands_moved stamp events later thread old.hands.items next_hand some cuts.others holds.hand new_hand i h
          (ap (λ (bs : List Filled). slice_get bs i) (sym hands) ∙ found);
      sealed = λ i k found.
          by_place i k (set_cases old.sealed.items (thread - 1) i n k (ap (λ (ns : List ℕ). slice_get ns i) (sym sealed) ∙ found));
      first = λ i k found.
          lost_is stamp threads events stock old (front_of stock.queue item).front i k holds
          (front_within stamp events threads thread (length was.whole) stock.queue some few holds.closed)
          (ap (λ (ns : List ℕ). slice_get ns i) (ap (λ (b : Filled). lost_after b old.first.items) (sym taken_is) ∙ sym first) ∙ found)
          ∙ ap (λ (xs : List QueueItem). segments_among (i + 1) (stock.taken ++ xs)) (sym (front_of stock.queue item).is);
      queue = queue ∙ ap (drop 1) (queue_held stamp threads events stock old thread hand was holds)
          ∙ drop-map (held stamp events) 1 (stock.queue ++ item ∷ [])
          ∙ sym (all_held_same stamp events later thread threads (drop 1 (stock.queue ++ item ∷ [])) on
          (All-drop (IsClosed stamp later threads) 1 (stock.queue ++ item ∷ []) closed));
      closed = All-drop (IsClosed stamp later threads) 1 (stock.queue ++ item ∷ []) closed;
      order = λ k. order_turned stamp threads events later stock old thread k was.whole was.last next holds cuts;
    }
      where
        length_lost : (b : Filled) (ns : List ℕ) → length (lost_after b ns) ≡ length ns
        length_lost b ns = by_begun b.begun
          where
            by_begun : (begun : Bool)
                → length (if begun then slice_set ns (b.thread - 1) (slice_index ns (b.thread - 1) + 1) else ns) ≡ length ns
            by_begun true = length-set ns (b.thread - 1) (slice_index ns (b.thread - 1) + 1)
            by_begun false = refl

        by_place : (i k : ℕ) → ((i ≡ thread - 1) × (k ≡ n)) ⊎ ((i ≢ thread - 1) × (slice_get old.sealed.items i ≡ Some k))
            → k ≡ length (segments_in stamp later (i + 1)) - 1
        by_place i k (inl (place, is)) =
            let same : i + 1 ≡ thread = omega (arith, place, some) in
            omega (arith, is, count, counts.0, counts.1, ap (λ (t : ℕ). length (segments_in stamp later t)) same)
        by_place i k (inr (apart, is)) =
            let other : i + 1 ≢ thread = λ e. apart (omega (arith, e)) in
            holds.sealed i k is ∙ ap (λ (es : List Event). length (segments stamp.size es) - 1) (sym (cuts.others (i + 1) other))

-- ---- an event that is noted

abbrev pub JoinedSaid : Type 0
JoinedSaid =
    (size : ℕ) (events opened : List Event) (whole : List (List Event)) (event : Event) → segments size events ≡ whole ++ opened ∷ []
    → IsTrue (has_room size (opened ++ event ∷ [])) → segments size (events ++ event ∷ []) ≡ whole ++ (opened ++ event ∷ []) ∷ []

abbrev pub CutSaid : Type 0
CutSaid =
    (size : ℕ) (events opened : List Event) (whole : List (List Event)) (event : Event) → segments size events ≡ whole ++ opened ∷ []
    → IsFalse (has_room size (opened ++ event ∷ [])) → segments size (events ++ event ∷ []) ≡ whole ++ opened ∷ (event ∷ []) ∷ []

abbrev pub AllSaid : Type 0
AllSaid = (size : ℕ) (events : List Event) → flat_map (λ s. s) (segments size events) ≡ events

abbrev pub SomeSaid : Type 0
SomeSaid = (size : ℕ) (events : List Event) → All (λ s. s ≢ []) (segments size events)

-- the hand that was read
hand_read : (stamp : Stamp) (threads : ℕ) (events : Histories) (stock : Stock) (pool : Pool) (thread : ℕ) (hand : Filled)
    → 0 < thread → thread ≤ threads → PoolHolds stamp threads events stock pool → hand ≡ get_or pool.hands.items (thread - 1) hand
    → slice_get pool.hands.items (thread - 1) ≡ Some hand
hand_read stamp threads events stock pool thread hand some few holds is =
    slice_get_read pool.hands.items threads (thread - 1) hand (sym holds.hand_count) (omega (arith, some, few)) is

sealed_read : (stamp : Stamp) (threads : ℕ) (events : Histories) (stock : Stock) (pool : Pool) (thread n : ℕ)
    → 0 < thread → thread ≤ threads → PoolHolds stamp threads events stock pool → n ≡ get_or pool.sealed.items (thread - 1) n
    → n ≡ slice_index pool.sealed.items (thread - 1)
sealed_read stamp threads events stock pool thread n some few holds is =
    sym (get_or_from_slice_get pool.sealed.items (thread - 1) n 0
    (slice_get_read pool.sealed.items threads (thread - 1) n (sym holds.sealed_count) (omega (arith, some, few)) is))

was_count : (stamp : Stamp) (events : Histories) (thread : ℕ) (hand : Filled) (was : WasOpened stamp events thread hand)
    → 0 < length (segments_in stamp events thread)
was_count stamp events thread hand was = omega (arith, ap length was.is, length-append was.whole (was.last ∷ []))

-- before a turn
pub turn_seals : (pool : Pool) (thread n : ℕ) (event : Event) → CanNote pool thread → IsFull pool thread event → AllSaid → SomeSaid
    → n ≡ get_or pool.sealed.items (thread - 1) n → n + 1 < 2 ^ 32
turn_seals pool thread n event (stamp, threads, events, stock, holds, some, few, room) full all each count =
    let none : Filled = empty_buffer 0 in
    let hand : Filled = get_or pool.hands.items (thread - 1) none in
    let found : slice_get pool.hands.items (thread - 1) ≡ Some hand =
    slice_get-get_or pool.hands.items (thread - 1) none (omega (arith, some, few, holds.hand_count)) in
    let was = opened_hand stamp threads events stock pool thread hand some holds found (full hand found).0 in
    (can_seal stamp threads events stock pool thread n some few holds (was_count stamp events thread hand was) room
    (all stamp.size (events thread)) (each stamp.size (events thread))
    (sealed_read stamp threads events stock pool thread n some few holds count)).1

pub turn_loses : (pool : Pool) (thread n : ℕ) (event : Event) (hand taken : Filled) (sealed : List ℕ) → CanNote pool thread
    → IsFull pool thread event → AllSaid → SomeSaid → n ≡ get_or pool.sealed.items (thread - 1) n
    → hand ≡ get_or pool.hands.items (thread - 1) hand → taken ∷ [] ≡ take 1 (pool.queue ++ hand ∷ [])
    → sealed ≡ slice_set pool.sealed.items (thread - 1) (n + 1) → taken.begun ≡ true → CanLose pool.first.items sealed taken.thread
turn_loses pool thread n event hand taken sealed (stamp, threads, events, stock, holds, some, few, room) full all each count is front set begun =
    let found = hand_read stamp threads events stock pool thread hand some few holds is in
    let was = opened_hand stamp threads events stock pool thread hand some holds found (full hand found).0 in
    let more = can_seal stamp threads events stock pool thread n some few holds (was_count stamp events thread hand was) room
    (all stamp.size (events thread)) (each stamp.size (events thread))
    (sealed_read stamp threads events stock pool thread n some few holds count) in
    can_lose stamp threads events stock pool thread (n + 1) hand taken sealed some few holds was front more.0 set begun

-- the buffer that was first has room for an event
pub turn_has_room : (pool : Pool) (thread : ℕ) (event : Event) (hand taken : Filled) → CanNote pool thread
    → IsFull pool thread event → ((size : ℕ) (events : List Event) → LEAST_SIZE ≤ size → All (λ s. IsTrue (has_room size s)) (segments size events))
    → hand ≡ get_or pool.hands.items (thread - 1) hand → taken ∷ [] ≡ take 1 (pool.queue ++ hand ∷ [])
    → IsTrue (has_room taken.size (event ∷ []))
turn_has_room pool thread event hand taken (stamp, threads, events, stock, holds, some, few, room) full fits is front =
    let found = hand_read stamp threads events stock pool thread hand some few holds is in
    let was = opened_hand stamp threads events stock pool thread hand some holds found (full hand found).0 in
    let taken_is = taken_held stamp threads events stock pool thread hand taken was holds front in
    let size : taken.size ≡ stamp.size =
    ap (λ (b : Filled). b.size) taken_is ∙ held_size stamp events (front_of stock.queue (sealing thread was.whole)).front in
    subst (λ (n : ℕ). IsTrue (has_room n (event ∷ []))) (sym size)
    (All-head (λ (s : List Event). IsTrue (has_room stamp.size s)) (event ∷ []) [] (fits stamp.size (event ∷ []) holds.least))

-- a buffer that was begun, with one event
pub put_begun : (begun next : Filled) (size thread serial : ℕ) (wall : Wall) (pid : ℕ) (event : Event)
    → begun ≡ record { size = size; begun = true; thread = thread; serial = serial; wall = wall; pid = pid; events = [] }
    → next ≡ record begun { events = begun.events ++ event ∷ [] }
    → next ≡ record { size = size; begun = true; thread = thread; serial = serial; wall = wall; pid = pid; events = event ∷ [] }
put_begun begun next size thread serial wall pid event is put = put ∙ rw is refl

-- the pool that a turn leaves
pub turn_notes : (old new : Pool) (thread n : ℕ) (event : Event) (hand taken next_hand : Filled) → CanNote old thread → IsFull old thread event
    → AllSaid → SomeSaid → CutSaid → n ≡ get_or old.sealed.items (thread - 1) n → hand ≡ get_or old.hands.items (thread - 1) hand
    → taken ∷ [] ≡ take 1 (old.queue ++ hand ∷ [])
    → next_hand ≡ record {
      size = taken.size;
      begun = true;
      thread = thread;
      serial = n + 1;
      wall = old.wall;
      pid = old.pid;
      events = event ∷ [];
    }
    → new.hands.items ≡ slice_set old.hands.items (thread - 1) next_hand → new.queue ≡ drop 1 (old.queue ++ hand ∷ [])
    → new.sealed.items ≡ slice_set old.sealed.items (thread - 1) (n + 1) → new.first.items ≡ lost_after taken old.first.items
    → new.wall ≡ old.wall → new.pid ≡ old.pid → NotesEvent old new thread event
turn_notes old new thread n event hand taken next_hand (stamp', threads', events', stock', holds', some, few', room) full all each cut count is front next_is hands queue sealed first wall pid
    stamp threads events later stock holds more others =
    let few : thread ≤ threads = omega (arith, few', holds'.hand_count, holds.hand_count) in
    let found = hand_read stamp threads events stock old thread hand some few holds is in
    let was = opened_hand stamp threads events stock old thread hand some holds found (full hand found).0 in
    let HasNoRoom : Filled → Type 0 = λ b. has_room b.size (b.events ++ event ∷ []) ≡ false in
    let no_room : HasNoRoom (buffer_of stamp thread (length was.whole, was.last)) = subst HasNoRoom was.holds (full hand found).1 in
    let after : segments_in stamp later thread ≡ (was.whole ++ was.last ∷ []) ++ (event ∷ []) ∷ [] =
    ap (segments stamp.size) more ∙ cut stamp.size (events thread) was.last was.whole event was.is no_room
    ∙ sym (append_assoc was.whole (was.last ∷ []) ((event ∷ []) ∷ [])) in
    let serial : n + 1 ≡ length (segments_in stamp events thread) =
    grows_by_one stamp threads events stock old thread n some few holds (was_count stamp events thread hand was)
    (sealed_read stamp threads events stock old thread n some few holds count) in
    turn_holds stamp threads events later stock thread (n + 1) old new hand taken next_hand (event ∷ []) was some few holds
    (record { before = was.is; after = after; others = others }) serial front next_is hands queue sealed first wall pid
  where
    grows_by_one : (stamp : Stamp) (threads : ℕ) (events : Histories) (stock : Stock) (pool : Pool) (thread n : ℕ) → 0 < thread → thread ≤ threads
        → PoolHolds stamp threads events stock pool → 0 < length (segments_in stamp events thread)
        → n ≡ slice_index pool.sealed.items (thread - 1) → n + 1 ≡ length (segments_in stamp events thread)
    grows_by_one stamp threads events stock pool thread n some few holds begun is =
        omega (arith, is, sealed_at stamp threads events stock pool thread some few holds, begun)

-- the first event of a thread
pub first_notes : (old new : Pool) (thread : ℕ) (event : Event) (hand next_hand : Filled) → CanNote old thread → hand.begun ≡ false → AllSaid
    → hand ≡ get_or old.hands.items (thread - 1) hand
    → next_hand ≡ record {
      size = hand.size;
      begun = true;
      thread = thread;
      serial = 0;
      wall = old.wall;
      pid = old.pid;
      events = event ∷ [];
    }
    → new.hands.items ≡ slice_set old.hands.items (thread - 1) next_hand → new.queue ≡ old.queue → new.sealed.items ≡ old.sealed.items
    → new.first.items ≡ old.first.items → new.wall ≡ old.wall → new.pid ≡ old.pid → NotesEvent old new thread event
first_notes old new thread event hand next_hand (stamp', threads', events', stock', holds', some, few', room) no_hand all is next_is hands queue sealed first wall pid
    stamp threads events later stock holds more others =
    let few : thread ≤ threads = omega (arith, few', holds'.hand_count, holds.hand_count) in
    let found = hand_read stamp threads events stock old thread hand some few holds is in
    by_hand (hand_of_thread stamp threads events stock old thread hand some holds found)
  where
    by_hand : IsHand stamp thread (segments_in stamp events thread) hand
        → PoolHolds stamp threads later
        (stock_after thread (length (segments_in stamp events thread)) (length (segments_in stamp later thread)) stock) new
    by_hand (opened whole last segs e) =
        let same : false ≡ true = sym no_hand ∙ ap (λ (b : Filled). b.begun) e in absurd cc
    by_hand (unbegun none e) =
        let no_events : events thread ≡ [] = sym (all stamp.size (events thread)) ∙ ap (flat_map (λ s. s)) none in
        let after : segments_in stamp later thread ≡ (event ∷ []) ∷ [] =
        ap (segments stamp.size) (more ∙ ap (λ (es : List Event). es ++ event ∷ []) no_events) in
        let size : hand.size ≡ stamp.size = ap (λ (b : Filled). b.size) e in
        let one : IsHand stamp thread (segments_in stamp later thread) next_hand =
        opened [] (event ∷ []) after (next_is ∙ rw (size, holds.wall, holds.pid) refl) in
        let stays : Stays stamp events later thread = record {
          on = record {
            own = record {
              longer = omega (arith, ap length none);
              same = λ i within. absurd (omega (arith, within, ap length after));
            };
            others = others;
          };
          first_or_same = inl (ap length none);
          closed_same = omega (arith, ap length none, ap length after);
        } in
        stay_holds stamp threads events later stock thread old new next_hand some holds stays one hands queue sealed first wall pid

-- an event that the hand has room for
pub join_notes : (old new : Pool) (thread : ℕ) (event : Event) (hand next_hand : Filled) → CanNote old thread → hand.begun ≡ true
    → has_room hand.size (hand.events ++ event ∷ []) ≡ true → JoinedSaid → hand ≡ get_or old.hands.items (thread - 1) hand
    → next_hand ≡ record hand { events = hand.events ++ event ∷ [] }
    → new.hands.items ≡ slice_set old.hands.items (thread - 1) next_hand → new.queue ≡ old.queue → new.sealed.items ≡ old.sealed.items
    → new.first.items ≡ old.first.items → new.wall ≡ old.wall → new.pid ≡ old.pid → NotesEvent old new thread event
join_notes old new thread event hand next_hand (stamp', threads', events', stock', holds', some, few', room) begun fits joined is next_is hands queue sealed first wall pid
    stamp threads events later stock holds more others =
    let few : thread ≤ threads = omega (arith, few', holds'.hand_count, holds.hand_count) in
    let found = hand_read stamp threads events stock old thread hand some few holds is in
    let was = opened_hand stamp threads events stock old thread hand some holds found begun in
    let HasRoom : Filled → Type 0 = λ b. has_room b.size (b.events ++ event ∷ []) ≡ true in
    let has : HasRoom (buffer_of stamp thread (length was.whole, was.last)) = subst HasRoom was.holds fits in
    let after : segments_in stamp later thread ≡ was.whole ++ (was.last ++ event ∷ []) ∷ [] =
    ap (segments stamp.size) more ∙ joined stamp.size (events thread) was.last was.whole event was.is has in
    let before_count : length (segments_in stamp events thread) ≡ length was.whole + 1 =
    ap length was.is ∙ length-append was.whole (was.last ∷ []) in
    let after_count : length (segments_in stamp later thread) ≡ length was.whole + 1 =
    ap length after ∙ length-append was.whole ((was.last ++ event ∷ []) ∷ []) in
    let one : IsHand stamp thread (segments_in stamp later thread) next_hand =
    opened was.whole (was.last ++ event ∷ []) after
    (next_is ∙ ap (λ (b : Filled). let c : Filled = record b { events = b.events ++ event ∷ [] } in c) was.holds) in
    let stays : Stays stamp events later thread = record {
      on = record {
        own = record {
          longer = omega (arith, before_count, after_count);
          same = λ i within.
              ap (λ (segs : List (List Event)). slice_get segs i) after
              ∙ slice_get-front was.whole ((was.last ++ event ∷ []) ∷ []) i (omega (arith, within, after_count))
              ∙ sym (slice_get-front was.whole (was.last ∷ []) i (omega (arith, within, after_count)))
              ∙ ap (λ (segs : List (List Event)). slice_get segs i) (sym was.is);
        };
        others = others;
      };
      first_or_same = inr (omega (arith, before_count, after_count));
      closed_same = omega (arith, before_count, after_count);
    } in
    stay_holds stamp threads events later stock thread old new next_hand some holds stays one hands queue sealed first wall pid

-- the count that was set is read again
pub read_back : (pool : Pool) (thread n read : ℕ) → CanNote pool thread
    → read ≡ get_or (slice_set pool.sealed.items (thread - 1) n) (thread - 1) read → read ≡ n
read_back pool thread n read (stamp, threads, events, stock, holds, some, few, room) is =
    is ∙ get_or-set_same pool.sealed.items (thread - 1) n read (omega (arith, some, few, holds.sealed_count))

-- a hand that is read again is the same
pub same_hand : (pool : Pool) (thread : ℕ) (one again : Filled) → CanNote pool thread → one ≡ get_or pool.hands.items (thread - 1) one
    → again ≡ get_or pool.hands.items (thread - 1) again → again ≡ one
same_hand pool thread one again (stamp, threads, events, stock, holds, some, few, room) is is' =
    let found = hand_read stamp threads events stock pool thread one some few holds is in
    let found' = hand_read stamp threads events stock pool thread again some few holds is' in
    let both : ◌≡◌ {A = Option Filled} (Some again) (Some one) = sym found' ∙ found in cc

-- ---- the pool at first

get-replicate : {X : Type 0} (n i : ℕ) (x y : X) → slice_get (replicate n x) i ≡ Some y → y ≡ x
get-replicate {X} zero i x y found = let none : ◌≡◌ {A = Option X} None (Some y) = found in absurd cc
get-replicate {X} (suc n) zero x y found = let both : ◌≡◌ {A = Option X} (Some x) (Some y) = found in sym (some_same x y both)
  where
    some_same : (a b : X) → ◌≡◌ {A = Option X} (Some a) (Some b) → a ≡ b
    some_same a b e = cc
get-replicate (suc n) (suc i) x y found = get-replicate n i x y found

fresh_held : (stamp : Stamp) (events : Histories) (n : ℕ) → replicate n (empty_buffer stamp.size) ≡ map (held stamp events) (replicate n Fresh)
fresh_held stamp events zero = refl
fresh_held stamp events (suc n) = ap (λ (bs : List Filled). empty_buffer stamp.size ∷ bs) (fresh_held stamp events n)

fresh_closed : (stamp : Stamp) (events : Histories) (threads n : ℕ) → All (IsClosed stamp events threads) (replicate n Fresh)
fresh_closed stamp events threads zero = All-nil (IsClosed stamp events threads)
fresh_closed stamp events threads (suc n) =
    All-cons (IsClosed stamp events threads) Fresh (replicate n Fresh) tt (fresh_closed stamp events threads n)

fresh_serials : (thread n : ℕ) → serials_of thread (replicate n Fresh) ≡ []
fresh_serials thread zero = refl
fresh_serials thread (suc n) = fresh_serials thread n

pub pool_begins : (stamp : Stamp) (threads spare : ℕ) (pool : Pool) → LEAST_SIZE ≤ stamp.size → pool.wall ≡ stamp.wall → pool.pid ≡ stamp.pid
    → pool.hands.items ≡ replicate threads (empty_buffer stamp.size) → pool.queue ≡ replicate spare (empty_buffer stamp.size)
    → pool.sealed.items ≡ replicate threads 0 → pool.first.items ≡ replicate threads 0
    → PoolHolds stamp threads (λ _. []) (first_stock spare) pool
pool_begins stamp threads spare pool least wall pid hands queue sealed first = record {
  least = least;
  wall = wall;
  pid = pid;
  hand_count = ap length hands ∙ length-replicate threads (empty_buffer stamp.size);
  sealed_count = ap length sealed ∙ length-replicate threads 0;
  first_count = ap length first ∙ length-replicate threads 0;
  hand = λ i hand found.
      unbegun refl (get-replicate threads i (empty_buffer stamp.size) hand (ap (λ (bs : List Filled). slice_get bs i) (sym hands) ∙ found));
  sealed = λ i n found. get-replicate threads i 0 n (ap (λ (ns : List ℕ). slice_get ns i) (sym sealed) ∙ found);
  first = λ i n found. get-replicate threads i 0 n (ap (λ (ns : List ℕ). slice_get ns i) (sym first) ∙ found);
  queue = queue ∙ fresh_held stamp (λ _. []) spare;
  closed = fresh_closed stamp (λ _. []) threads spare;
  order = λ thread. fresh_serials thread spare;
}
