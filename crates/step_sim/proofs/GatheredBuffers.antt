-- The buffers of a replay gathered at its end.
use Rattle.std.proofs.Common.{◌≡◌, ◌≢◌, ℕ, zero, suc, ◌+◌, ◌-◌, ◌<◌, ◌≤◌, List, [], ◌∷◌, ◌++◌, Bool, true, false, Option, Some, None, refl, sym, subst, ap, ◌∙◌, inl, inr, arith, length, length-append, map, take, drop, get_or, append_assoc, drop-cons}
use Rattle.std.specs.Prelude.{◌⊎◌, ◌==◌, ◌&&◌, filter, if◌then◌else◌, remove, slice_get, unwrap_or}
use Rattle.std.specs.List.{enumerate_from, flat_map}
use Rattle.std.proofs.Math.Seq.{drop-append_seam}
use Rattle.std.proofs.lemmas.Bool.{cases_eq}
use Rattle.std.proofs.lemmas.List.{append-nil, drop_all, drop-append-le, drop-map, length-take-le, map-append, take-append-drop, take_all, take_more}
use Rattle.std.proofs.lemmas.List.Concat.{flat_map-append}
use Rattle.std.proofs.lemmas.List.Elements.{filter-append}
use Rattle.std.proofs.lemmas.List.FromFn.{get_or-enumerate_from, length-enumerate_from}
use Rattle.std.proofs.lemmas.Option.{slice_get-get_or, slice_get_read, unwrap_or-slice_get}
use Rattle.fdr_record.specs.declared.event.Event.{Event}
use Rattle.fdr_buffer.specs.Filled.{Filled, empty_buffer}
use Rattle.step_sim.specs.declared.pool.Pool.{Pool}
use Rattle.step_sim.specs.Pool.{Fresh, QueueItem, Segment, Stock, segments_among, serials_of}
use Rattle.traced_run.specs.Kept.{Stamp, buffer_of, buffers_after}
use Rattle.step_sim.specs.Recorded.{numbers_from}
use Rattle.step_sim.specs.private.Counts.{is_of}
use Rattle.step_sim.specs.private.Holding.{Histories, IsHand, PoolHolds, below, held, opened, segments_in, unbegun}
use Rattle.step_sim.proofs.PoolLemmas.{eqb_is, eqb_not, hand_held, hand_of_thread, length-below, serials_of-append}

-- ---- buffers of one thread, taken out of a list

-- the list around a place
round : (xs : List Filled) (i : ℕ) (x : Filled) → i < length xs → x ≡ get_or xs i x → xs ≡ take i xs ++ x ∷ drop (suc i) xs
round xs i x within is =
    sym (take-append-drop i xs) ∙ ap (λ (ys : List Filled). take i xs ++ ys)
    (drop-cons xs i x within ∙ ap (λ (y : Filled). y ∷ drop (suc i) xs) (sym is))

pub remove_other : (thread other i : ℕ) (xs : List Filled) (x : Filled) → i < length xs → x ≡ get_or xs i x → x.thread ≡ thread → other ≢ thread
    → filter (is_of other) (remove xs i) ≡ filter (is_of other) xs
remove_other thread other i xs x within is own apart =
    let not_other : (x.begun && (x.thread == other)) ≡ false =
    none_of x.begun (x.thread == other) (eqb_not x.thread other (λ e. apart (sym e ∙ own))) in
    filter-append (is_of other) (take i xs) (drop (suc i) xs)
    ∙ ap (λ (ys : List Filled). filter (is_of other) (take i xs) ++ ys) (sym (skipped (is_of other) x (drop (suc i) xs) not_other))
    ∙ sym (filter-append (is_of other) (take i xs) (x ∷ drop (suc i) xs))
    ∙ ap (filter (is_of other)) (sym (round xs i x within is))
  where
    none_of : (a b : Bool) → b ≡ false → (a && b) ≡ false
    none_of true b e = e
    none_of false b e = refl

    skipped : (p : Filled → Bool) (x : Filled) (xs : List Filled) → p x ≡ false → filter p (x ∷ xs) ≡ filter p xs
    skipped p x xs e = rw e refl

pub take_step : (thread i : ℕ) (kept more rest : List Filled) (x : Filled) → i < length rest → x ≡ get_or rest i x → x.begun ≡ true
    → x.thread ≡ thread → more ≡ kept ++ x ∷ []
    → more ++ filter (is_of thread) (drop i (remove rest i)) ≡ kept ++ filter (is_of thread) (drop i rest)
take_step thread i kept more rest x within is begun own e =
    let front : length (take i rest) ≡ i = length-take-le i rest (omega (arith, within)) in
    let following : drop i (remove rest i) ≡ drop (suc i) rest =
    ap (λ (n : ℕ). drop n (remove rest i)) (sym front) ∙ drop-append_seam (take i rest) (drop (suc i) rest) in
    let here : drop i rest ≡ x ∷ drop (suc i) rest =
    drop-cons rest i x within ∙ ap (λ (y : Filled). y ∷ drop (suc i) rest) (sym is) in
    let its : (x.begun && (x.thread == thread)) ≡ true = rw (begun, eqb_is x.thread thread own) refl in
    ap (λ (ys : List Filled). ys ++ filter (is_of thread) (drop i (remove rest i))) e
    ∙ ap (λ (ys : List Filled). (kept ++ x ∷ []) ++ filter (is_of thread) ys) following
    ∙ append_assoc kept (x ∷ []) (filter (is_of thread) (drop (suc i) rest))
    ∙ ap (λ (ys : List Filled). kept ++ ys) (sym (passed (is_of thread) x (drop (suc i) rest) its))
    ∙ ap (λ (ys : List Filled). kept ++ filter (is_of thread) ys) (sym here)
  where
    passed : (p : Filled → Bool) (x : Filled) (xs : List Filled) → p x ≡ true → filter p (x ∷ xs) ≡ x ∷ filter p xs
    passed p x xs e = rw e refl

-- ---- numbers in order

pub numbers_push : (first n : ℕ) → numbers_from first (n + 1) ≡ numbers_from first n ++ (first + n) ∷ []
numbers_push first zero =
    let e : first ≡ first + zero = omega arith in
    ap (λ (k : ℕ). k ∷ []) e
numbers_push first (suc n) =
    let one : suc n + 1 ≡ suc (n + 1) = omega arith in
    let last : first + 1 + n ≡ first + suc n = omega arith in
    ap (numbers_from first) one ∙ ap (λ (ns : List ℕ). first ∷ ns) (numbers_push (first + 1) n)
    ∙ ap (λ (k : ℕ). first ∷ (numbers_from (first + 1) n ++ k ∷ [])) last

pub flat_same : (F G : ℕ → List Filled) (first n : ℕ) → ((t : ℕ) → first ≤ t → t < first + n → F t ≡ G t)
    → flat_map F (numbers_from first n) ≡ flat_map G (numbers_from first n)
flat_same F G first zero same = refl
flat_same F G first (suc n) same =
    ap (λ (xs : List Filled). xs ++ flat_map F (numbers_from (first + 1) n)) (same first (omega arith) (omega arith))
    ∙ ap (λ (xs : List Filled). G first ++ xs)
    (flat_same F G (first + 1) n (λ t low high. same t (omega (arith, low)) (omega (arith, high))))

-- a list with one item per thread
pub items_are : {X : Type 0} (xs : List X) (F : ℕ → X) (first n : ℕ) → length xs ≡ n
    → ((j : ℕ) (x : X) → slice_get xs j ≡ Some x → x ≡ F (first + j)) → xs ≡ map F (numbers_from first n)
items_are [] F first zero count is = refl
items_are [] F first (suc n) count is = absurd (omega (arith, count))
items_are (x ∷ xs) F first zero count is = absurd (omega (arith, count))
items_are {X = X} (x ∷ xs) F first (suc n) count is =
    let here : first + zero ≡ first = omega arith in
    ap (λ (y : X). y ∷ xs) (is zero x refl ∙ ap F here)
    ∙ ap (λ (ys : List X). F first ∷ ys)
    (items_are xs F (first + 1) n (omega (arith, count)) (λ j y found. is (suc j) y found ∙ ap F (following j)))
  where
    following : (j : ℕ) → first + suc j ≡ first + 1 + j
    following j = omega arith

-- ---- the queue's buffers of one thread

abbrev nth : List (List Event) → ℕ → List Event
nth segs i = unwrap_or (slice_get segs i) []

queue_of : (stamp : Stamp) (events : Histories) (thread : ℕ) (items : List QueueItem)
    → filter (is_of thread) (map (held stamp events) items)
    ≡ map (λ i. buffer_of stamp thread (i, nth (segments_in stamp events thread) i)) (serials_of thread items)
queue_of stamp events thread [] = refl
queue_of stamp events thread (Fresh ∷ items) = queue_of stamp events thread items
queue_of stamp events thread (Segment owner serial ∷ items) = elim (cases_eq owner thread) [
  | inl same ↦
      let test : (owner == thread) ≡ true = eqb_is owner thread same in
      rw test
      (ap (λ (t : ℕ). buffer_of stamp t (serial, nth (segments_in stamp events t) serial) ∷ filter (is_of thread) (map (held stamp events) items)) same
      ∙ ap (λ (bs : List Filled). buffer_of stamp thread (serial, nth (segments_in stamp events thread) serial) ∷ bs)
      (queue_of stamp events thread items))
  | inr apart ↦
      let test : (owner == thread) ≡ false = eqb_not owner thread apart in
      rw test (queue_of stamp events thread items)
]

-- ---- the hands of one thread

-- a hand belongs to no thread, or to its own
abbrev IsOwn : ℕ → Filled → Type 0
IsOwn thread hand = (hand.begun ≡ false) ⊎ ((hand.begun ≡ true) × (hand.thread ≡ thread))

own_hand : (stamp : Stamp) (thread : ℕ) (segs : List (List Event)) (hand : Filled) → IsHand stamp thread segs hand → IsOwn thread hand
own_hand stamp thread segs hand (unbegun none e) = inl (ap (λ (b : Filled). b.begun) e)
own_hand stamp thread segs hand (opened whole last is e) =
    inr (ap (λ (b : Filled). b.begun) e, ap (λ (b : Filled). b.thread) e)

not_of : (thread other : ℕ) (hand : Filled) → IsOwn thread hand → thread ≢ other → is_of other hand ≡ false
not_of thread other hand (inl none) apart = rw none refl
not_of thread other hand (inr (begun, own)) apart = rw (begun, eqb_not hand.thread other (λ e. apart (sym own ∙ e))) refl

filter_skips : (p : Filled → Bool) (x : Filled) (xs : List Filled) → p x ≡ false → filter p (x ∷ xs) ≡ filter p xs
filter_skips p x xs e = rw e refl

filter_takes : (p : Filled → Bool) (x : Filled) (xs : List Filled) → p x ≡ true → filter p (x ∷ xs) ≡ x ∷ filter p xs
filter_takes p x xs e = rw e refl

-- the hands of later threads don't belong to this one
hands_after : (hands : List Filled) (k thread : ℕ) → thread ≤ k
    → ((i : ℕ) (hand : Filled) → slice_get hands i ≡ Some hand → IsOwn (k + i + 1) hand) → filter (is_of thread) hands ≡ []
hands_after [] k thread low own = refl
hands_after (hand ∷ hands) k thread low own =
    filter_skips (is_of thread) hand hands
    (not_of (k + zero + 1) thread hand (own zero hand refl) (λ e. omega (arith, e, low)))
    ∙ hands_after hands (k + 1) thread (omega (arith, low)) (λ i h found. subst (λ (n : ℕ). IsOwn n h) (following i) (own (suc i) h found))
  where
    following : (i : ℕ) → k + suc i + 1 ≡ k + 1 + i + 1
    following i = omega arith

hands_of : (hands : List Filled) (k thread : ℕ) (hand : Filled) → k < thread → slice_get hands (thread - 1 - k) ≡ Some hand
    → ((i : ℕ) (h : Filled) → slice_get hands i ≡ Some h → IsOwn (k + i + 1) h)
    → filter (is_of thread) hands ≡ (if hand.begun then hand ∷ [] else [])
hands_of [] k thread hand low found own = let none : ◌≡◌ {A = Option Filled} None (Some hand) = found in absurd cc
hands_of (first ∷ hands) k thread hand low found own = elim (cases_eq thread (k + 1)) [
  | inl here ↦
      let place : thread - 1 - k ≡ 0 = omega (arith, here) in
      let is : ◌≡◌ {A = Option Filled} (Some first) (Some hand) = ap (slice_get (first ∷ hands)) (sym place) ∙ found in
      let same : first ≡ hand = cc in
      let rest : filter (is_of thread) hands ≡ [] = hands_after hands (k + 1) thread (omega (arith, here))
      (λ i h is. subst (λ (n : ℕ). IsOwn n h) (following k i) (own (suc i) h is)) in
      let mine : IsOwn thread first = subst (λ (n : ℕ). IsOwn n first) (at_first k thread here) (own zero first refl) in
      by_own thread first hands mine rest ∙ ap (λ (b : Filled). if b.begun then b ∷ [] else []) same
  | inr later ↦
      let place : thread - 1 - k ≡ suc (thread - 1 - (k + 1)) = omega (arith, low, later) in
      let is : slice_get hands (thread - 1 - (k + 1)) ≡ Some hand = ap (slice_get (first ∷ hands)) (sym place) ∙ found in
      filter_skips (is_of thread) first hands
      (not_of (k + zero + 1) thread first (own zero first refl) (λ e. later (omega (arith, e))))
      ∙ hands_of hands (k + 1) thread hand (omega (arith, low, later)) is
      (λ i h is. subst (λ (n : ℕ). IsOwn n h) (following k i) (own (suc i) h is))
]
  where
    following : (k i : ℕ) → k + suc i + 1 ≡ k + 1 + i + 1
    following k i = omega arith

    at_first : (k thread : ℕ) → thread ≡ k + 1 → k + zero + 1 ≡ thread
    at_first k thread e = omega (arith, e)

    by_own : (thread : ℕ) (first : Filled) (hands : List Filled) → IsOwn thread first → filter (is_of thread) hands ≡ []
        → filter (is_of thread) (first ∷ hands) ≡ (if first.begun then first ∷ [] else [])
    by_own thread first hands (inl none) rest = rw none rest
    by_own thread first hands (inr (begun, own)) rest =
        let its : (first.begun && (first.thread == thread)) ≡ true = rw (begun, eqb_is first.thread thread own) refl in
        filter_takes (is_of thread) first hands its ∙ ap (λ (bs : List Filled). first ∷ bs) rest
        ∙ sym (ap (λ (b : Bool). if b then first ∷ [] else []) begun)

-- ---- all buffers of one thread

-- segments with their numbers
numbered : (segs : List (List Event)) (n : ℕ) → n ≤ length segs → map (λ i. (i, nth segs i)) (below n) ≡ take n (enumerate_from 0 segs)
numbered segs zero few = refl
numbered segs (suc n) few =
    let none : ℕ × List Event = (0, []) in
    let more : suc n ≡ n + 1 = omega arith in
    let within : n < length segs = omega (arith, few) in
    let zero_n : 0 + n ≡ n = omega arith in
    map-append (λ i. (i, nth segs i)) (below n) (n ∷ [])
    ∙ ap (λ (ps : List (ℕ × List Event)). ps ++ (n, nth segs n) ∷ []) (numbered segs n (omega (arith, few)))
    ∙ ap (λ (es : List Event). take n (enumerate_from 0 segs) ++ (n, es) ∷ []) (unwrap_or-slice_get segs n [])
    ∙ ap (λ (k : ℕ). take n (enumerate_from 0 segs) ++ (k, get_or segs n []) ∷ []) (sym zero_n)
    ∙ ap (λ (p : ℕ × List Event). take n (enumerate_from 0 segs) ++ p ∷ []) (sym (get_or-enumerate_from 0 segs n none within))
    ∙ sym (take_more (enumerate_from 0 segs) n none (omega (arith, within, length-enumerate_from 0 segs)))
    ∙ ap (λ (k : ℕ). take k (enumerate_from 0 segs)) (sym more)

-- the segments of a thread in the queue are those that it hasn't lost
queue_serials : (stamp : Stamp) (threads : ℕ) (events : Histories) (stock : Stock) (pool : Pool) (thread : ℕ)
    → PoolHolds stamp threads events stock pool
    → serials_of thread stock.queue ≡ drop (segments_among thread stock.taken) (below (length (segments_in stamp events thread) - 1))
queue_serials stamp threads events stock pool thread holds =
    sym (drop-append_seam (serials_of thread stock.taken) (serials_of thread stock.queue))
    ∙ ap (drop (segments_among thread stock.taken)) (sym (serials_of-append thread stock.taken stock.queue) ∙ holds.order thread)

pub few_lost : (stamp : Stamp) (threads : ℕ) (events : Histories) (stock : Stock) (pool : Pool) (thread : ℕ)
    → PoolHolds stamp threads events stock pool → segments_among thread stock.taken ≤ length (segments_in stamp events thread) - 1
few_lost stamp threads events stock pool thread holds =
    omega (
      arith,
      ap length (holds.order thread),
      ap length (serials_of-append thread stock.taken stock.queue),
      length-append (serials_of thread stock.taken) (serials_of thread stock.queue),
      length-below (length (segments_in stamp events thread) - 1),
    )

gathered_of : (stamp : Stamp) (threads : ℕ) (events : Histories) (stock : Stock) (pool : Pool) (thread : ℕ) (hand : Filled)
    → 0 < thread → PoolHolds stamp threads events stock pool → slice_get pool.hands.items (thread - 1) ≡ Some hand
    → filter (is_of thread) pool.queue ++ filter (is_of thread) pool.hands.items
    ≡ buffers_after stamp (segments_among thread stock.taken) thread (segments_in stamp events thread)
gathered_of stamp threads events stock pool thread hand some holds found =
    ap (λ (bs : List Filled). bs ++ filter (is_of thread) pool.hands.items) queue
    ∙ ap (λ (bs : List Filled). map buffer (drop lost (below (length segs - 1))) ++ bs) hands
    ∙ by_hand (hand_of_thread stamp threads events stock pool thread hand some holds found)
  where
    segs : List (List Event)
    segs = segments_in stamp events thread

    lost : ℕ
    lost = segments_among thread stock.taken

    buffer : ℕ → Filled
    buffer i = buffer_of stamp thread (i, nth segs i)

    queue : filter (is_of thread) pool.queue ≡ map buffer (drop lost (below (length segs - 1)))
    queue =
        ap (filter (is_of thread)) holds.queue ∙ queue_of stamp events thread stock.queue
        ∙ ap (map buffer) (queue_serials stamp threads events stock pool thread holds)

    place : thread - 1 - 0 ≡ thread - 1
    place = omega arith

    number : (i : ℕ) → i + 1 ≡ 0 + i + 1
    number i = omega arith

    hands : filter (is_of thread) pool.hands.items ≡ (if hand.begun then hand ∷ [] else [])
    hands = hands_of pool.hands.items 0 thread hand some (ap (slice_get pool.hands.items) place ∙ found)
        (λ i h is. subst (λ (n : ℕ). IsOwn n h) (number i) (own_hand stamp (i + 1) (segments_in stamp events (i + 1)) h (holds.hand i h is)))

    by_hand : IsHand stamp thread segs hand
        → map buffer (drop lost (below (length segs - 1))) ++ (if hand.begun then hand ∷ [] else []) ≡ buffers_after stamp lost thread segs
    by_hand (unbegun none e) =
        let zero_left : length segs - 1 ≡ 0 = omega (arith, ap length none) in
        let no_numbers : drop lost (below 0) ≡ [] = drop_all lost [] (omega arith) in
        let begun : hand.begun ≡ false = ap (λ (b : Filled). b.begun) e in
        let pairs : List (ℕ × List Event) = [] in
        let no_segments : drop lost (enumerate_from 0 segs) ≡ pairs =
        ap (λ (ss : List (List Event)). drop lost (enumerate_from 0 ss)) none ∙ drop_all lost pairs (omega arith) in
        ap (λ (n : ℕ). map buffer (drop lost (below n)) ++ (if hand.begun then hand ∷ [] else [])) zero_left
        ∙ ap (λ (ns : List ℕ). map buffer ns ++ (if hand.begun then hand ∷ [] else [])) no_numbers
        ∙ ap (λ (b : Bool). if b then hand ∷ [] else []) begun
        ∙ sym (ap (map (buffer_of stamp thread)) no_segments)
    by_hand (opened whole last is e) =
        let count : length segs ≡ length whole + 1 = ap length is ∙ length-append whole (last ∷ []) in
        let left : length segs - 1 ≡ length whole = omega (arith, count) in
        let begun : hand.begun ≡ true = ap (λ (b : Filled). b.begun) e in
        let own : hand ≡ buffer (length whole) = hand_held stamp events thread hand (record { whole = whole; last = last; is = is; holds = e }) in
        let few : lost ≤ length (below (length whole)) =
        omega (arith, few_lost stamp threads events stock pool thread holds, left, length-below (length whole)) in
        let all : length (enumerate_from 0 segs) ≤ suc (length whole) = omega (arith, length-enumerate_from 0 segs, count) in
        ap (λ (n : ℕ). map buffer (drop lost (below n)) ++ (if hand.begun then hand ∷ [] else [])) left
        ∙ ap (λ (b : Bool). map buffer (drop lost (below (length whole))) ++ (if b then hand ∷ [] else [])) begun
        ∙ ap (λ (b : Filled). map buffer (drop lost (below (length whole))) ++ b ∷ []) own
        ∙ sym (map-append buffer (drop lost (below (length whole))) (length whole ∷ []))
        ∙ ap (map buffer) (sym (drop-append-le lost (below (length whole)) (length whole ∷ []) few))
        ∙ sym (map_pairs (drop lost (below (suc (length whole)))))
        ∙ ap (map (buffer_of stamp thread)) (sym (drop-map pair lost (below (suc (length whole)))))
        ∙ ap (λ (ps : List (ℕ × List Event)). map (buffer_of stamp thread) (drop lost ps))
        (numbered segs (suc (length whole)) (omega (arith, count)) ∙ take_all (suc (length whole)) (enumerate_from 0 segs) all)
      where
        pair : ℕ → ℕ × List Event
        pair i = (i, nth segs i)

        map_pairs : (ns : List ℕ) → map (buffer_of stamp thread) (map pair ns) ≡ map buffer ns
        map_pairs [] = refl
        map_pairs (n ∷ ns) = ap (λ (bs : List Filled). buffer n ∷ bs) (map_pairs ns)

-- the buffers of all threads, gathered thread by thread
pub all_gathered : (stamp : Stamp) (threads : ℕ) (events : Histories) (stock : Stock) (pool : Pool) → PoolHolds stamp threads events stock pool
    → flat_map (λ t. filter (is_of t) pool.queue ++ filter (is_of t) pool.hands.items) (numbers_from 1 threads)
    ≡ flat_map (λ t. buffers_after stamp (segments_among t stock.taken) t (segments_in stamp events t)) (numbers_from 1 threads)
all_gathered stamp threads events stock pool holds =
    flat_same _ _ 1 threads (λ t low high.
    let none : Filled = empty_buffer 0 in
    gathered_of stamp threads events stock pool t (get_or pool.hands.items (t - 1) none) (omega (arith, low)) holds
    (slice_get-get_or pool.hands.items (t - 1) none (omega (arith, low, high, holds.hand_count))))

pub sealed_are : (stamp : Stamp) (threads : ℕ) (events : Histories) (stock : Stock) (pool : Pool) → PoolHolds stamp threads events stock pool
    → pool.sealed.items ≡ map (λ t. length (segments_in stamp events t) - 1) (numbers_from 1 threads)
sealed_are stamp threads events stock pool holds =
    items_are pool.sealed.items (λ t. length (segments_in stamp events t) - 1) 1 threads holds.sealed_count (λ i k found.
    let flipped : i + 1 ≡ 1 + i = omega arith in
    holds.sealed i k found ∙ ap (λ (t : ℕ). length (segments_in stamp events t) - 1) flipped)

pub first_are : (stamp : Stamp) (threads : ℕ) (events : Histories) (stock : Stock) (pool : Pool) → PoolHolds stamp threads events stock pool
    → pool.first.items ≡ map (λ t. segments_among t stock.taken) (numbers_from 1 threads)
first_are stamp threads events stock pool holds =
    items_are pool.first.items (λ t. segments_among t stock.taken) 1 threads holds.first_count (λ i k found.
    let flipped : i + 1 ≡ 1 + i = omega arith in
    holds.first i k found ∙ ap (λ (t : ℕ). segments_among t stock.taken) flipped)

-- what is read twice at one place is the same
pub same_read : (xs : List Filled) (i : ℕ) (one again : Filled) → i < length xs → one ≡ get_or xs i one → again ≡ get_or xs i again → again ≡ one
same_read xs i one again within is is' =
    let here : slice_get xs i ≡ Some one = slice_get_read xs (length xs) i one refl within is in
    let there : slice_get xs i ≡ Some again = slice_get_read xs (length xs) i again refl within is' in
    let both : ◌≡◌ {A = Option Filled} (Some again) (Some one) = sym there ∙ here in cc

-- one more thread's buffers
pub gather_step : (queue hands : List Filled) (before : ℕ) (kept rest left mid last : List Filled)
    → kept ≡ flat_map (λ t. filter (is_of t) queue ++ filter (is_of t) hands) (numbers_from 1 before)
    → filter (is_of (before + 1)) rest ≡ filter (is_of (before + 1)) queue
    → filter (is_of (before + 1)) left ≡ filter (is_of (before + 1)) hands
    → mid ≡ kept ++ filter (is_of (before + 1)) rest → last ≡ mid ++ filter (is_of (before + 1)) left
    → last ≡ flat_map (λ t. filter (is_of t) queue ++ filter (is_of t) hands) (numbers_from 1 (before + 1))
gather_step queue hands before kept rest left mid last gathered of_rest of_left to_mid to_last =
    let F : ℕ → List Filled = λ t. filter (is_of t) queue ++ filter (is_of t) hands in
    let flipped : before + 1 ≡ 1 + before = omega arith in
    to_last ∙ ap (λ (xs : List Filled). xs ++ filter (is_of (before + 1)) left) to_mid
    ∙ append_assoc kept (filter (is_of (before + 1)) rest) (filter (is_of (before + 1)) left)
    ∙ ap (λ (xs : List Filled). kept ++ (xs ++ filter (is_of (before + 1)) left)) of_rest
    ∙ ap (λ (xs : List Filled). kept ++ (filter (is_of (before + 1)) queue ++ xs)) of_left
    ∙ ap (λ (xs : List Filled). xs ++ F (before + 1)) gathered
    ∙ ap (λ (t : ℕ). flat_map F (numbers_from 1 before) ++ F t) flipped
    ∙ ap (λ (xs : List Filled). flat_map F (numbers_from 1 before) ++ xs) (sym (append-nil (F (1 + before))))
    ∙ sym (flat_map-append F (numbers_from 1 before) ((1 + before) ∷ []))
    ∙ ap (flat_map F) (sym (numbers_push 1 before))
