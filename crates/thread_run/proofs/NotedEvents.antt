-- One more event in what a thread has recorded.
use Rattle.std.proofs.Common.{◌≡◌, ℕ, ◌-◌, ◌<◌, ◌^◌, List, [], ◌∷◌, ◌++◌, true, false, true≢false, refl, sym, subst, ap, ◌∙◌, arith, length, length-append, inl, inr}
use Rattle.std.proofs.lemmas.Bool.{cases_Bool}
use Rattle.fdr_record.specs.declared.event.Event.{Event}
use Rattle.fdr_buffer.specs.Filled.{Filled}
use Rattle.fdr_buffer.specs.Segments.{has_room}
use Rattle.fdr_buffer.proofs.SegmentCuts.{joins}
use Rattle.buffer_queue.specs.Passes.{IsOf, PassIs, PoolIs, sealing}
use Rattle.traced_run.specs.Kept.{Stamp, buffer_of, buffers_after, stamp_of}
use Rattle.thread_run.specs.declared.exchange.Preamble.{Preamble}
use Rattle.thread_run.specs.Recordings.{HasSameOwner, Recording, StandsFor, segments_begun, segments_in}
use Rattle.thread_run.specs.private.Segments.{CutsAnew, IsNextOf, IsPreambleOf, StandsForMore, sealed_with}
use Rattle.thread_run.proofs.SegmentCuts.{begins_first, begins_next, buffers_length, buffers_more, few_segments}

-- ---- the hand

pub hand_size : (r : Recording) (events : List Event) → StandsFor r events → r.hand.size ≡ r.pass.setup.size
hand_size r events (StandsFor.unbegun none sealed hand) = ap (λ (b : Filled). b.size) hand
hand_size r events (StandsFor.begun whole last segs sealed hand) = ap (λ (b : Filled). b.size) hand

-- a hand with a segment can be sealed
pub hand_next : (r : Recording) (events : List Event) → StandsFor r events → length events < 2 ^ 32 - 1 → r.hand.begun ≡ true → IsNextOf r.pass r.hand
hand_next r events (StandsFor.unbegun none sealed hand) few is = absurd (true≢false (sym is ∙ ap (λ (b : Filled). b.begun) hand))
hand_next r events (StandsFor.begun whole last segs sealed hand) few is =
    let serial : r.hand.serial ≡ length whole = ap (λ (b : Filled). b.serial) hand in
    record {
      thread = ap (λ (b : Filled). b.thread) hand;
      serial = serial ∙ sym (ap length sealed ∙ buffers_length (stamp_of r.pass.setup) r.pass.thread whole);
      few = omega (arith, serial, few, few_segments r.pass.setup.size events, ap length segs, length-append whole (last ∷ []));
    }

-- as many segments were begun as the events are cut into
pub begun_are : (r : Recording) (events : List Event) → StandsFor r events → segments_begun r ≡ length (segments_in r events)
begun_are r events (StandsFor.unbegun none sealed hand) =
    let fresh : r.hand.begun ≡ false = ap (λ (b : Filled). b.begun) hand in
    rw (fresh, sealed, none) refl
begun_are r events (StandsFor.begun whole last segs sealed hand) =
    let is : r.hand.begun ≡ true = ap (λ (b : Filled). b.begun) hand in
    let count : length r.pass.sealed ≡ length whole = ap length sealed ∙ buffers_length (stamp_of r.pass.setup) r.pass.thread whole in
    rw is (omega (arith, count, ap length segs, length-append whole (last ∷ [])))

-- ---- an event that begins a segment

pub cuts_anew : (r : Recording) (events : List Event) (event : Event) → StandsFor r events
    → (r.hand.begun ≡ true → has_room r.hand.size (r.hand.events ++ event ∷ []) ≡ false) → CutsAnew r events event
cuts_anew r events event (StandsFor.unbegun none sealed hand) full = begins_first r.pass.setup.size events event none
cuts_anew r events event (StandsFor.begun whole last segs sealed hand) full =
    begins_next r.pass.setup.size events last whole event segs
    (ap (λ (b : Filled). has_room b.size (b.events ++ event ∷ [])) (sym hand) ∙ full (ap (λ (b : Filled). b.begun) hand))

-- ---- an event that joins the segment in hand

pub put_stands : (r : Recording) (events : List Event) (event : Event) → StandsFor r events → r.hand.begun ≡ true
    → has_room r.hand.size (r.hand.events ++ event ∷ []) ≡ true
    → StandsFor (record r { hand = record r.hand { events = r.hand.events ++ event ∷ [] } }) (events ++ event ∷ [])
put_stands r events event (StandsFor.unbegun none sealed hand) is room = absurd (true≢false (sym is ∙ ap (λ (b : Filled). b.begun) hand))
put_stands r events event (StandsFor.begun whole last segs sealed hand) is room =
    StandsFor.begun whole (last ++ event ∷ [])
    (joins r.pass.setup.size events last whole event segs (ap (λ (b : Filled). has_room b.size (b.events ++ event ∷ [])) (sym hand) ∙ room))
    sealed
    (ap (λ (b : Filled). record b { events = b.events ++ event ∷ [] }) hand)

-- ---- the next segment

pub sealed_if : (pass : PassIs) (hand : Filled) → hand.begun ≡ true → sealed_with pass hand ≡ sealing pass hand
sealed_if pass hand is = rw is refl

pub kept_if : (pass : PassIs) (hand : Filled) → hand.begun ≡ false → sealed_with pass hand ≡ pass
kept_if pass hand not_so = rw not_so refl

-- sealing keeps the pool and what the thread's segments begin with
pub sealed_stays : (P : PassIs → Type 0) (pass : PassIs) (hand : Filled) → P pass → P (sealing pass hand) → P (sealed_with pass hand)
sealed_stays P pass hand kept sealed =
    elim (cases_Bool hand.begun) [
      | inl so ↦ subst P (sym (sealed_if pass hand so)) sealed
      | inr not_so ↦ subst P (sym (kept_if pass hand not_so)) kept
    ]

pub sealed_of_pool : (pool : PoolIs) (pass : PassIs) (hand : Filled) → IsOf pool pass → IsOf pool (sealed_with pass hand)
sealed_of_pool pool pass hand is =
    sealed_stays (IsOf pool) pass hand is (record { same_pool = is.same_pool; same_setup = is.same_setup })

pub sealed_preamble : (preamble : Preamble) (pass : PassIs) (hand : Filled) → IsPreambleOf pass preamble → IsPreambleOf (sealed_with pass hand) preamble
sealed_preamble preamble pass hand is =
    sealed_stays (λ (p : PassIs). IsPreambleOf p preamble) pass hand is (record { thread = is.thread; wall = is.wall; pid = is.pid })

-- a recording with its next segment in hand
abbrev pub turned : Recording → PassIs → Event → Recording
turned r pass event =
    record { pass = pass; hand = buffer_of (stamp_of r.pass.setup) r.pass.thread (length pass.sealed, event ∷ []) }

turned_same : (r : Recording) (event : Event) → HasSameOwner r (turned r (sealed_with r.pass r.hand) event)
turned_same r event =
    sealed_stays (λ (p : PassIs). HasSameOwner r (turned r p event)) r.pass r.hand (record { pool = refl; setup = refl; thread = refl })
    (record { pool = refl; setup = refl; thread = refl })

turned_stands : (r : Recording) (events : List Event) (event : Event) → StandsFor r events → CutsAnew r events event
    → StandsFor (turned r (sealed_with r.pass r.hand) event) (events ++ event ∷ [])
turned_stands r events event (StandsFor.unbegun none sealed hand) anew =
    let not_so : r.hand.begun ≡ false = ap (λ (b : Filled). b.begun) hand in
    let serial : length r.pass.sealed ≡ 0 = ap length sealed in
    subst (λ (p : PassIs). StandsFor (turned r p event) (events ++ event ∷ [])) (sym (kept_if r.pass r.hand not_so))
    (StandsFor.begun [] (event ∷ [])
    (anew ∙ ap (λ (ss : List (List Event)). ss ++ (event ∷ []) ∷ []) none)
    sealed
    (ap (λ (k : ℕ). buffer_of (stamp_of r.pass.setup) r.pass.thread (k, event ∷ [])) serial))
turned_stands r events event (StandsFor.begun whole last segs sealed hand) anew =
    let stamp : Stamp = stamp_of r.pass.setup in
    let thread : ℕ = r.pass.thread in
    let is : r.hand.begun ≡ true = ap (λ (b : Filled). b.begun) hand in
    let all : r.pass.sealed ++ r.hand ∷ [] ≡ buffers_after stamp 0 thread (whole ++ last ∷ []) =
    ap (λ (bs : List Filled). bs ++ r.hand ∷ []) sealed
    ∙ ap (λ (b : Filled). buffers_after stamp 0 thread whole ++ b ∷ []) hand
    ∙ sym (buffers_more stamp thread whole last) in
    subst (λ (p : PassIs). StandsFor (turned r p event) (events ++ event ∷ [])) (sym (sealed_if r.pass r.hand is))
    (StandsFor.begun (whole ++ last ∷ []) (event ∷ [])
    (anew ∙ ap (λ (ss : List (List Event)). ss ++ (event ∷ []) ∷ []) segs)
    all
    (ap (λ (k : ℕ). buffer_of stamp thread (k, event ∷ [])) (ap length all ∙ buffers_length stamp thread (whole ++ last ∷ []))))

pub turn_stands : (r : Recording) (event : Event) → ((events : List Event) → StandsFor r events → CutsAnew r events event)
    → StandsForMore r (turned r (sealed_with r.pass r.hand) event) event
turn_stands r event anew = record {
  same = turned_same r event;
  stands = λ events at. turned_stands r events event at (anew events at);
}

-- what a turn leaves stands for one more event, however its parts are named
pub turn_leaves : (r old : Recording) (pass : PassIs) (hand : Filled) (event : Event) → old ≡ r
    → ((events : List Event) → StandsFor old events → CutsAnew old events event) → pass ≡ sealed_with r.pass r.hand
    → hand ≡ buffer_of (stamp_of r.pass.setup) r.pass.thread (length pass.sealed, event ∷ [])
    → StandsForMore old (record { pass = pass; hand = hand }) event
turn_leaves r old pass hand event same anew sealed begun =
    let new : Recording = record { pass = pass; hand = hand } in
    let is : new ≡ turned r (sealed_with r.pass r.hand) event =
    ap (λ (h : Filled). record { pass = pass; hand = h }) begun ∙ ap (λ (p : PassIs). turned r p event) sealed in
    let More : Recording → Type 0 = λ s. ((events : List Event) → StandsFor s events → CutsAnew s events event) → StandsForMore s new event in
    subst More (sym same) (λ cuts. subst (λ (n : Recording). StandsForMore r n event) (sym is) (turn_stands r event cuts)) anew

-- the next segment has a number
next_few : (r : Recording) (events : List Event) → StandsFor r events → length events < 2 ^ 32 - 1
    → length (sealed_with r.pass r.hand).sealed < 2 ^ 32 - 1
next_few r events (StandsFor.unbegun none sealed hand) few =
    let not_so : r.hand.begun ≡ false = ap (λ (b : Filled). b.begun) hand in
    subst (λ (p : PassIs). length p.sealed < 2 ^ 32 - 1) (sym (kept_if r.pass r.hand not_so)) (omega (arith, ap length sealed))
next_few r events (StandsFor.begun whole last segs sealed hand) few =
    let is : r.hand.begun ≡ true = ap (λ (b : Filled). b.begun) hand in
    subst (λ (p : PassIs). length p.sealed < 2 ^ 32 - 1) (sym (sealed_if r.pass r.hand is)) (omega (
      arith,
      few,
      few_segments r.pass.setup.size events,
      ap length segs,
      length-append whole (last ∷ []),
      ap length sealed,
      buffers_length (stamp_of r.pass.setup) r.pass.thread whole,
      length-append r.pass.sealed (r.hand ∷ []),
    ))

pub turn_few : (old r : Recording) (events : List Event) → old ≡ r → StandsFor old events → length events < 2 ^ 32 - 1
    → length (sealed_with r.pass r.hand).sealed < 2 ^ 32 - 1
turn_few old r events same at few = next_few r events (subst (λ (s : Recording). StandsFor s events) same at) few
