-- The cut of events into segments, and the buffers of segments.
use Rattle.std.proofs.Common.{◌≡◌, ◌≢◌, ℕ, suc, ◌+◌, ◌≤◌, List, [], ◌∷◌, ◌++◌, false, refl, sym, subst, ap, ◌∙◌, arith, length, length-append, map, append_assoc}
use Rattle.std.specs.List.{AllByRecursion, enumerate_from, flat_map}
use mathlib.Core.List.{map-append}
use Rattle.std.proofs.lemmas.List.{length-map}
use Rattle.fdr_record.specs.declared.event.Event.{Event}
use Rattle.fdr_buffer.specs.Segments.{has_room, segments}
use Rattle.fdr_buffer.proofs.SegmentCuts.{hold_all, hold_some, is_cut}
use Rattle.traced_run.specs.Kept.{Stamp, buffer_of, buffers_after}

enumerated_more : {X : Type 0} (n : ℕ) (xs : List X) (x : X) → enumerate_from n (xs ++ x ∷ []) ≡ enumerate_from n xs ++ (n + length xs, x) ∷ []
enumerated_more n [] x =
    let here : n ≡ n + 0 = omega arith in
    ap (λ (k : ℕ). (k, x) ∷ []) here
enumerated_more n (y ∷ xs) x =
    let there : n + 1 + length xs ≡ n + suc (length xs) = omega arith in
    ap (λ ps. (n, y) ∷ ps) (enumerated_more (n + 1) xs x ∙ ap (λ (k : ℕ). enumerate_from (n + 1) xs ++ (k, x) ∷ []) there)

length_enumerated : {X : Type 0} (n : ℕ) (xs : List X) → length (enumerate_from n xs) ≡ length xs
length_enumerated n [] = refl
length_enumerated n (x ∷ xs) = ap suc (length_enumerated (n + 1) xs)

-- ---- the buffers of segments

-- one more segment
pub buffers_more : (stamp : Stamp) (thread : ℕ) (segs : List (List Event)) (events : List Event)
    → buffers_after stamp 0 thread (segs ++ events ∷ []) ≡ buffers_after stamp 0 thread segs ++ buffer_of stamp thread (length segs, events) ∷ []
buffers_more stamp thread segs events =
    let here : 0 + length segs ≡ length segs = omega arith in
    ap (map (buffer_of stamp thread)) (enumerated_more 0 segs events)
    ∙ map-append (buffer_of stamp thread) (enumerate_from 0 segs) ((0 + length segs, events) ∷ [])
    ∙ ap (λ (k : ℕ). buffers_after stamp 0 thread segs ++ buffer_of stamp thread (k, events) ∷ []) here

pub buffers_length : (stamp : Stamp) (thread : ℕ) (segs : List (List Event)) → length (buffers_after stamp 0 thread segs) ≡ length segs
buffers_length stamp thread segs = length-map (enumerate_from 0 segs) (buffer_of stamp thread) ∙ length_enumerated 0 segs

-- ---- segments

-- if there are no segments, there are no events
no_event : (size : ℕ) (events : List Event) → segments size events ≡ [] → events ≡ []
no_event size events none = sym (hold_all size events) ∙ ap (flat_map (λ s. s)) none

-- the first event begins a segment
pub begins_first : (size : ℕ) (events : List Event) (event : Event) → segments size events ≡ []
    → segments size (events ++ event ∷ []) ≡ segments size events ++ (event ∷ []) ∷ []
begins_first size events event none =
    let empty = no_event size events none in
    rw empty refl

-- an event that has no room begins a segment
pub begins_next : (size : ℕ) (events opened : List Event) (whole : List (List Event)) (event : Event) → segments size events ≡ whole ++ opened ∷ []
    → has_room size (opened ++ event ∷ []) ≡ false → segments size (events ++ event ∷ []) ≡ segments size events ++ (event ∷ []) ∷ []
begins_next size events opened whole event is full =
    is_cut size events opened whole event is full
    ∙ sym (append_assoc whole (opened ∷ []) ((event ∷ []) ∷ []))
    ∙ ap (λ (ss : List (List Event)). ss ++ (event ∷ []) ∷ []) (sym is)

-- there are at most as many segments as events
many : (segs : List (List Event)) → AllByRecursion (λ s. s ≢ []) segs → length segs ≤ length (flat_map (λ s. s) segs)
many [] some = omega arith
many ([] ∷ segs) (some, rest) = absurd (some refl)
many ((e ∷ es) ∷ segs) (some, rest) =
    let more = many segs rest in
    omega (arith, more, length-append es (flat_map (λ s. s) segs))

pub few_segments : (size : ℕ) (events : List Event) → length (segments size events) ≤ length events
few_segments size events =
    subst (λ (es : List Event). length (segments size events) ≤ length es) (hold_all size events) (many (segments size events) (hold_some size events))
