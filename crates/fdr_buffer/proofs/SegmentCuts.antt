-- The cut of events into segments.
use Rattle.std.proofs.Common.{◌≡◌, ◌≢◌, ℕ, ◌≤◌, true, false, List, [], ◌∷◌, ◌++◌, length, refl, ap, ◌∙◌, append_assoc, arith, inl, inr}
use Rattle.std.proofs.lemmas.Bool.{cases_Bool, le-leb}
use Rattle.std.proofs.lemmas.List.{append-nil}
use Rattle.std.specs.List.{flat_map, AllByRecursion}
use Rattle.std.specs.Prelude.{if◌then◌else◌}
use Rattle.fdr_record.specs.declared.event.Event.{Event}
use Rattle.fdr_record.specs.declared.event.Kind.{Kind}
use Rattle.fdr_record.specs.declared.event.Kind.TheVariants.{Entry, Exit, TailExit, EntryArgs}
use Rattle.fdr_buffer.specs.declared.buffer.TheConstants.{LEAST_SIZE}
use Rattle.fdr_buffer.specs.Segments.{arg_records, bytes_of, has_room, records_on_new_cpu, segment_bytes, segments_from, segments}

-- the last segment and the next event
abbrev pub with_next : ℕ → List Event → Event → List (List Event)
with_next size opened event = if has_room size (opened ++ event ∷ []) then (opened ++ event ∷ []) ∷ [] else opened ∷ (event ∷ []) ∷ []

from_not_empty : (size : ℕ) (opened events : List Event) → segments_from size opened events ≢ []
from_not_empty size opened [] e = absurd cc
from_not_empty size opened (event ∷ events) e =
    elim (cases_Bool (has_room size (opened ++ event ∷ []))) [
      | inl room ↦ from_not_empty size (opened ++ event ∷ []) events (rw room at e)
      | inr none ↦ let e' = rw none at e in absurd cc
    ]

from_grows : (size : ℕ) (start events opened : List Event) (whole : List (List Event)) (event : Event) → segments_from size start events ≡ whole ++ opened ∷ [] → segments_from size start (events ++ event ∷ []) ≡ whole ++ with_next size opened event
from_grows size start [] opened [] event e =
    let same : start ≡ opened = cc in
    rw same refl
from_grows size start [] opened (s ∷ []) event e = absurd cc
from_grows size start [] opened (s ∷ t ∷ whole) event e = absurd cc
from_grows size start (next ∷ events) opened [] event e =
    elim (cases_Bool (has_room size (start ++ next ∷ []))) [
      | inl room ↦ rw room (from_grows size (start ++ next ∷ []) events opened [] event (rw room at e))
      | inr full ↦
          let e' = rw full at e in
          let no : segments_from size (next ∷ []) events ≡ [] = cc in
          absurd (from_not_empty size (next ∷ []) events no)
    ]
from_grows size start (next ∷ events) opened (s ∷ whole) event e =
    elim (cases_Bool (has_room size (start ++ next ∷ []))) [
      | inl room ↦ rw room (from_grows size (start ++ next ∷ []) events opened (s ∷ whole) event (rw room at e))
      | inr full ↦
          let e' = rw full at e in
          let first : start ≡ s = cc in
          let others : segments_from size (next ∷ []) events ≡ whole ++ opened ∷ [] = cc in
          rw (full, first, from_grows size (next ∷ []) events opened whole event others) refl
    ]

segments_grow : (size : ℕ) (events opened : List Event) (whole : List (List Event)) (event : Event) → segments size events ≡ whole ++ opened ∷ [] → segments size (events ++ event ∷ []) ≡ whole ++ with_next size opened event
segments_grow size [] opened [] event e = absurd cc
segments_grow size [] opened (s ∷ whole) event e = absurd cc
segments_grow size (first ∷ events) opened whole event e = from_grows size (first ∷ []) events opened whole event e

pub joins : (size : ℕ) (events opened : List Event) (whole : List (List Event)) (event : Event) → segments size events ≡ whole ++ opened ∷ [] → has_room size (opened ++ event ∷ []) ≡ true → segments size (events ++ event ∷ []) ≡ whole ++ (opened ++ event ∷ []) ∷ []
joins size events opened whole event e room = rw room at (segments_grow size events opened whole event e)

pub is_cut : (size : ℕ) (events opened : List Event) (whole : List (List Event)) (event : Event) → segments size events ≡ whole ++ opened ∷ [] → has_room size (opened ++ event ∷ []) ≡ false → segments size (events ++ event ∷ []) ≡ whole ++ opened ∷ (event ∷ []) ∷ []
is_cut size events opened whole event e full = rw full at (segments_grow size events opened whole event e)

from_holds : (size : ℕ) (opened events : List Event) → flat_map (λ s. s) (segments_from size opened events) ≡ opened ++ events
from_holds size opened [] = refl
from_holds size opened (event ∷ events) =
    elim (cases_Bool (has_room size (opened ++ event ∷ []))) [
      | inl room ↦ rw room (from_holds size (opened ++ event ∷ []) events ∙ append_assoc opened (event ∷ []) events)
      | inr full ↦ rw full (ap (λ (es : List Event). opened ++ es) (from_holds size (event ∷ []) events))
    ]

pub hold_all : (size : ℕ) (events : List Event) → flat_map (λ s. s) (segments size events) ≡ events
hold_all size [] = refl
hold_all size (event ∷ events) = from_holds size (event ∷ []) events

push_not_empty : (events : List Event) (event : Event) → events ++ event ∷ [] ≢ []
push_not_empty [] event e = absurd cc
push_not_empty (first ∷ events) event e = absurd cc

one_not_empty : (event : Event) → event ∷ [] ≢ []
one_not_empty event e = absurd cc

from_some : (size : ℕ) (opened events : List Event) → opened ≢ [] → AllByRecursion (λ s. s ≢ []) (segments_from size opened events)
from_some size opened [] some = (some, tt)
from_some size opened (event ∷ events) some =
    elim (cases_Bool (has_room size (opened ++ event ∷ []))) [
      | inl room ↦ rw room (from_some size (opened ++ event ∷ []) events (push_not_empty opened event))
      | inr full ↦ rw full (some, from_some size (event ∷ []) events (one_not_empty event))
    ]

pub hold_some : (size : ℕ) (events : List Event) → AllByRecursion (λ s. s ≢ []) (segments size events)
hold_some size [] = tt
hold_some size (event ∷ events) = from_some size (event ∷ []) events (one_not_empty event)

-- every buffer has room for one event
arg_short : (kind : Kind) (arg : ℕ) → length (bytes_of (arg_records kind arg)) ≤ 16
arg_short Entry arg = omega arith
arg_short Exit arg = omega arith
arg_short TailExit arg = omega arith
arg_short EntryArgs arg = omega arith

one_has_room : (size : ℕ) (event : Event) → LEAST_SIZE ≤ size → has_room size (event ∷ []) ≡ true
one_has_room size event least =
    let all : segment_bytes (event ∷ []) ≡ bytes_of (records_on_new_cpu event) = ap bytes_of (append-nil (records_on_new_cpu event)) in
    le-leb _ _ (omega (arith, ap length all, arg_short event.kind event.arg, least))

from_room : (size : ℕ) (opened events : List Event) → LEAST_SIZE ≤ size → has_room size opened ≡ true → AllByRecursion (λ s. has_room size s ≡ true) (segments_from size opened events)
from_room size opened [] least fits = (fits, tt)
from_room size opened (event ∷ events) least fits =
    elim (cases_Bool (has_room size (opened ++ event ∷ []))) [
      | inl room ↦ rw room (from_room size (opened ++ event ∷ []) events least room)
      | inr full ↦ rw full (fits, from_room size (event ∷ []) events least (one_has_room size event least))
    ]

pub hold_room : (size : ℕ) (events : List Event) → LEAST_SIZE ≤ size → AllByRecursion (λ s. has_room size s ≡ true) (segments size events)
hold_room size [] least = tt
hold_room size (event ∷ events) least = from_room size (event ∷ []) events least (one_has_room size event least)
