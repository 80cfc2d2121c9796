-- CPUs that fit the byte for them.
use Rattle.std.proofs.Common.{◌≡◌, ◌∙◌, ◌+◌, ◌<◌, ◌≤◌, ◌++◌, ℕ, Bool, true, false, List, [], ◌∷◌, Some, None, inl, inr, refl, sym, ap, arith}
use Rattle.std.specs.Prelude.{nat_lt}
use Rattle.std.specs.List.{position_from}
use Rattle.std.proofs.lemmas.Bool.{cases_Bool, le-ltb, lt-ltb, ltb-false}
use Rattle.std.proofs.lemmas.Iterator.Adapters.{position_from-zero}
use Rattle.fdr_file.specs.ThreadEvents.{ThreadEvent}
use Rattle.trace_forms.specs.BasicLogs.{wide_cpu}

-- the CPU of the event doesn't fit
abbrev pub is_wide : ThreadEvent → Bool
is_wide e = nat_lt 255 e.event.cpu

-- the first such event of those from a number on
pub wide_from_zero : (events : List ThreadEvent) → wide_cpu events ≡ position_from is_wide 0 events
wide_from_zero events = position_from-zero is_wide events

-- none of them is one, whichever number they are counted from
none_from : (from start : ℕ) (events : List ThreadEvent) → position_from is_wide from events ≡ None → position_from is_wide start events ≡ None
none_from from start [] none = refl
none_from from start (e ∷ events) none =
    elim (cases_Bool (is_wide e)) [
      | inl wide ↦ let h = rw wide at none in absurd cc
      | inr narrow ↦ rw narrow (none_from (from + 1) (start + 1) events (rw narrow at none))
    ]

pub narrow_later : (e : ThreadEvent) (events : List ThreadEvent) → wide_cpu (e ∷ events) ≡ None → wide_cpu events ≡ None
narrow_later e events none =
    let counted = sym (wide_from_zero (e ∷ events)) ∙ none in
    elim (cases_Bool (is_wide e)) [
      | inl wide ↦ let h = rw wide at counted in absurd cc
      | inr narrow ↦ wide_from_zero events ∙ none_from 1 0 events (rw narrow at counted)
    ]

pub narrow_first : (e : ThreadEvent) (events : List ThreadEvent) → wide_cpu (e ∷ events) ≡ None → e.event.cpu ≤ 255
narrow_first e events none =
    let counted = sym (wide_from_zero (e ∷ events)) ∙ none in
    elim (cases_Bool (is_wide e)) [
      | inl wide ↦ let h = rw wide at counted in absurd cc
      | inr narrow ↦ ltb-false 255 e.event.cpu narrow
    ]

-- an event whose CPU fits, before others
narrow_before : (e : ThreadEvent) (events : List ThreadEvent) → e.event.cpu ≤ 255 → wide_cpu events ≡ None → wide_cpu (e ∷ events) ≡ None
narrow_before e events low none =
    let narrow : is_wide e ≡ false = le-ltb 255 e.event.cpu low in
    wide_from_zero (e ∷ events) ∙ rw narrow (none_from 0 1 events (sym (wide_from_zero events) ∙ none))

-- and after others
pub narrow_more : (events : List ThreadEvent) (e : ThreadEvent) → wide_cpu events ≡ None → e.event.cpu < 256 → wide_cpu (events ++ e ∷ []) ≡ None
narrow_more [] e none low = narrow_before e [] (omega arith) refl
narrow_more (f ∷ events) e none low =
    narrow_before f (events ++ e ∷ []) (narrow_first f events none) (narrow_more events e (narrow_later f events none) low)

-- the next of them isn't one
pub narrow_on : (number : ℕ) (left later : List ThreadEvent) (e : ThreadEvent) → left ≡ e ∷ later → e.event.cpu ≤ 255
    → position_from is_wide (number + 1) later ≡ position_from is_wide number left
narrow_on number left later e is low =
    let narrow : is_wide e ≡ false = le-ltb 255 e.event.cpu low in
    let here : position_from is_wide number (e ∷ later) ≡ position_from is_wide (number + 1) later = rw narrow refl in
    sym (ap (position_from is_wide number) is ∙ here)

-- the next of them is one
pub wide_here : (number : ℕ) (left later : List ThreadEvent) (e : ThreadEvent) → left ≡ e ∷ later → 255 < e.event.cpu
    → Some number ≡ position_from is_wide number left
wide_here number left later e is high =
    let wide : is_wide e ≡ true = lt-ltb 255 e.event.cpu high in
    let here : position_from is_wide number (e ∷ later) ≡ Some number = rw wide refl in
    sym (ap (position_from is_wide number) is ∙ here)

-- there are no more
pub wide_nowhere : (number : ℕ) (left : List ThreadEvent) → left ≡ [] → None ≡ position_from is_wide number left
wide_nowhere number left none = sym (ap (position_from is_wide number) none)
