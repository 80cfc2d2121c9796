-- The bound of a passing, by the waits of a script.
use Rattle.std.proofs.Common.{◌≡◌, ℕ, zero, suc, ◌+◌, ◌<◌, ◌≤◌, ◌==◌, Bool, true, false, List, [], ◌∷◌, ◌++◌, length, Some, refl, ap, ◌∙◌, arith, inl, inr}
use Rattle.std.specs.Prelude.{nat_lt, slice_get}
use Rattle.std.specs.List.{position_or_len}
use Rattle.std.proofs.lemmas.Bool.{and_cases, and_left, and_right, le-ltb, ltb-false}
use Rattle.patch_script.specs.declared.micro.Micro.{Micro}
use Rattle.patch_script.specs.declared.micro.Micro.TheVariants.{Store, Await, End}
use Rattle.patch_script.specs.Bounds.{awaits_passing}
use Rattle.audit_check.specs.declared.switches.Awaited.{Awaited}
use Rattle.audit_check.specs.private.Judging.{bounds_passing}
use Rattle.audit_check.specs.private.Switches.{awaits_from}

-- a wait that doesn't bound a passing bounds no later one
pub bounds_later : (thread passing : ℕ) (awaited : Awaited) → bounds_passing thread passing awaited ≡ false
    → bounds_passing thread (passing + 1) awaited ≡ false
bounds_later thread passing awaited none = elim (and_cases (awaited.thread == thread) (nat_lt passing awaited.count) none) [
  | inl other ↦ and_left (awaited.thread == thread) (nat_lt (passing + 1) awaited.count) other
  | inr past ↦ and_right (awaited.thread == thread) (nat_lt (passing + 1) awaited.count)
      (le-ltb (passing + 1) awaited.count (let low = ltb-false passing awaited.count past in omega arith))
]

pub awaits-append : (place : ℕ) (xs ys : List Micro) → awaits_from place (xs ++ ys) ≡ awaits_from place xs ++ awaits_from (place + length xs) ys
awaits-append place [] ys = let same : place ≡ place + 0 = omega arith in ap (λ n. awaits_from n ys) same
awaits-append place (Store word value ∷ xs) ys =
    let same : place + 1 + length xs ≡ place + length (Store word value ∷ xs) = omega arith in
    awaits-append (place + 1) xs ys ∙ ap (λ n. awaits_from (place + 1) xs ++ awaits_from n ys) same
awaits-append place (Await thread count ∷ xs) ys =
    let same : place + 1 + length xs ≡ place + length (Await thread count ∷ xs) = omega arith in
    ap (λ (l : List Awaited). record { place = place; thread = thread; count = count } ∷ l)
    (awaits-append (place + 1) xs ys ∙ ap (λ n. awaits_from (place + 1) xs ++ awaits_from n ys) same)
awaits-append place (End ∷ xs) ys =
    let same : place + 1 + length xs ≡ place + length (End ∷ xs) = omega arith in
    awaits-append (place + 1) xs ys ∙ ap (λ n. awaits_from (place + 1) xs ++ awaits_from n ys) same

module _ (thread passing : ℕ) where
  -- none of the first waits bounds the passing
  abbrev NoneBefore : ℕ → List Awaited → Type 0
  NoneBefore count awaits =
      (i : ℕ) (awaited : Awaited) → i < count → slice_get awaits i ≡ Some awaited → bounds_passing thread passing awaited ≡ false

  earlier : (count : ℕ) (first : Awaited) (awaits : List Awaited) → NoneBefore (suc count) (first ∷ awaits) → NoneBefore count awaits
  earlier count first awaits none = λ i awaited low is. none (suc i) awaited (omega arith) is

  position_passed : (steps : List Micro) (step : Micro) → awaits_passing thread passing step ≡ false
      → position_or_len (awaits_passing thread passing) (step ∷ steps) ≡ 1 + position_or_len (awaits_passing thread passing) steps
  position_passed steps step none = rw none (omega arith)

  position_met : (steps : List Micro) (step : Micro) → awaits_passing thread passing step ≡ true
      → position_or_len (awaits_passing thread passing) (step ∷ steps) ≡ 0
  position_met steps step met = rw met refl

  -- the first wait that bounds it
  pub bound_at : (place : ℕ) (steps : List Micro) (number : ℕ) (awaited : Awaited) → slice_get (awaits_from place steps) number ≡ Some awaited
      → NoneBefore number (awaits_from place steps) → bounds_passing thread passing awaited ≡ true
      → awaited.place ≡ place + position_or_len (awaits_passing thread passing) steps
  bound_at place [] number awaited is none met = absurd cc
  bound_at place (Store word value ∷ steps) number awaited is none met =
      let later = bound_at (place + 1) steps number awaited is none met in
      let skip = position_passed steps (Store word value) refl in omega arith
  bound_at place (End ∷ steps) number awaited is none met =
      let later = bound_at (place + 1) steps number awaited is none met in
      let skip = position_passed steps End refl in omega arith
  bound_at place (Await other count ∷ steps) zero awaited is none met =
      let same : record { place = place; thread = other; count = count } ≡ awaited = cc in
      let here : awaits_passing thread passing (Await other count) ≡ true =
      ap (λ (a : Awaited). bounds_passing thread passing a) same ∙ met in
      let at = position_met steps (Await other count) here in
      let there : place ≡ awaited.place = ap (λ (a : Awaited). a.place) same in omega arith
  bound_at place (Await other count ∷ steps) (suc number) awaited is none met =
      let first : Awaited = record { place = place; thread = other; count = count } in
      let past : awaits_passing thread passing (Await other count) ≡ false = none 0 first (omega arith) refl in
      let later = bound_at (place + 1) steps number awaited is (earlier number first (awaits_from (place + 1) steps) none) met in
      let skip = position_passed steps (Await other count) past in omega arith

  -- there is none
  pub no_bound : (place : ℕ) (steps : List Micro) → NoneBefore (length (awaits_from place steps)) (awaits_from place steps)
      → position_or_len (awaits_passing thread passing) steps ≡ length steps
  no_bound place [] none = refl
  no_bound place (Store word value ∷ steps) none =
      let later = no_bound (place + 1) steps none in
      let skip = position_passed steps (Store word value) refl in omega arith
  no_bound place (End ∷ steps) none =
      let later = no_bound (place + 1) steps none in
      let skip = position_passed steps End refl in omega arith
  no_bound place (Await other count ∷ steps) none =
      let first : Awaited = record { place = place; thread = other; count = count } in
      let past : awaits_passing thread passing (Await other count) ≡ false = none 0 first (omega arith) refl in
      let later = no_bound (place + 1) steps (earlier (length (awaits_from (place + 1) steps)) first (awaits_from (place + 1) steps) none) in
      let skip = position_passed steps (Await other count) past in omega arith

  -- no bound is after the whole script
  pub bound_within : (steps : List Micro) → position_or_len (awaits_passing thread passing) steps ≤ length steps
  bound_within [] = omega arith
  bound_within (step ∷ steps) = by (awaits_passing thread passing step) refl (bound_within steps)
    where
      by : (b : Bool) → awaits_passing thread passing step ≡ b → position_or_len (awaits_passing thread passing) steps ≤ length steps
          → position_or_len (awaits_passing thread passing) (step ∷ steps) ≤ length (step ∷ steps)
      by true met rest = let at = position_met steps step met in omega arith
      by false none rest = let skip = position_passed steps step none in omega (arith, skip, rest)
