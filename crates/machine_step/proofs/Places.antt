-- Units by their places and their addresses.
use Rattle.std.proofs.Common.{◌≡◌, ◌≢◌, ℕ, zero, suc, ◌+◌, ◌<◌, ◌==◌, Bool, true, false, List, [], ◌∷◌, length, Some, refl, ap, inl, inr, arith}
use Rattle.std.specs.Prelude.{slice_get, Contains}
use Rattle.std.proofs.lemmas.Bool.{eqb-true, eqb-false}
use Rattle.std.proofs.lemmas.List.{length-map}
use Rattle.std.proofs.lemmas.Option.{slice_get_within}
use Rattle.xray_image.specs.declared.unit.Unit.{Unit}
use Rattle.xray_image.specs.Program.{addresses}
use Rattle.machine_step.specs.private.Steps.{IsPlaceOf}

-- a unit that was found is among the units
pub found_contains : (units : List Unit) (i : ℕ) (u : Unit) → slice_get units i ≡ Some u → Contains units u
found_contains [] i u found = absurd cc
found_contains (first ∷ units) zero u found = let same : first ≡ u = cc in (zero, omega arith, same)
found_contains (first ∷ units) (suc i) u found =
    let later = found_contains units i u found in (suc later.0, omega (arith, later.1), later.2)

-- the address of a unit is among the addresses
pub contains_address : (units : List Unit) (u : Unit) → Contains units u → Contains (addresses units) u.address
contains_address [] u (i, below, is) = absurd (omega arith)
contains_address (first ∷ units) u (zero, below, is) =
    let same : first.address ≡ u.address = ap (λ (v : Unit). v.address) is in (zero, omega arith, same)
contains_address (first ∷ units) u (suc i, below, is) =
    let later = contains_address units u (i, omega arith, is) in (suc later.0, omega (arith, later.1), later.2)

-- an address that was found is that of a unit
pub found_address : (units : List Unit) (i a : ℕ) → slice_get (addresses units) i ≡ Some a
    → (u : Unit) × (slice_get units i ≡ Some u) × (u.address ≡ a)
found_address [] i a found = absurd cc
found_address (first ∷ units) zero a found = let same : first.address ≡ a = cc in (first, refl, same)
found_address (first ∷ units) (suc i) a found = found_address units i a found

-- after a first unit that begins elsewhere, each place is one more
pub place_more : (first : Unit) (units : List Unit) (a i : ℕ) → first.address ≢ a → IsPlaceOf units a i → IsPlaceOf (first ∷ units) a (suc i)
place_more first units a i other (inl found) = inl found
place_more first units a i other (inr (last, none)) = inr (ap suc last, among)
  where
    among : Contains (addresses (first ∷ units)) a → ⊥
    among (zero, below, is) = other is
    among (suc k, below, is) = none (k, omega arith, is)

-- each address has a place
place_after : (first : Unit) (units : List Unit) (a : ℕ) (here : Bool) → (first.address == a) ≡ here
    → (i : ℕ) × IsPlaceOf units a i → (i : ℕ) × IsPlaceOf (first ∷ units) a i
place_after first units a true is later = (zero, inl (ap Some (eqb-true first.address a is)))
place_after first units a false is (i, place) = (suc i, place_more first units a i (eqb-false first.address a is) place)

pub has_place : (units : List Unit) (a : ℕ) → (i : ℕ) × IsPlaceOf units a i
has_place [] a = (zero, inr (refl, λ among. omega (arith, among.1)))
has_place (first ∷ units) a = place_after first units a (first.address == a) refl (has_place units a)

-- a place is that of a unit, or the one after the units
pub place_within : (units : List Unit) (a i : ℕ) → IsPlaceOf units a i → i < length units + 1
place_within units a i (inl found) =
    let below = slice_get_within (addresses units) i a found in omega (arith, length-map units (λ u. u.address))
place_within units a i (inr (last, none)) = omega arith
