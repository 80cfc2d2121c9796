-- The places at which a word turns on and off, and the least places at which something holds.
use Rattle.std.specs.Prelude.{◌≡◌, ◌<◌, ◌≤◌, ◌+◌, ◌%◌, ◌==◌, ℕ, Bool, List, length, Option, Some, None, slice_get}

abbrev pub is_odd : ℕ → Bool
is_odd number = number % 2 == 1

-- this many of the places are up to a place, and all others are after it
pub record AreMade (places : List ℕ) (place made : ℕ) : Type 0 where
  pub within : made ≤ length places
  pub before : (i at : ℕ) → i < made → slice_get places i ≡ Some at → at ≤ place
  pub after : (i at : ℕ) → made ≤ i → slice_get places i ≡ Some at → place < at

-- A word turns at these places, which rise. It is first off. Up to a last place, `on` says at which places it is on.
pub record IsTurned (on : ℕ → Bool) (last : ℕ) (places : List ℕ) : Type 0 where
  pub rise : (i at next : ℕ) → slice_get places i ≡ Some at → slice_get places (i + 1) ≡ Some next → at < next
  pub within : (i at : ℕ) → slice_get places i ≡ Some at → at ≤ last
  pub tell : (place made : ℕ) → place ≤ last → AreMade places place made → on place ≡ is_odd made

-- a place from `from` on, and within `bound`, at which the word is on or off
pub record IsMet (on : ℕ → Bool) (wants : Bool) (from bound at : ℕ) : Type 0 where
  pub low : from ≤ at
  pub high : at ≤ bound
  pub is : on at ≡ wants

-- the least number of which this holds, or none if it holds of none
abbrev pub IsLeast : (ℕ → Type 0) → Option ℕ → Type 0
IsLeast Holds None = (n : ℕ) → Holds n → ⊥
IsLeast Holds (Some least) = Holds least × ((n : ℕ) → Holds n → least ≤ n)
