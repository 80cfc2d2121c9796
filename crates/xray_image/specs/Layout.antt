-- How units and sleds lie in every image.
use Rattle.std.specs.Prelude.{◌≡◌, ◌+◌, ℕ, List, length, Some, slice_get, IfSome, IsSomeAnd}
use Rattle.subset_decode.specs.Encoding.{spelling}
use Rattle.xray_image.specs.declared.sled.Sled.{Sled}
use Rattle.xray_image.specs.declared.unit.Unit.{Unit}
use Rattle.xray_image.specs.declared.unit.What.{What}
use Rattle.xray_image.specs.declared.unit.What.TheVariants as whats

-- how long a unit is in bytes
abbrev pub width_of : What → ℕ
width_of (whats.Plain instr) = length (spelling instr)
width_of (whats.Sled k) = 11
width_of whats.Pad = 1

-- the first unit begins at the base, and each other one where the one before it ends
pub record AreContiguous (base : ℕ) (units : List Unit) : Type 0 where
  pub first : IfSome (slice_get units 0) (λ u. u.address ≡ base)
  pub next : (i : ℕ) (u v : Unit) → slice_get units i ≡ Some u → slice_get units (i + 1) ≡ Some v → v.address ≡ u.address + width_of u.what

-- the sled that a unit names is at the unit's address
abbrev pub SledsStand : List Unit → List Sled → Type 0
SledsStand units sleds =
    (i k : ℕ) (u : Unit) → slice_get units i ≡ Some u → u.what ≡ whats.Sled k → IsSomeAnd (slice_get sleds k) (λ s. s.address ≡ u.address)
