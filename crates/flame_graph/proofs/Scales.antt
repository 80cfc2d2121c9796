-- Places in units, and in thousandths of a pixel.
use Rattle.std.proofs.Common.{◌≡◌, ◌<◌, ◌≤◌, ◌*◌, ◌/◌, ◌^◌, ◌∙◌, ℕ, zero, suc, refl, ap, arith, Bool, true, false, ltb, cond}
use Rattle.std.proofs.Math.Nat.{div-zero, mul-div_cancel_left, zero-div, le-div_iff_mul-le, div-mul-le_self, mul-le-mul_right}
use Rattle.std.proofs.lemmas.Bool.{ltb-false}
use Rattle.flame_graph.specs.Picture.{across, thousandths_at, unit_of}

-- what is less stays less in greater units
pub units_le : (a b u : ℕ) → 0 < u → a ≤ b → a / u ≤ b / u
units_le a b u some less = let low = div-mul-le_self a u in (le-div_iff_mul-le {k = u} {x = a / u} {y = b} some).1 (omega (arith, low, less))

some_unit : (total : ℕ) → (t : Bool) → 0 < cond t 1 (2 ^ 21)
some_unit total true = omega arith
some_unit total false = omega arith

pub unit_some : (total : ℕ) → 0 < unit_of total
unit_some total = some_unit total (ltb total (2 ^ 107))

-- ---- thousandths

div_le : (a b n : ℕ) → a ≤ b → a / n ≤ b / n
div_le a b zero less = let one = div-zero a in let other = div-zero b in omega (arith, one, other)
div_le a b (suc n) less = units_le a b (suc n) (omega arith) less

-- what is farther to the right is drawn no farther to the left
pub thousandths_le : (total a b : ℕ) → a ≤ b → thousandths_at total a ≤ thousandths_at total b
thousandths_le total a b less =
    div_le (a / unit_of total * across) (b / unit_of total * across) (total / unit_of total) (mul-le-mul_right across (div_le a b (unit_of total) less))

-- nothing is at the left end
pub at_none : (total : ℕ) → thousandths_at total 0 ≡ 0
at_none total = ap (λ (n : ℕ). n * across / (total / unit_of total)) (zero-div (unit_of total)) ∙ zero-div (total / unit_of total)

-- the whole ends at the right end
some_units : (total : ℕ) → 0 < total → 0 < total / unit_of total
some_units total some = by_test (ltb total (2 ^ 107)) refl
  where
    by_test : (t : Bool) → ltb total (2 ^ 107) ≡ t → 0 < total / cond t 1 (2 ^ 21)
    by_test true is = omega (arith, some)
    by_test false is = omega (arith, ltb-false total (2 ^ 107) is)

pub at_whole : (total : ℕ) → 0 < total → thousandths_at total total ≡ across
at_whole total some = mul-div_cancel_left across (some_units total some)
