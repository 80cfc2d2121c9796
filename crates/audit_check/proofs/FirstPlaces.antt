-- The first place at which a test passes is the least one.
use Rattle.std.proofs.Common.{◌≡◌, ℕ, zero, suc, ◌+◌, ◌-◌, ◌≤◌, Bool, true, false, cond, Option, Some, None, refl, sym, ap, ◌∙◌, arith}
use Rattle.std.specs.Prelude.{◌||◌, min, not}
use Rattle.std.proofs.lemmas.Bool.{not-true}
use Rattle.audit_check.specs.Places.{first_among, first_place}
use Rattle.audit_check.specs.private.Judging.{lesser}
use Rattle.audit_check.specs.private.Turns.{IsLeast, IsMet}
use Rattle.audit_check.proofs.LeastEnds.{least_same}
use Rattle.audit_check.proofs.LeastPlaces.{first_least}
use Rattle.audit_check.proofs.SearchResults.{first_there, place_there}

least_is_first : (test : ℕ → Bool) (from bound : ℕ) (x : Option ℕ) → IsLeast (λ p. (from ≤ p) × (p ≤ bound) × (test p ≡ true)) x → x ≡ first_place test from bound
least_is_first test from bound x least = by (first_place test from bound) refl x least
  where
    by : (first : Option ℕ) → first_place test from bound ≡ first → (y : Option ℕ) → IsLeast (λ p. (from ≤ p) × (p ≤ bound) × (test p ≡ true)) y
        → y ≡ first_place test from bound
    by None e None never = sym e
    by None e (Some p) (holds, least) =
        let found = first_least test (bound + 1 - from) from p holds.2 holds.0 (omega (arith, holds.0, holds.1)) in
        absurd (let q : None ≡ Some found.0 = sym e ∙ found.1 in cc)
    by (Some q) e None never = let there = place_there test from bound q e in absurd (never q (there.low, there.high, there.passes))
    by (Some q) e (Some p) (holds, least) =
        let there = place_there test from bound q e in
        let low = least q (there.low, there.high, there.passes) in
        let found = first_least test (bound + 1 - from) from p holds.2 holds.0 (omega (arith, holds.0, holds.1)) in
        let same : Some q ≡ Some found.0 = sym e ∙ found.1 in
        let first : q ≡ found.0 = cc in
        let equal : p ≡ q = omega (arith, low, found.3, first) in
        ap Some equal ∙ sym e

-- where a word is on, or off
pub on_is_first : (on : ℕ → Bool) (from bound : ℕ) (x : Option ℕ) → IsLeast (IsMet on true from bound) x → x ≡ first_place on from bound
on_is_first on from bound x least =
    least_is_first on from bound x
    (least_same (IsMet on true from bound) (λ p. (from ≤ p) × (p ≤ bound) × (on p ≡ true)) x
    (λ p met. (met.low, met.high, met.is)) (λ p (low, high, is). record { low = low; high = high; is = is }) least)

pub off_is_first : (on : ℕ → Bool) (from bound : ℕ) (x : Option ℕ) → IsLeast (IsMet on false from bound) x → x ≡ first_place (λ p. not (on p)) from bound
off_is_first on from bound x least =
    least_is_first (λ p. not (on p)) from bound x
    (least_same (IsMet on false from bound) (λ p. (from ≤ p) × (p ≤ bound) × (not (on p) ≡ true)) x
    (λ p met. (met.low, met.high, ap not met.is)) (λ p (low, high, is). record { low = low; high = high; is = not-true (on p) is }) least)

-- ---- one of two tests

lesser_low : (from : ℕ) (y : Option ℕ) → ((q : ℕ) → y ≡ Some q → from ≤ q) → lesser (Some from) y ≡ Some from
lesser_low from None low = refl
lesser_low from (Some q) low = ap Some (let h = low q refl in let e : min from q ≡ from = omega (arith, h) in e)

lesser_high : (from : ℕ) (x : Option ℕ) → ((p : ℕ) → x ≡ Some p → from ≤ p) → lesser x (Some from) ≡ Some from
lesser_high from None low = refl
lesser_high from (Some p) low = ap Some (let h = low p refl in let e : min p from ≡ from = omega (arith, h) in e)

module _ (a b : ℕ → Bool) where
  both_among : (count from : ℕ) → lesser (first_among a count from) (first_among b count from) ≡ first_among (λ p. a p || b p) count from
  both_among zero from = refl
  both_among (suc count) from = by_tests (a from) (b from) refl refl (both_among count (from + 1))
    where
      by_tests : (p q : Bool) → a from ≡ p → b from ≡ q
          → lesser (first_among a count (from + 1)) (first_among b count (from + 1)) ≡ first_among (λ p. a p || b p) count (from + 1)
          → lesser (cond (a from) (Some from) (first_among a count (from + 1))) (cond (b from) (Some from) (first_among b count (from + 1)))
          ≡ cond (a from || b from) (Some from) (first_among (λ p. a p || b p) count (from + 1))
      by_tests true true e f rest = rw (e, f) (lesser_low from (Some from) (λ q is. omega (arith, (let same : from ≡ q = cc in same))))
      by_tests true false e f rest =
          rw (e, f) (lesser_low from (first_among b count (from + 1)) (λ q is. omega (arith, (first_there b count (from + 1) q is).0)))
      by_tests false true e f rest =
          rw (e, f) (lesser_high from (first_among a count (from + 1)) (λ p is. omega (arith, (first_there a count (from + 1) p is).0)))
      by_tests false false e f rest = rw (e, f) rest

  -- the first place at which one of them passes is the lesser of two
  pub either_is_first : (from bound : ℕ) (x y : Option ℕ) → x ≡ first_place a from bound → y ≡ first_place b from bound
      → lesser x y ≡ first_place (λ p. a p || b p) from bound
  either_is_first from bound x y e f =
      ap (λ (o : Option ℕ). lesser o y) e ∙ ap (λ (o : Option ℕ). lesser (first_place a from bound) o) f ∙ both_among (bound + 1 - from) from

  lesser_most : (x y : Option ℕ) (at first : ℕ) → lesser x y ≡ Some at → x ≡ Some first → at ≤ first
  lesser_most None y at first e f = absurd cc
  lesser_most (Some p) None at first e f = let same : p ≡ at = cc in let same' : p ≡ first = cc in omega (arith, same, same')
  lesser_most (Some p) (Some q) at first e f =
      let same : min p q ≡ at = cc in let same' : p ≡ first = cc in omega (arith, same, same')

  -- there the first of them passes if and only if it is the place at which it first passes
  pub first_at : (from bound at : ℕ) (x : Option ℕ) → x ≡ first_place a from bound → x ≡ Some at → a at ≡ true
  first_at from bound at x e f = (place_there a from bound at (sym e ∙ f)).passes

  pub not_first_at : (from bound at : ℕ) (x y : Option ℕ) → x ≡ first_place a from bound → y ≡ first_place b from bound → lesser x y ≡ Some at
      → (x ≡ Some at → ⊥) → a at ≡ false
  not_first_at from bound at x y e f least other = by (a at) refl
    where
      by : (test : Bool) → a at ≡ test → a at ≡ false
      by false is = is
      by true is =
          let there = place_there (λ p. a p || b p) from bound at (sym (either_is_first from bound x y e f) ∙ least) in
          let found = first_least a (bound + 1 - from) from at is there.low (omega (arith, there.low, there.high)) in
          let first : x ≡ Some found.0 = e ∙ found.1 in
          let high = lesser_most x y at found.0 least first in
          let same : found.0 ≡ at = omega (arith, high, found.3) in
          absurd (other (first ∙ ap Some same))
