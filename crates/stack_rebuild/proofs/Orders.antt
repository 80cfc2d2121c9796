-- The numbers below a count, in any order.
use Rattle.std.proofs.Common.{◌≡◌, ◌+◌, ◌<◌, ◌≤◌, ℕ, zero, suc, Bool, true, false, List, ◌++◌, [], ◌∷◌, refl, ap, arith, nat_eq, inl, inr}
use Rattle.std.specs.Prelude.{IsPermutation, All}
use Rattle.std.specs.List.{AllByRecursion, IsDistinct, range_with_len}
use Rattle.std.proofs.lemmas.Bool.Decides.{nat_tests}
use Rattle.std.proofs.lemmas.List.Elements.{All-cons, All-nil}
use Rattle.std.proofs.lemmas.List.Sorted.{All-permutation}
use Rattle.std.proofs.lemmas.Map.Keys.{IsDistinct-IsPermutation, IsDistinct-cons}
use Rattle.std.proofs.lemmas.Cmp.{nat_eq_equiv}
use Rattle.stack_rebuild.proofs.Items.{IsIn, in_permutation}

-- one number more
pub range_more : (a n k : ℕ) → a + n ≡ k → range_with_len a (suc n) ≡ range_with_len a n ++ k ∷ []
range_more a zero k is = ap (λ (m : ℕ). m ∷ []) (let e : a ≡ k = omega (arith, is) in e)
range_more a (suc n) k is = ap (λ (ks : List ℕ). a ∷ ks) (range_more (a + 1) n k (omega (arith, is)))

in_range : (a n k : ℕ) → a ≤ k → k < a + n → IsIn k (range_with_len a n)
in_range a zero k low high = absurd (omega (arith, low, high))
in_range a (suc n) k low high = by_place (nat_eq k a) refl (in_range (a + 1) n k)
  where
    by_place : (b : Bool) → nat_eq k a ≡ b → (a + 1 ≤ k → k < a + 1 + n → IsIn k (range_with_len (a + 1) n)) → IsIn k (range_with_len a (suc n))
    by_place true is later = inl (let e : nat_eq k a ≡ true = is in grind (arith, nat_tests))
    by_place false is later = inr (later (let e : nat_eq k a ≡ false = is in grind (arith, nat_tests)) (omega (arith, high)))

range_low : (a n end : ℕ) → a + n ≤ end → All (λ (k : ℕ). k < end) (range_with_len a n)
range_low a zero end low = All-nil (λ (k : ℕ). k < end)
range_low a (suc n) end low =
    All-cons (λ (k : ℕ). k < end) a (range_with_len (a + 1) n) (omega (arith, low)) (range_low (a + 1) n end (omega (arith, low)))

range_above : (a b n : ℕ) → a < b → AllByRecursion (λ (k : ℕ). nat_eq a k ≡ false) (range_with_len b n)
range_above a b zero less = tt
range_above a b (suc n) less = (grind (arith, nat_tests), range_above a (b + 1) n (omega (arith, less)))

range_distinct : (a n : ℕ) → IsDistinct nat_eq (range_with_len a n)
unfolding IsDistinct
range_distinct a zero = tt
range_distinct a (suc n) =
    IsDistinct-cons nat_eq a (range_with_len (a + 1) n) (range_above a (a + 1) n (omega arith)) (range_distinct (a + 1) n)

-- each number is below the count
pub order_low : (n : ℕ) (order : List ℕ) → IsPermutation (range_with_len 0 n) order → All (λ (k : ℕ). k < n) order
order_low n order same = All-permutation (λ (k : ℕ). k < n) (range_with_len 0 n) order same (range_low 0 n n (omega arith))

-- each number below the count is there
pub order_all : (n : ℕ) (order : List ℕ) → IsPermutation (range_with_len 0 n) order → (k : ℕ) → k < n → IsIn k order
order_all n order same k low = in_permutation (range_with_len 0 n) order same k (in_range 0 n k (omega arith) (omega (arith, low)))

-- no number is there twice
pub order_distinct : (n : ℕ) (order : List ℕ) → IsPermutation (range_with_len 0 n) order → IsDistinct nat_eq order
order_distinct n order same = IsDistinct-IsPermutation nat_eq nat_eq_equiv.symm (range_with_len 0 n) order same (range_distinct 0 n)
