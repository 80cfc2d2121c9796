-- Sums over the items of a list, group by group.
use Rattle.std.proofs.Common.{◌≡◌, ◌+◌, ◌∙◌, ℕ, Bool, true, false, cond, List, [], ◌∷◌, map, refl, ap, sym, subst, arith, inl, inr}
use Rattle.std.specs.Prelude.{filter, sum_by}
use Rattle.std.specs.declared.cmp.Ordering.{Ordering}
use Rattle.std.specs.declared.cmp.Ordering.TheVariants.{Less}
use Rattle.std.specs.Cmp.{IsTotalOrder}
use Rattle.std.proofs.lemmas.List.Sums.{sum_by-cons}
use Rattle.stack_rebuild.proofs.AscendingLists.{Strict, never_both}
use Rattle.stack_rebuild.proofs.Items.{IsIn}

-- ---- sums

pub sum_by-same : {X : Type 0} (f g : X → ℕ) (xs : List X) → ((x : X) → IsIn x xs → f x ≡ g x) → sum_by f xs ≡ sum_by g xs
sum_by-same f g [] same = refl
sum_by-same f g (x ∷ xs) same =
    let rest = sum_by-same f g xs (λ y is. same y (inr is)) in
    let first = same x (inl refl) in
    omega (arith, rest, first, sum_by-cons f x xs, sum_by-cons g x xs)

pub sum_by-plus : {X : Type 0} (f g : X → ℕ) (xs : List X) → sum_by (λ x. f x + g x) xs ≡ sum_by f xs + sum_by g xs
sum_by-plus f g [] = refl
sum_by-plus f g (x ∷ xs) = omega (arith, sum_by-plus f g xs, sum_by-cons f x xs, sum_by-cons g x xs, sum_by-cons (λ y. f y + g y) x xs)

pub sum_by-none : {X : Type 0} (xs : List X) → sum_by (λ (x : X). 0) xs ≡ 0
sum_by-none [] = refl
sum_by-none {X} (x ∷ xs) = omega (arith, sum_by-none xs, sum_by-cons (λ (y : X). 0) x xs)

pub sum_by-map : {X Y : Type 0} (f : X → Y) (g : Y → ℕ) (xs : List X) → sum_by g (map f xs) ≡ sum_by (λ x. g (f x)) xs
sum_by-map f g [] = refl
sum_by-map f g (x ∷ xs) = omega (arith, sum_by-map f g xs, sum_by-cons g (f x) (map f xs), sum_by-cons (λ y. g (f y)) x xs)

pub sum_by-filter : {X : Type 0} (test : X → Bool) (g : X → ℕ) (xs : List X) → sum_by g (filter test xs) ≡ sum_by (λ x. cond (test x) (g x) 0) xs
sum_by-filter test g [] = refl
sum_by-filter {X} test g (x ∷ xs) = by_first (test x) (sum_by-filter test g xs) ∙ sym (sum_by-cons (λ y. cond (test y) (g y) 0) x xs)
  where
    by_first : (b : Bool) → sum_by g (filter test xs) ≡ sum_by (λ y. cond (test y) (g y) 0) xs
        → sum_by g (cond b (x ∷ filter test xs) (filter test xs)) ≡ cond b (g x) 0 + sum_by (λ y. cond (test y) (g y) 0) xs
    by_first true following = omega (arith, following, sum_by-cons g x (filter test xs))
    by_first false following = omega (arith, following)

-- ---- groups

-- a number that one of the keys counts
none_counted : {K : Type 0} (test : K → Bool) (n : ℕ) (ks : List K) → ((k : K) → IsIn k ks → test k ≡ false) → sum_by (λ k. cond (test k) n 0) ks ≡ 0
none_counted test n ks none = sum_by-same (λ k. cond (test k) n 0) (λ k. 0) ks (λ k is. ap {B = ℕ} (λ b. cond b n 0) (none k is)) ∙ sum_by-none ks

-- the groups of a list: each item belongs to one of the keys
pub record IsGrouped {X K : Type 0} (test : K → X → Bool) (ks : List K) (xs : List X) : Type 0 where
  pub once : (x : X) → IsIn x xs → (n : ℕ) → sum_by (λ k. cond (test k x) n 0) ks ≡ n

pub sum_by-groups : {X K : Type 0} (test : K → X → Bool) (g : X → ℕ) (ks : List K) (xs : List X) → IsGrouped test ks xs
    → sum_by (λ k. sum_by (λ x. cond (test k x) (g x) 0) xs) ks ≡ sum_by g xs
sum_by-groups test g ks [] grouped = sum_by-none ks
sum_by-groups {X} {K} test g ks (x ∷ xs) grouped =
    let following = sum_by-groups test g ks xs (record { once = λ y is. grouped.once y (inr is) }) in
    let own : sum_by (λ k. cond (test k x) (g x) 0) ks ≡ g x = grouped.once x (inl refl) (g x) in
    let split : sum_by (λ k. sum_by (λ y. cond (test k y) (g y) 0) (x ∷ xs)) ks ≡ sum_by (λ k. cond (test k x) (g x) 0 + sum_by (λ y. cond (test k y) (g y) 0) xs) ks =
    sum_by-same (λ k. sum_by (λ y. cond (test k y) (g y) 0) (x ∷ xs)) (λ k. cond (test k x) (g x) 0 + sum_by (λ y. cond (test k y) (g y) 0) xs) ks
    (λ k is. sum_by-cons (λ y. cond (test k y) (g y) 0) x xs) in
    omega (
      arith,
      following,
      own,
      split,
      sum_by-plus (λ k. cond (test k x) (g x) 0) (λ k. sum_by (λ y. cond (test k y) (g y) 0) xs) ks,
      sum_by-cons g x xs,
    )

-- ---- keys in ascending order, each once

-- only one of the keys passes a test
pub counts_once : {K : Type 0} (compare : K → K → Ordering) → IsTotalOrder compare → (test : K → Bool) (z : K) → test z ≡ true
    → ((k : K) → test k ≡ true → k ≡ z) → (ks : List K) → Strict compare ks → IsIn z ks → (n : ℕ) → sum_by (λ k. cond (test k) n 0) ks ≡ n
counts_once compare total test z passes only [] strict is n = absurd is
counts_once {K} compare total test z passes only (k ∷ ks) strict is n =
    by_first (test k) refl is (counts_once compare total test z passes only ks strict.1) ∙ refl
  where
    differs : true ≡ false → ⊥
    differs same = cc

    other : (y : K) → IsIn y ks → k ≡ z → (b : Bool) → test y ≡ b → test y ≡ false
    other y there first true so =
        let same : y ≡ k = only y so ∙ sym first in
        let own = subst (λ (w : K). compare k w ≡ Less) same (strict.0 y there) in absurd (never_both compare total k k own own)
    other y there first false so = so

    by_first : (b : Bool) → test k ≡ b → IsIn z (k ∷ ks) → (IsIn z ks → (m : ℕ) → sum_by (λ k. cond (test k) m 0) ks ≡ m) → sum_by (λ k. cond (test k) n 0) (k ∷ ks) ≡ n
    by_first true so there later =
        let none = none_counted test n ks (λ y at. other y at (only k so) (test y) refl) in
        omega (arith, none, sum_by-cons (λ k. cond (test k) n 0) k ks, ap {B = ℕ} (λ b. cond b n 0) so)
    by_first false so (inl same) later = absurd (differs (sym passes ∙ (ap test same ∙ so)))
    by_first false so (inr there) later =
        omega (arith, later there n, sum_by-cons (λ k. cond (test k) n 0) k ks, ap {B = ℕ} (λ b. cond b n 0) so)
