-- Lists in strict order: there is only one with the same items.
use Rattle.std.proofs.Common.{◌≡◌, ◌⊎◌, ◌+◌, ◌∙◌, ℕ, suc, Bool, true, false, cond, List, [], ◌∷◌, map, refl, ap, sym, subst, arith, nat_eq, get_or, inl, inr}
use Rattle.std.specs.Prelude.{IsPermutation}
use Rattle.std.specs.Cmp.{IsStrictWeakOrder}
use Rattle.std.specs.List.{IsDistinct, AllByRecursion}
use Rattle.std.specs.List.Sorted.{IsSortedBy}
use Rattle.std.proofs.lemmas.Bool.{eq-eqb}
use Rattle.std.proofs.lemmas.List.Sorted.{IsPermutation-map, IsPermutation-sym}
use Rattle.std.proofs.lemmas.Map.Keys.{IsDistinct-head, IsDistinct-tail, IsDistinct-IsPermutation}
use Rattle.stack_rebuild.proofs.Items.{IsIn, Pairwise, in_either, in_longer, in_permutation, same_pairwise}
use Rattle.account_report.specs.Ascending.{ordered_by, put_in}
use Rattle.account_report.proofs.HistoryRows.{flipped}

-- each item precedes those after it
abbrev Strict : {X : Type 0} → (X → X → Bool) → List X → Type 0
Strict before xs = Pairwise (λ x y. before x y ≡ true) xs

never_both : {X : Type 0} (before : X → X → Bool) → IsStrictWeakOrder before → (x y : X) → before x y ≡ true → before y x ≡ true → ⊥
never_both before laws x y first second = let other : before y x ≡ false = laws.one_way x y first in cc

-- ---- what a sort leaves of items, if no two have the same number

-- of two items with different numbers, one precedes the other
abbrev pub Decides : {X : Type 0} → (X → ℕ) → (X → X → Bool) → Type 0
Decides {X} number before = (x y : X) → (number x ≡ number y → ⊥) → before x y ≡ false → before y x ≡ true

apart_from_distinct : {X : Type 0} (number : X → ℕ) (x : X) (xs : List X) → AllByRecursion (λ n. nat_eq (number x) n ≡ false) (map number xs)
    → (y : X) → IsIn y xs → number x ≡ number y → ⊥
apart_from_distinct number x [] apart y is same = is
apart_from_distinct {X} number x (z ∷ zs) apart y (inl is) same =
    let equal : nat_eq (number x) (number z) ≡ true = eq-eqb (number x) (number z) (same ∙ ap number is) in
    let different : nat_eq (number x) (number z) ≡ false = apart.0 in cc
apart_from_distinct number x (z ∷ zs) apart y (inr is) same = apart_from_distinct number x zs apart.1 y is same

sorted_after : {X : Type 0} (before : X → X → Bool) (x : X) (xs : List X) → IsSortedBy before (x ∷ xs) → IsSortedBy before xs
sorted_after {X} before x xs up k d low within =
    let P : ℕ → Type 0 = λ n. before (get_or (x ∷ xs) n d) (get_or xs k d) ≡ false in
    let next : suc k + 1 ≡ suc (k + 1) = omega arith in
    subst P next (up (suc k) d (omega arith) (omega arith))

not_after : {X : Type 0} (before : X → X → Bool) → IsStrictWeakOrder before → (x : X) (xs : List X) → IsSortedBy before (x ∷ xs)
    → (z : X) → IsIn z xs → before z x ≡ false
not_after before laws x [] up z is = absurd is
not_after {X} before laws x (y ∷ ys) up z (inl is) = subst (λ (w : X). before w x ≡ false) (sym is) (up 0 x (omega arith) (omega arith))
not_after before laws x (y ∷ ys) up z (inr is) =
    laws.chain z y x (not_after before laws y ys (sorted_after before x (y ∷ ys) up) z is) (up 0 x (omega arith) (omega arith))

strict_from_sorted : {X : Type 0} (number : X → ℕ) (before : X → X → Bool) → IsStrictWeakOrder before → Decides number before → (xs : List X)
    → IsDistinct nat_eq (map number xs) → IsSortedBy before xs → Strict before xs
strict_from_sorted number before laws decides [] distinct up = tt
strict_from_sorted number before laws decides (x ∷ xs) distinct up = (
  λ y is. decides y x
      (λ same. apart_from_distinct number x xs (IsDistinct-head nat_eq (number x) (map number xs) distinct) y is (sym same))
      (not_after before laws x xs up y is),
  strict_from_sorted number before laws decides xs (IsDistinct-tail nat_eq (number x) (map number xs) distinct)
      (sorted_after before x xs up),
)

-- ---- items put in order

in-put_in : {X : Type 0} (before : X → X → Bool) (x : X) (ys : List X) (z : X) → IsIn z (put_in before x ys) → (z ≡ x) ⊎ IsIn z ys
in-put_in before x [] z is = is
in-put_in {X} before x (y ∷ ys) z is = by_first (before x y) (in-put_in before x ys z) is
  where
    by_first : (b : Bool) → (IsIn z (put_in before x ys) → (z ≡ x) ⊎ IsIn z ys) → IsIn z (cond b (x ∷ y ∷ ys) (y ∷ put_in before x ys)) → (z ≡ x) ⊎ IsIn z (y ∷ ys)
    by_first true later there = there
    by_first false later (inl here) = inr (inl here)
    by_first false later (inr there) = in_longer x y ys z (later there)

put_in-in : {X : Type 0} (before : X → X → Bool) (x : X) (ys : List X) (z : X) → IsIn z (x ∷ ys) → IsIn z (put_in before x ys)
put_in-in before x [] z is = is
put_in-in before x (y ∷ ys) z is = by_first (before x y) is (put_in-in before x ys z)
  where
    by_first : (b : Bool) → IsIn z (x ∷ y ∷ ys) → (IsIn z (x ∷ ys) → IsIn z (put_in before x ys)) → IsIn z (cond b (x ∷ y ∷ ys) (y ∷ put_in before x ys))
    by_first true there later = there
    by_first false (inl own) later = inr (later (inl own))
    by_first false (inr (inl here)) later = inl here
    by_first false (inr (inr there)) later = inr (later (inr there))

in-ordered_by : {X : Type 0} (before : X → X → Bool) (xs : List X) (z : X) → IsIn z (ordered_by before xs) → IsIn z xs
in-ordered_by before [] z is = is
in-ordered_by before (x ∷ xs) z is = in_either x (ordered_by before xs) xs z (in-ordered_by before xs z) (in-put_in before x (ordered_by before xs) z is)

ordered_by-in : {X : Type 0} (before : X → X → Bool) (xs : List X) (z : X) → IsIn z xs → IsIn z (ordered_by before xs)
ordered_by-in before [] z is = is
ordered_by-in before (x ∷ xs) z (inl own) = put_in-in before x (ordered_by before xs) z (inl own)
ordered_by-in before (x ∷ xs) z (inr there) = put_in-in before x (ordered_by before xs) z (inr (ordered_by-in before xs z there))

precedes_all : {X : Type 0} (before : X → X → Bool) → IsStrictWeakOrder before → (x y z : X) → before x y ≡ true → before y z ≡ true → before x z ≡ true
precedes_all before laws x y z first second = by_answer (before x z) refl
  where
    by_answer : (b : Bool) → before x z ≡ b → b ≡ true
    by_answer true is = refl
    by_answer false is = let never : before x y ≡ false = laws.chain x z y is (laws.one_way y z second) in cc

strict-put_in : {X : Type 0} (number : X → ℕ) (before : X → X → Bool) → IsStrictWeakOrder before → Decides number before → (x : X) (ys : List X)
    → ((y : X) → IsIn y ys → number x ≡ number y → ⊥) → Strict before ys → Strict before (put_in before x ys)
strict-put_in number before laws decides x [] apart strict = (λ y is. absurd is, tt)
strict-put_in {X} number before laws decides x (y ∷ ys) apart strict =
    by_first (before x y) refl (strict-put_in number before laws decides x ys (λ z is. apart z (inr is)) strict.1)
  where
    first_of_all : before x y ≡ true → (z : X) → IsIn z (y ∷ ys) → before x z ≡ true
    first_of_all is z (inl here) = subst (λ (w : X). before x w ≡ true) (sym here) is
    first_of_all is z (inr there) = precedes_all before laws x y z is (strict.0 z there)

    still_first : before y x ≡ true → (z : X) → (z ≡ x) ⊎ IsIn z ys → before y z ≡ true
    still_first is z (inl own) = subst (λ (w : X). before y w ≡ true) (sym own) is
    still_first is z (inr there) = strict.0 z there

    by_first : (b : Bool) → before x y ≡ b → Strict before (put_in before x ys) → Strict before (cond b (x ∷ y ∷ ys) (y ∷ put_in before x ys))
    by_first true is later = (first_of_all is, strict)
    by_first false is later = (λ z there. still_first (decides x y (apart y (inl refl)) is) z (in-put_in before x ys z there), later)

strict-ordered_by : {X : Type 0} (number : X → ℕ) (before : X → X → Bool) → IsStrictWeakOrder before → Decides number before → (xs : List X)
    → IsDistinct nat_eq (map number xs) → Strict before (ordered_by before xs)
strict-ordered_by number before laws decides [] distinct = tt
strict-ordered_by number before laws decides (x ∷ xs) distinct =
    strict-put_in number before laws decides x (ordered_by before xs)
    (λ y is. apart_from_distinct number x xs (IsDistinct-head nat_eq (number x) (map number xs) distinct) y (in-ordered_by before xs y is))
    (strict-ordered_by number before laws decides xs (IsDistinct-tail nat_eq (number x) (map number xs) distinct))

-- a sort of items with different numbers leaves the items in order
pub one_order : {X : Type 0} (number : X → ℕ) (before : X → X → Bool) → IsStrictWeakOrder before → Decides number before → (xs sorted : List X)
    → IsDistinct nat_eq (map number xs) → IsPermutation xs sorted → IsSortedBy before sorted → sorted ≡ ordered_by before xs
one_order number before laws decides xs sorted distinct same up =
    let also = IsDistinct-IsPermutation nat_eq flipped (map number xs) (map number sorted) (IsPermutation-map number xs sorted same) distinct in
    same_pairwise (λ x y. before x y ≡ true) (never_both before laws) sorted (ordered_by before xs) (strict_from_sorted number before laws decides sorted also up)
    (strict-ordered_by number before laws decides xs distinct)
    (λ z is. ordered_by-in before xs z (in_permutation sorted xs (IsPermutation-sym xs sorted same) z is))
    (λ z is. in_permutation xs sorted same z (in-ordered_by before xs z is))
