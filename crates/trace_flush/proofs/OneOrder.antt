-- Buffers in order: what a sort by thread and segment leaves, and why only one list is left.
use Rattle.std.proofs.Common.{◌≡◌, ◌⊎◌, ◌<◌, ◌≤◌, ◌+◌, ◌-◌, ℕ, zero, suc, true, List, [], ◌∷◌, length, get_or, inl, inr, refl, sym, ap, ◌∙◌, subst, arith, Ordering}
use Rattle.std.specs.Prelude.{sum_by, AllPairs, Contains, IsPermutation}
use Rattle.std.specs.Cmp.{IsTotalOrder, nat_cmp_total, on_total, then_total}
use Rattle.std.specs.List.Sorted.{IsSortedByKey}
use Rattle.std.specs.Ordering.{is_lt, nat_cmp, ordering_then}
use Rattle.std.proofs.lemmas.Bool.Decides.{nat_tests}
use Rattle.std.proofs.lemmas.List.Sorted.{ranks_by, sorted_far, sum_by-IsPermutation, Contains-permutation, IsPermutation-sym}
use Rattle.std.proofs.lemmas.List.Sums.{sum_by-cons}
use Rattle.fdr_buffer.specs.Filled.{Filled}
use Rattle.trace_flush.specs.Arranged.{IsBefore}

-- ---- what the sort leaves

-- the key of the sort, and its order
abbrev pub place : Filled → ℕ × ℕ
place buffer = (buffer.thread, buffer.serial)

abbrev pub place_cmp : ℕ × ℕ → ℕ × ℕ → Ordering
place_cmp p q = ordering_then (nat_cmp p.0 q.0) (nat_cmp p.1 q.1)

place_total : IsTotalOrder place_cmp
place_total = then_total (on_total (λ (p : ℕ × ℕ). p.0) nat_cmp_total) (on_total (λ (p : ℕ × ℕ). p.1) nat_cmp_total)

before_is_less : (first second : Filled) → IsBefore first second → is_lt (place_cmp (place first) (place second)) ≡ true
before_is_less first second (inl earlier) = grind (arith, nat_tests)
before_is_less first second (inr (same, earlier)) = grind (arith, nat_tests)

-- sorted buffers are in order
pub in_order : (buffers : List Filled) → IsSortedByKey place place_cmp buffers → AllPairs (λ first second. IsBefore second first → ⊥) buffers
in_order buffers up i j d ahead within before =
    let not_less = sorted_far (λ x y. is_lt (place_cmp (place x) (place y))) (ranks_by place_total place) buffers up i j d (omega arith) within in
    let less = before_is_less (get_or buffers j d) (get_or buffers i d) before in
    cc

-- ---- only one list is left

-- an item of a list
abbrev IsIn : {X : Type 0} → X → List X → Type 0
IsIn x [] = ⊥
IsIn x (y ∷ ys) = (x ≡ y) ⊎ IsIn x ys

in_from_Contains : {X : Type 0} (xs : List X) (x : X) (k : ℕ) → k < length xs → get_or xs k x ≡ x → IsIn x xs
in_from_Contains [] x k within is = absurd (omega arith)
in_from_Contains (y ∷ ys) x zero within is = inl (sym is)
in_from_Contains (y ∷ ys) x (suc k) within is = inr (in_from_Contains ys x k (omega arith) is)

Contains_from_in : {X : Type 0} (xs : List X) (x : X) → IsIn x xs → Contains xs x
Contains_from_in [] x is = absurd is
Contains_from_in (y ∷ ys) x (inl is) = (0, omega arith, sym is)
Contains_from_in (y ∷ ys) x (inr is) = let there = Contains_from_in ys x is in (suc there.0, omega (arith, there.1), there.2)

place_in : {X : Type 0} (xs : List X) (x : X) → IsIn x xs → (k : ℕ) × (k < length xs) × ((d : X) → get_or xs k d ≡ x)
place_in [] x is = absurd is
place_in (y ∷ ys) x (inl is) = (0, omega arith, λ d. sym is)
place_in (y ∷ ys) x (inr is) = let there = place_in ys x is in (suc there.0, omega (arith, there.1), there.2)

-- each item of a list and each later one
abbrev Pairwise : {X : Type 0} → (X → X → Type 0) → List X → Type 0
Pairwise R [] = Unit {0}
Pairwise {X} R (x ∷ xs) = ((y : X) → IsIn y xs → R x y) × Pairwise R xs

pairwise : {X : Type 0} (R : X → X → Type 0) (xs : List X) → AllPairs R xs → Pairwise R xs
pairwise R [] all = tt
pairwise {X} R (x ∷ xs) all = (
  λ y is. let there = place_in xs y is in let P : X → Type 0 = λ z. R x z in subst P (there.2 x) (all 0 (suc there.0) x (omega arith) (omega (arith, there.1))),
  pairwise R xs (λ i j d ahead within. all (suc i) (suc j) d (omega arith) (omega arith)),
)

-- ---- totals of a list

sum_some : {X : Type 0} (f : X → ℕ) (xs : List X) → 0 < sum_by f xs → (x : X) × IsIn x xs × (0 < f x)
sum_some f [] some = absurd (omega arith)
sum_some {X} f (x ∷ xs) some = by_first (f x) refl (sum_some f xs)
  where
    by_first : (n : ℕ) → f x ≡ n → (0 < sum_by f xs → (y : X) × IsIn y xs × (0 < f y)) → (y : X) × IsIn y (x ∷ xs) × (0 < f y)
    by_first zero is following = let rest = following (omega (arith, sum_by-cons f x xs)) in (rest.0, inr rest.1, rest.2)
    by_first (suc n) is following = (x, inl refl, omega arith)

sum_none : {X : Type 0} (f : X → ℕ) (xs : List X) → ((x : X) → IsIn x xs → f x ≡ 0) → sum_by f xs ≡ 0
sum_none f [] none = refl
sum_none f (x ∷ xs) none = omega (arith, sum_by-cons f x xs, none x (inl refl), sum_none f xs (λ y is. none y (inr is)))

sum_above : {X : Type 0} (f : X → ℕ) (xs : List X) (x : X) → IsIn x xs → f x ≤ sum_by f xs
sum_above f [] x is = absurd is
sum_above f (y ∷ ys) x (inl is) = omega (arith, sum_by-cons f y ys, ap f is)
sum_above f (y ∷ ys) x (inr is) = omega (arith, sum_by-cons f y ys, sum_above f ys x is)

-- ---- two lists of the same buffers, one of them in strict order

-- 1 if the other has the same thread and segment, and 0 otherwise
shares : Filled → Filled → ℕ
shares buffer other = 1 - ((buffer.thread - other.thread) + (other.thread - buffer.thread) + (buffer.serial - other.serial) + (other.serial - buffer.serial))

shares_itself : (buffer : Filled) → shares buffer buffer ≡ 1
unfolding shares
shares_itself buffer = omega arith

before_shares : (first second : Filled) → IsBefore first second → shares first second ≡ 0
unfolding shares
before_shares first second (inl earlier) = omega arith
before_shares first second (inr (same, earlier)) = omega arith

-- a buffer with the same thread and segment as another comes before the same buffers
shared_before : (buffer other later : Filled) → 0 < shares buffer other → IsBefore buffer later → IsBefore other later
unfolding shares
shared_before buffer other later some (inl earlier) = inl (omega arith)
shared_before buffer other later some (inr (same, earlier)) = inr (omega arith, omega arith)

-- the items of the first list are in the second, and all totals are equal
record IsSameBag (xs ys : List Filled) : Type 0 where
  among : (y : Filled) → IsIn y ys → IsIn y xs
  totals : (f : Filled → ℕ) → sum_by f ys ≡ sum_by f xs

-- their first items are the same
same_first : (x : Filled) (xs : List Filled) (y : Filled) (ys : List Filled) → Pairwise IsBefore (x ∷ xs)
    → Pairwise (λ first second. IsBefore second first → ⊥) (y ∷ ys) → IsSameBag (x ∷ xs) (y ∷ ys) → y ≡ x
same_first x xs y ys strict weak bag = by_place (bag.among y (inl refl))
  where
    by_place : IsIn y (x ∷ xs) → y ≡ x
    by_place (inl is) = is
    by_place (inr following) =
        let before : IsBefore x y = strict.0 y following in
        let total = bag.totals (shares x) in
        let some : 0 < sum_by (shares x) ys =
        omega (arith, total, sum_by-cons (shares x) x xs, sum_by-cons (shares x) y ys, shares_itself x, before_shares x y before) in
        let other = sum_some (shares x) ys some in
        absurd (weak.0 other.0 other.1 (shared_before x other.0 y other.2 before))

-- and so are the items after them
same_rest : (x : Filled) (xs ys : List Filled) → Pairwise IsBefore (x ∷ xs) → IsSameBag (x ∷ xs) (x ∷ ys) → IsSameBag xs ys
same_rest x xs ys strict bag = record {
  among = λ z is. by_place z is (bag.among z (inr is));
  totals = λ f. omega (arith, bag.totals f, sum_by-cons f x xs, sum_by-cons f x ys);
}
  where
    by_place : (z : Filled) → IsIn z ys → IsIn z (x ∷ xs) → IsIn z xs
    by_place z is (inr following) = following
    by_place z is (inl same) =
        let none = sum_none (shares x) xs (λ w following. before_shares x w (strict.0 w following)) in
        absurd (omega (
          arith,
          bag.totals (shares x),
          sum_by-cons (shares x) x xs,
          sum_by-cons (shares x) x ys,
          none,
          sum_above (shares x) ys z is,
          ap (shares x) same,
          shares_itself x,
        ))

same_lists : (xs ys : List Filled) → Pairwise IsBefore xs → Pairwise (λ first second. IsBefore second first → ⊥) ys → IsSameBag xs ys → ys ≡ xs
same_lists [] [] strict weak bag = refl
same_lists [] (y ∷ ys) strict weak bag = absurd (bag.among y (inl refl))
same_lists (x ∷ xs) [] strict weak bag = absurd (omega (arith, bag.totals (λ _. 1), sum_by-cons (λ _. 1) x xs))
same_lists (x ∷ xs) (y ∷ ys) strict weak bag =
    let first : y ≡ x = same_first x xs y ys strict weak bag in
    let P : Filled → Type 0 = λ z. IsSameBag (x ∷ xs) (z ∷ ys) in
    let rest : ys ≡ xs = same_lists xs ys strict.1 weak.1 (same_rest x xs ys strict (subst P first bag)) in
    cc

-- if a list in strict order has the same buffers as buffers in order, the two are equal
pub one_order : (buffers wanted arranged : List Filled) → IsPermutation buffers arranged
    → AllPairs (λ first second. IsBefore second first → ⊥) arranged → AllPairs IsBefore wanted → IsPermutation buffers wanted → arranged ≡ wanted
one_order buffers wanted arranged kept weak strict also =
    same_lists wanted arranged (pairwise IsBefore wanted strict) (pairwise (λ first second. IsBefore second first → ⊥) arranged weak)
    (record {
      among = λ z is.
          let there = Contains-permutation buffers wanted z also (Contains-permutation arranged buffers z (IsPermutation-sym buffers arranged kept) (Contains_from_in arranged z is)) in
          in_from_Contains wanted z there.0 there.1 there.2;
      totals = λ f. sum_by-IsPermutation f buffers arranged kept ∙ sym (sum_by-IsPermutation f buffers wanted also);
    })
