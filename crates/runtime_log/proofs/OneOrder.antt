-- Lists in the order of keys: each list has one such order, if different items have different keys.
use Rattle.std.proofs.Common.{◌≡◌, ℕ, zero, suc, ◌+◌, ◌<◌, Bool, true, false, cond, List, [], ◌∷◌, length, get_or, refl, sym, ap, ◌∙◌, arith}
use Rattle.std.specs.Prelude.{⊤, IsPermutation}
use Rattle.std.specs.List.{AllByRecursion, sum_by}
use Rattle.std.specs.List.Sorted.{IsSortedBy}
use Rattle.std.specs.declared.cmp.Ordering.{Ordering}
use Rattle.std.specs.declared.cmp.Ordering.TheVariants.{Less, Equal, Greater}
use Rattle.std.specs.Cmp.Lexicographic.{slice_cmp}
use Rattle.std.specs.Ordering.{is_lt, nat_cmp, ordering_reverse}
use Rattle.std.proofs.lemmas.Cmp.{nat_list_cmp_total, tied_itself}
use Rattle.std.proofs.lemmas.List.Sorted.{IsPermutation-cons, IsPermutation-middle, IsPermutation-refl, IsPermutation-sym, IsPermutation-trans, ranks_by, sorted_far}
use Rattle.std.proofs.lemmas.List.Sums.{sum_by-cons}

-- the first key comes before the other
abbrev pub comes_first : List ℕ → List ℕ → Bool
comes_first one other = is_lt (slice_cmp nat_cmp one other)

module _ {X : Type 0} (key : X → List ℕ) where
  abbrev pub is_before : X → X → Bool
  is_before x y = comes_first (key x) (key y)

  -- none of these comes before an item
  abbrev pub NoneBefore : X → List X → Type 0
  NoneBefore x [] = ⊤
  NoneBefore x (y ∷ ys) = (is_before y x ≡ false) × NoneBefore x ys

  -- no item comes before one that stands before it
  abbrev pub Rises : List X → Type 0
  Rises [] = ⊤
  Rises (x ∷ xs) = NoneBefore x xs × Rises xs

  none_from : (x : X) (xs : List X) → ((k : ℕ) (d : X) → k < length xs → is_before (get_or xs k d) x ≡ false) → NoneBefore x xs
  none_from x [] none = tt
  none_from x (y ∷ ys) none = (none 0 y (omega arith), none_from x ys (λ k d below. none (suc k) d (omega arith)))

  sorted_tail : (x : X) (xs : List X) → IsSortedBy is_before (x ∷ xs) → IsSortedBy is_before xs
  sorted_tail x xs sorted = λ k d low high.
      let next : suc (k + 1) ≡ suc k + 1 = omega arith in
      ap (λ (n : ℕ). is_before (get_or (x ∷ xs) n d) (get_or xs k d)) next ∙ sorted (suc k) d (omega arith) (omega arith)

  pub rises_from_sorted : (xs : List X) → IsSortedBy is_before xs → Rises xs
  rises_from_sorted [] sorted = tt
  rises_from_sorted (x ∷ xs) sorted = (
    none_from x xs (λ k d below. sorted_far is_before (ranks_by nat_list_cmp_total key) (x ∷ xs) sorted 0 (suc k) d (omega arith) (omega arith)),
    rises_from_sorted xs (sorted_tail x xs sorted),
  )

  -- ---- only one order

  before_itself : (x : X) → is_before x x ≡ false
  before_itself x = ap is_lt (tied_itself nat_list_cmp_total (key x))

  -- how many of these come before an item
  abbrev one_before : X → X → ℕ
  one_before x y = cond (is_before y x) 1 0

  none_sum : (x : X) (ys : List X) → NoneBefore x ys → sum_by (one_before x) ys ≡ 0
  none_sum x [] none = refl
  none_sum x (y ∷ ys) none =
      let here : one_before x y ≡ 0 = ap (λ (b : Bool). let n : ℕ = cond b 1 0 in n) none.0 in
      omega (arith, sum_by-cons (one_before x) y ys, none_sum x ys none.1, here)

  -- the first items of two lists with the same items: neither comes before the other
  not_first : (x y : X) (xs ys : List X) → ((f : X → ℕ) → sum_by f (x ∷ xs) ≡ sum_by f (y ∷ ys)) → NoneBefore y ys → is_before x y ≡ true → ⊥
  not_first x y xs ys sums none first =
      let one : one_before y x ≡ 1 = ap (λ (b : Bool). let n : ℕ = cond b 1 0 in n) first in
      let own : one_before y y ≡ 0 = ap (λ (b : Bool). let n : ℕ = cond b 1 0 in n) (before_itself y) in
      omega (arith, sum_by-cons (one_before y) x xs, sum_by-cons (one_before y) y ys, none_sum y ys none, one, own, sums (one_before y))

  pub one_order : (P : X → Type 0) → ((x y : X) → P x → P y → slice_cmp nat_cmp (key x) (key y) ≡ Equal → x ≡ y) → (xs ys : List X)
      → AllByRecursion P xs → AllByRecursion P ys → Rises xs → Rises ys → ((f : X → ℕ) → sum_by f xs ≡ sum_by f ys) → xs ≡ ys
  one_order P same [] [] p q rises falls sums = refl
  one_order P same [] (y ∷ ys) p q rises falls sums = absurd (omega (arith, sums (λ x. 1), sum_by-cons (λ (x : X). 1) y ys))
  one_order P same (x ∷ xs) [] p q rises falls sums = absurd (omega (arith, sums (λ x. 1), sum_by-cons (λ (x : X). 1) x xs))
  one_order P same (x ∷ xs) (y ∷ ys) p q rises falls sums =
      by_order (slice_cmp nat_cmp (key x) (key y)) refl (λ rest. one_order P same xs ys p.1 q.1 rises.1 falls.1 rest)
    where
      by_order : (o : Ordering) → slice_cmp nat_cmp (key x) (key y) ≡ o → (((f : X → ℕ) → sum_by f xs ≡ sum_by f ys) → xs ≡ ys) → x ∷ xs ≡ y ∷ ys
      by_order Less e again = absurd (not_first x y xs ys sums falls.0 (ap is_lt e))
      by_order Greater e again =
          let back : is_before y x ≡ true = ap is_lt (nat_list_cmp_total.antisymm (key y) (key x)) ∙ ap (λ (o : Ordering). is_lt (ordering_reverse o)) e in
          absurd (not_first y x ys xs (λ f. sym (sums f)) rises.0 back)
      by_order Equal e again =
          let one : x ≡ y = same x y p.0 q.0 e in
          ap (λ (z : X). z ∷ xs) one
          ∙ ap (λ (zs : List X). y ∷ zs) (again (λ f. omega (arith, sums f, sum_by-cons f x xs, sum_by-cons f y ys, ap f one)))

  -- ---- some order

  -- an item, put in where no item after it comes before it
  abbrev put_in : X → List X → List X
  put_in x [] = x ∷ []
  put_in x (y ∷ ys) = cond (is_before y x) (y ∷ put_in x ys) (x ∷ y ∷ ys)

  abbrev pub in_order : List X → List X
  in_order [] = []
  in_order (x ∷ xs) = put_in x (in_order xs)

  put_in_moves : (x : X) (xs : List X) → IsPermutation (x ∷ xs) (put_in x xs)
  put_in_moves x [] = IsPermutation-refl (x ∷ [])
  put_in_moves x (y ∷ ys) = by_test (put_in_moves x ys) (is_before y x)
    where
      by_test : IsPermutation (x ∷ ys) (put_in x ys) → (b : Bool) → IsPermutation (x ∷ y ∷ ys) (cond b (y ∷ put_in x ys) (x ∷ y ∷ ys))
      by_test again true =
          IsPermutation-trans (x ∷ y ∷ ys) (y ∷ x ∷ ys) (y ∷ put_in x ys)
          (IsPermutation-sym (y ∷ x ∷ ys) (x ∷ y ∷ ys) (IsPermutation-middle (y ∷ []) x ys))
          (IsPermutation-cons y (x ∷ ys) (put_in x ys) again)
      by_test again false = IsPermutation-refl (x ∷ y ∷ ys)

  pub in_order_moves : (xs : List X) → IsPermutation xs (in_order xs)
  in_order_moves [] = IsPermutation-refl []
  in_order_moves (x ∷ xs) =
      IsPermutation-trans (x ∷ xs) (x ∷ in_order xs) (put_in x (in_order xs)) (IsPermutation-cons x xs (in_order xs) (in_order_moves xs)) (put_in_moves x (in_order xs))

  -- each item doesn't come before the one before it
  abbrev FirstAfter : X → List X → Type 0
  FirstAfter x [] = ⊤
  FirstAfter x (y ∷ ys) = is_before y x ≡ false

  abbrev Steps : List X → Type 0
  Steps [] = ⊤
  Steps (x ∷ xs) = FirstAfter x xs × Steps xs

  put_in_after : (w x : X) (xs : List X) → is_before x w ≡ false → FirstAfter w xs → FirstAfter w (put_in x xs)
  put_in_after w x [] later steps = later
  put_in_after w x (y ∷ ys) later steps = by_test (is_before y x)
    where
      by_test : (b : Bool) → FirstAfter w (cond b (y ∷ put_in x ys) (x ∷ y ∷ ys))
      by_test true = steps
      by_test false = later

  put_in_steps : (x : X) (xs : List X) → Steps xs → Steps (put_in x xs)
  put_in_steps x [] steps = (tt, tt)
  put_in_steps x (y ∷ ys) steps = by_test (put_in_steps x ys steps.1) (is_before y x) refl
    where
      by_test : Steps (put_in x ys) → (b : Bool) → is_before y x ≡ b → Steps (cond b (y ∷ put_in x ys) (x ∷ y ∷ ys))
      by_test again true e = (put_in_after y x ys ((ranks_by nat_list_cmp_total key).one_way y x e) steps.0, again)
      by_test again false e = (e, steps)

  in_order_steps : (xs : List X) → Steps (in_order xs)
  in_order_steps [] = tt
  in_order_steps (x ∷ xs) = put_in_steps x (in_order xs) (in_order_steps xs)

  step_at : (xs : List X) → Steps xs → (k : ℕ) (d : X) → suc k < length xs → is_before (get_or xs (suc k) d) (get_or xs k d) ≡ false
  step_at [] steps k d high = absurd (omega (arith, high))
  step_at (x ∷ []) steps k d high = absurd (omega (arith, high))
  step_at (x ∷ y ∷ ys) steps zero d high = steps.0
  step_at (x ∷ y ∷ ys) steps (suc k) d high = step_at (y ∷ ys) steps.1 k d (omega (arith, high))

  sorted_from_steps : (xs : List X) → Steps xs → IsSortedBy is_before xs
  sorted_from_steps xs steps = λ k d low high.
      let next : k + 1 ≡ suc k = omega arith in
      ap (λ (n : ℕ). is_before (get_or xs n d) (get_or xs k d)) next ∙ step_at xs steps k d (omega (arith, high))

  pub in_order_sorted : (xs : List X) → IsSortedBy is_before (in_order xs)
  in_order_sorted xs = sorted_from_steps (in_order xs) (in_order_steps xs)

  steps_from_rises : (xs : List X) → Rises xs → Steps xs
  steps_from_rises [] rises = tt
  steps_from_rises (x ∷ []) rises = (tt, tt)
  steps_from_rises (x ∷ y ∷ ys) rises = (rises.0.0, steps_from_rises (y ∷ ys) rises.1)

  pub sorted_from_rises : (xs : List X) → Rises xs → IsSortedBy is_before xs
  sorted_from_rises xs rises = sorted_from_steps xs (steps_from_rises xs rises)
