-- Texts of items, one after the other, and the items of a list by their places.
use Rattle.std.proofs.Common.{◌≡◌, ◌+◌, ◌++◌, ◌∙◌, ℕ, zero, suc, List, [], ◌∷◌, length, map, Option, option_map, Some, None, refl, sym, ap, arith}
use Rattle.std.specs.List.{flat_map, slice_get}
use Rattle.std.proofs.lemmas.Option.{same_Some, slice_get-map}

-- the texts of items are those of the list of their texts
pub joined_texts : {X : Type 0} (f : X → List ℕ) (xs : List X) → flat_map f xs ≡ flat_map (λ t. t) (map f xs)
joined_texts f [] = refl
joined_texts f (x ∷ xs) = ap (λ (texts : List ℕ). f x ++ texts) (joined_texts f xs)

-- an item of a list of values stands for one of the items that they belong to
pub record HasItem {X Y : Type 0} (f : X → Y) (xs : List X) (k : ℕ) (y : Y) : Type 0 where
  pub item : X
  pub found : slice_get xs k ≡ Some item
  pub value : f item ≡ y

pub item_after : {X Y : Type 0} (f : X → Y) (xs : List X) (k : ℕ) (y : Y) → slice_get (map f xs) k ≡ Some y → HasItem f xs k y
item_after {X} {Y} f xs k y at = found_at (slice_get xs k) refl (sym (slice_get-map f xs k) ∙ at)
  where
    found_at : (found : Option X) → slice_get xs k ≡ found → option_map f found ≡ Some y → HasItem f xs k y
    found_at None is gives = absurd cc
    found_at (Some x) is gives = record { item = x; found = is; value = cc }

-- two lists of the same length are the same if their items are decided by their places
pub same_list : {X : Type 0} (P : ℕ → X → Type 0) → ((i : ℕ) (t u : X) → P i t → P i u → t ≡ u) → (xs ys : List X)
    → ((i : ℕ) (t : X) → slice_get xs i ≡ Some t → P i t) → ((i : ℕ) (t : X) → slice_get ys i ≡ Some t → P i t)
    → length xs ≡ length ys → xs ≡ ys
same_list P one [] [] at at' e = refl
same_list P one [] (y ∷ ys) at at' e = absurd (omega (arith, e))
same_list P one (x ∷ xs) [] at at' e = absurd (omega (arith, e))
same_list P one (x ∷ xs) (y ∷ ys) at at' e =
    let tails = same_list (λ i. P (suc i)) (λ i. one (suc i)) xs ys (λ i. at (suc i)) (λ i. at' (suc i)) (omega (arith, e)) in
    ap (λ z. z ∷ xs) (one zero x y (at zero x refl) (at' zero y refl)) ∙ ap (λ zs. y ∷ zs) tails

-- ---- lists by their places

-- the items of n places, from a place on
abbrev pub made : {X : Type 0} → (ℕ → X) → ℕ → ℕ → List X
made item from zero = []
made item from (suc n) = item from ∷ made item (from + 1) n

-- there are as many as places
pub made_length : {X : Type 0} (item : ℕ → X) (from n : ℕ) → length (made item from n) ≡ n
made_length item from zero = refl
made_length item from (suc n) = ap suc (made_length item (from + 1) n)

-- each is at its place
pub made_at : {X : Type 0} (item : ℕ → X) (from n k : ℕ) (x : X) → slice_get (made item from n) k ≡ Some x → item (from + k) ≡ x
made_at item from zero k x e = cc
made_at item from (suc n) zero x e =
    let here : from + zero ≡ from = omega arith in
    ap item here ∙ same_Some (item from) x e
made_at item from (suc n) (suc k) x e =
    let there : from + suc k ≡ from + 1 + k = omega arith in
    ap item there ∙ made_at item (from + 1) n k x e

-- from place 0 on, each is at its own place
pub made_first : {X : Type 0} (item : ℕ → X) (n k : ℕ) (x : X) → slice_get (made item 0 n) k ≡ Some x → item k ≡ x
made_first item n k x e =
    let here : k ≡ 0 + k = omega arith in
    ap item here ∙ made_at item 0 n k x e
