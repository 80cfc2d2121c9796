-- Items of a list, and lists in which each item has a relation to those after it.
use Rattle.std.specs.Prelude.{◌≡◌, ◌⊎◌, ◌<◌, ℕ, zero, suc, List, [], ◌∷◌, length, map, All, IsPermutation, refl}
use Rattle.std.specs.List.{list_any}
use Rattle.std.proofs.Common.{◌||◌, ◌∙◌, Bool, true, false, nat_eq, get_or, inl, inr, sym, ap, subst, arith}
use Rattle.std.proofs.lemmas.Bool.{eqb-true, eq-eqb}
use Rattle.std.proofs.lemmas.List.Elements.{All-head, All-tail}
use Rattle.std.proofs.lemmas.List.Sorted.{Contains-permutation}

-- an item of a list
abbrev pub IsIn : {X : Type 0} → X → List X → Type 0
IsIn x [] = ⊥
IsIn x (y ∷ ys) = (x ≡ y) ⊎ IsIn x ys

pub in_from_Contains : {X : Type 0} (xs : List X) (x : X) (k : ℕ) → k < length xs → get_or xs k x ≡ x → IsIn x xs
in_from_Contains [] x k within is = absurd (omega arith)
in_from_Contains (y ∷ ys) x zero within is = inl (sym is)
in_from_Contains (y ∷ ys) x (suc k) within is = inr (in_from_Contains ys x k (omega arith) is)

-- it stands at a place
place_in : {X : Type 0} (xs : List X) (x : X) → IsIn x xs → (k : ℕ) × (k < length xs) × ((d : X) → get_or xs k d ≡ x)
place_in [] x is = absurd is
place_in (y ∷ ys) x (inl is) = (0, omega arith, λ d. sym is)
place_in (y ∷ ys) x (inr is) = let there = place_in ys x is in (suc there.0, omega (arith, there.1), there.2)

-- a permutation has the same items
pub in_permutation : {X : Type 0} (xs ys : List X) → IsPermutation xs ys → (z : X) → IsIn z xs → IsIn z ys
in_permutation xs ys same z is =
    let own = place_in xs z is in
    let there = Contains-permutation xs ys z same (own.0, own.1, own.2 z) in
    in_from_Contains ys z there.0 there.1 there.2

-- what holds of each item
pub all_in : {X : Type 0} (P : X → Type 0) (xs : List X) → All P xs → (z : X) → IsIn z xs → P z
all_in P [] all z is = absurd is
all_in P (x ∷ xs) all z (inl is) = subst P (sym is) (All-head P x xs all)
all_in P (x ∷ xs) all z (inr is) = all_in P xs (All-tail P x xs all) z is

-- ---- items that pass a test

pub any-in : {X : Type 0} (test : X → Bool) (xs : List X) → list_any test xs ≡ true → (x : X) × IsIn x xs × (test x ≡ true)
any-in test [] any = let never : false ≡ true = any in absurd (let n : ⊥ = cc in n)
any-in {X} test (x ∷ xs) any = by_first (test x) refl any (any-in test xs)
  where
    by_first : (b : Bool) → test x ≡ b → (b || list_any test xs) ≡ true → (list_any test xs ≡ true → (y : X) × IsIn y xs × (test y ≡ true))
        → (y : X) × IsIn y (x ∷ xs) × (test y ≡ true)
    by_first true is all later = (x, inl refl, is)
    by_first false is all later = let there = later all in (there.0, inr there.1, there.2)

pub in-any : {X : Type 0} (test : X → Bool) (xs : List X) (x : X) → IsIn x xs → test x ≡ true → list_any test xs ≡ true
in-any test [] x is passes = absurd is
in-any test (y ∷ ys) x (inl is) passes = ap (λ (b : Bool). b || list_any test ys) (ap test (sym is) ∙ passes)
in-any test (y ∷ ys) x (inr is) passes = ap (λ (b : Bool). test y || b) (in-any test ys x is passes) ∙ or_true (test y)
  where
    or_true : (b : Bool) → (b || true) ≡ true
    or_true true = refl
    or_true false = refl

-- ---- what items are mapped to

pub in-map : {X Y : Type 0} (f : X → Y) (xs : List X) (x : X) → IsIn x xs → IsIn (f x) (map f xs)
in-map f [] x is = is
in-map f (y ∷ ys) x (inl is) = inl (ap f is)
in-map f (y ∷ ys) x (inr is) = inr (in-map f ys x is)

pub map-in : {X Y : Type 0} (f : X → Y) (xs : List X) (z : Y) → IsIn z (map f xs) → (x : X) × IsIn x xs × (f x ≡ z)
map-in f [] z is = absurd is
map-in f (y ∷ ys) z (inl is) = (y, inl refl, sym is)
map-in f (y ∷ ys) z (inr is) = let there = map-in f ys z is in (there.0, inr there.1, there.2)

-- some item is mapped to a number
pub any-mapped : {X : Type 0} (f : X → ℕ) (xs : List X) (n : ℕ) → list_any (λ x. nat_eq (f x) n) xs ≡ true → IsIn n (map f xs)
any-mapped f xs n any =
    let there = any-in (λ x. nat_eq (f x) n) xs any in
    subst (λ (m : ℕ). IsIn m (map f xs)) (eqb-true (f there.0) n there.2) (in-map f xs there.0 there.1)

pub mapped-any : {X : Type 0} (f : X → ℕ) (xs : List X) (n : ℕ) → IsIn n (map f xs) → list_any (λ x. nat_eq (f x) n) xs ≡ true
mapped-any f xs n is = let there = map-in f xs n is in in-any (λ x. nat_eq (f x) n) xs there.0 there.1 (eq-eqb (f there.0) n there.2)

-- ---- one more item

-- an item of a longer list, if it isn't another item
pub in_longer : {X : Type 0} (x y : X) (ys : List X) (z : X) → (z ≡ x) ⊎ IsIn z ys → (z ≡ x) ⊎ IsIn z (y ∷ ys)
in_longer x y ys z (inl own) = inl own
in_longer x y ys z (inr other) = inr (inr other)

-- an item of a list that has the items of another one, and a first item
pub in_either : {X : Type 0} (x : X) (ys xs : List X) (z : X) → (IsIn z ys → IsIn z xs) → (z ≡ x) ⊎ IsIn z ys → IsIn z (x ∷ xs)
in_either x ys xs z to (inl own) = inl own
in_either x ys xs z to (inr there) = inr (to there)

-- ---- lists of items that have a relation

-- each item has the relation to those after it
abbrev pub Pairwise : {X : Type 0} → (X → X → Type 0) → List X → Type 0
Pairwise R [] = Unit {0}
Pairwise {X} R (x ∷ xs) = ((y : X) → IsIn y xs → R x y) × Pairwise R xs

-- if the relation never holds both ways, there is only one such list with the same items
pub same_pairwise : {X : Type 0} (R : X → X → Type 0) → ((x y : X) → R x y → R y x → ⊥) → (xs ys : List X) → Pairwise R xs → Pairwise R ys
    → ((z : X) → IsIn z xs → IsIn z ys) → ((z : X) → IsIn z ys → IsIn z xs) → xs ≡ ys
same_pairwise R never [] [] up also to from = refl
same_pairwise R never [] (y ∷ ys) up also to from = absurd (from y (inl refl))
same_pairwise R never (x ∷ xs) [] up also to from = absurd (to x (inl refl))
same_pairwise {X} R never (x ∷ xs) (y ∷ ys) up also to from =
    let first : x ≡ y = by_places (to x (inl refl)) (from y (inl refl)) in
    let rest : xs ≡ ys =
    same_pairwise R never xs ys up.1 also.1 (λ z is. rest_of x xs y ys up.0 first z is (to z (inr is))) (λ z is. rest_of y ys x xs also.0 (sym first) z is (from z (inr is))) in
    ap (λ (z : X). z ∷ xs) first ∙ ap (λ (zs : List X). y ∷ zs) rest
  where
    by_places : IsIn x (y ∷ ys) → IsIn y (x ∷ xs) → x ≡ y
    by_places (inl is) there = is
    by_places (inr after) (inl is) = sym is
    by_places (inr after) (inr there) = absurd (never x y (up.0 y there) (also.0 x after))

    rest_of : (a : X) (later : List X) (b : X) (others : List X) → ((w : X) → IsIn w later → R a w) → a ≡ b → (z : X) → IsIn z later → IsIn z (b ∷ others) → IsIn z others
    rest_of a later b others strict same z is (inr after) = after
    rest_of a later b others strict same z is (inl here) =
        let own : R a a = subst (λ (w : X). R a w) (here ∙ sym same) (strict z is) in absurd (never a a own own)
