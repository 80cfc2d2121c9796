-- Items of a list, each on its own.
use Rattle.std.proofs.Common.{◌≡◌, ℕ, zero, suc, ◌<◌, inl, inr, List, [], ◌∷◌, ◌++◌, Option, Some, refl, ap, sym, subst, ◌∙◌, arith, append_assoc, drop, get_or, length, length-append, map, take}
use Rattle.std.specs.Prelude.{◌⊎◌, All, option_map, slice_get}
use mathlib.Core.List.{map-append}
use Rattle.std.proofs.Math.Seq.{get_or-append_seam}
use Rattle.std.proofs.lemmas.List.{length-map}
use Rattle.std.proofs.lemmas.Option.{get_or_from_slice_get, slice_get-get_or, slice_get-map, slice_get_within}

pub ready_at : {X : Type 0} (P : X → Type 0) (xs : List X) → All P xs → (i : ℕ) (x : X) → i < length xs → x ≡ get_or xs i x → P x
ready_at P xs all i x within is = subst P (sym is) (all i x within)

-- what holds of an item that was at a place and the one that is there after the change
pub changed : {X : Type 0} (P : X → X → Type 0) (xs ys : List X) (i : ℕ) (old new a b : X) → slice_get xs i ≡ Some old
    → slice_get ys i ≡ Some new → a ≡ get_or xs i old → b ≡ get_or ys i old → P a b → P old new
changed P xs ys i old new a b here there is_a is_b holds =
    subst (λ x. P x new) (is_a ∙ get_or_from_slice_get xs i old old here)
    (subst (P a) (is_b ∙ get_or_from_slice_get ys i new old there) holds)

pub is_within : {X : Type 0} (xs : List X) (i : ℕ) (x : X) → slice_get xs i ≡ Some x → i < length xs
is_within xs i x here = slice_get_within xs i x here

-- there is an item at each place
pub there_is : {X : Type 0} (xs : List X) (i : ℕ) → i < length xs → (x : X) × (slice_get xs i ≡ Some x)
there_is [] i within = absurd (omega (arith, within))
there_is (x ∷ xs) zero within = (x, refl)
there_is (x ∷ xs) (suc i) within = there_is xs i (omega (arith, within))

pub same_item : {X : Type 0} (x y : X) → ◌≡◌ {A = Option X} (Some x) (Some y) → x ≡ y
same_item x y e = cc

pub same_found : {X : Type 0} (xs : List X) (i : ℕ) (x y : X) → slice_get xs i ≡ Some x → slice_get xs i ≡ Some y → x ≡ y
same_found xs i x y here there = same_item x y (sym here ∙ there)

pub no_item : {X : Type 0} (i : ℕ) (x : X) → slice_get [] i ≡ Some x → ⊥
no_item zero x e = cc
no_item (suc i) x e = cc

-- this holds of each item, with its place
abbrev pub EachAt : {X : Type 0} → (ℕ → X → Type 0) → List X → Type 0
EachAt {X} P xs = (i : ℕ) (x : X) → slice_get xs i ≡ Some x → P i x

-- what holds of each item wherever it is holds of all
pub all_of : {X : Type 0} (P : X → Type 0) (xs : List X) → EachAt (λ i x. P x) xs → All P xs
all_of P xs each k d within = each k (get_or xs k d) (slice_get-get_or xs k d within)

-- ---- items that come one after another

push_cases : {X : Type 0} (xs : List X) (x : X) (i : ℕ) (y : X) → slice_get (xs ++ x ∷ []) i ≡ Some y
    → (slice_get xs i ≡ Some y) ⊎ ((i ≡ length xs) × (x ≡ y))
push_cases [] x zero y e = inr (refl, cc)
push_cases [] x (suc zero) y e = absurd cc
push_cases [] x (suc (suc i)) y e = absurd cc
push_cases (z ∷ xs) x zero y e = inl e
push_cases (z ∷ xs) x (suc i) y e = elim (push_cases xs x i y e) [
  | inl here ↦ inl here
  | inr last ↦ inr (ap suc last.0, last.1)
]

-- one more item stands at the end
pub one_more : {X : Type 0} (P : ℕ → X → Type 0) (old new : List X) (x : X) (count : ℕ) → length old ≡ count → EachAt P old → P count x
    → new ≡ old ++ x ∷ [] → EachAt P new
one_more {X} P old new x count many each is more i other found =
    elim (push_cases old x i other (ap (λ (xs : List X). slice_get xs i) (sym more) ∙ found)) [
      | inl here ↦ each i other here
      | inr (at, same) ↦ let place : count ≡ i = sym many ∙ sym at in subst (λ (k : ℕ). P k other) place (subst (P count) same is)
    ]

-- one more was taken from the rest
pub one_taken : {X : Type 0} (yielded rest : List X) (x : X) (left all : List X) → left ≡ x ∷ rest → yielded ++ left ≡ all
    → (yielded ++ x ∷ []) ++ rest ≡ all
one_taken yielded rest x left all is order = append_assoc yielded (x ∷ []) rest ∙ ap (λ l. yielded ++ l) (sym is) ∙ order

-- what holds of all items holds of the one that is taken next
pub next_is : {X : Type 0} (P : X → Type 0) (xs yielded rest : List X) (x : X) → All P xs → (yielded ++ x ∷ []) ++ rest ≡ xs → P x
next_is P xs yielded rest x all order =
    let placed : yielded ++ x ∷ rest ≡ xs = sym (append_assoc yielded (x ∷ []) rest) ∙ order in
    let within : length yielded < length xs = omega (arith, ap length placed, length-append yielded (x ∷ rest)) in
    let found = ap (λ l. get_or l (length yielded) x) (sym placed) ∙ get_or-append_seam yielded x rest x in
    subst P found (all (length yielded) x within)

-- ---- what was written back of a slice

take_own : {X : Type 0} (xs ys : List X) → take (length xs) (xs ++ ys) ≡ xs
take_own [] ys = refl
take_own (x ∷ xs) ys = ap (λ zs. x ∷ zs) (take_own xs ys)

pub written_back : {X : Type 0} (len : ℕ) (old new : List X) → len ≡ length new → take len (new ++ drop (length new) old) ≡ new
written_back len old new e = ap (λ (k : ℕ). take k (new ++ drop (length new) old)) e ∙ take_own new (drop (length new) old)

-- ---- one thing of each item

pub of_item : {X Y : Type 0} (f : X → Y) (xs : List X) (i : ℕ) (y : Y) → slice_get (map f xs) i ≡ Some y
    → (x : X) × (slice_get xs i ≡ Some x) × (f x ≡ y)
of_item f xs i y found =
    let inside : i < length xs = omega (arith, slice_get_within (map f xs) i y found, length-map xs f) in
    let one = there_is xs i inside in
    (one.0, one.1, same_item (f one.0) y (sym (slice_get-map f xs i ∙ ap (option_map f) one.1) ∙ found))

-- one more item has this
pub map_more : {X Y : Type 0} (f : X → Y) (xs : List X) (x : X) (new : List X) (ys : List Y) (y : Y) → ys ≡ map f xs → f x ≡ y
    → new ≡ xs ++ x ∷ [] → ys ++ y ∷ [] ≡ map f new
map_more {X} {Y} f xs x new ys y so is more =
    ap (λ zs. zs ++ y ∷ []) so ∙ ap (λ z. map f xs ++ z ∷ []) (sym is) ∙ sym (map-append f xs (x ∷ [])) ∙ ap (map f) (sym more)
