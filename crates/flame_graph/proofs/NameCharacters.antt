-- How a name is taken apart into its characters, one after the other.
use Rattle.std.proofs.Common.{◌≡◌, ◌≤◌, ◌<◌, ◌+◌, ◌-◌, ◌++◌, ◌∙◌, ℕ, zero, suc, List, [], ◌∷◌, length, take, sym, ap, append_assoc, arith}
use Rattle.std.specs.List.{flat_map}
use Rattle.std.proofs.lemmas.List.{append-nil, take_all}
use Rattle.std.proofs.lemmas.List.Concat.{flat_map-append}
use Rattle.flame_graph.specs.Characters.{characters, characters_after, first_size}

-- ---- the first character

-- ---- how many there are

few_after : (n : ℕ) (bytes : List ℕ) → length (characters_after n bytes) ≤ length bytes
few_after n [] = omega arith
few_after zero (b ∷ bytes) = let rest = few_after (first_size (b ∷ bytes) - 1) bytes in omega (arith, rest)
few_after (suc n) (b ∷ bytes) = let rest = few_after n bytes in omega (arith, rest)

-- there are at most as many characters as bytes
pub all_taken : (bytes : List ℕ) → take (length bytes) (characters bytes) ≡ characters bytes
all_taken bytes = take_all (length bytes) (characters bytes) (few_after 0 bytes)

-- ---- characters that are given one after the other

-- one more of them is given
pub one_given : (all given left later : List (List ℕ)) (x : List ℕ) → all ≡ given ++ left → left ≡ x ∷ later → all ≡ (given ++ x ∷ []) ++ later
one_given all given left later x before is =
    before ∙ (ap (λ (xs : List (List ℕ)). given ++ xs) is ∙ sym (append_assoc given (x ∷ []) later))

-- its text comes after theirs
pub one_text : (f : List ℕ → List ℕ) (given : List (List ℕ)) (x : List ℕ) → flat_map f given ++ f x ≡ flat_map f (given ++ x ∷ [])
one_text f given x =
    sym (flat_map-append f given (x ∷ []) ∙ ap (λ (t : List ℕ). flat_map f given ++ t) (append-nil (f x)))

-- of the first n, one more is given, and the others are to come
one_of_first : (given later : List (List ℕ)) (x : List ℕ) (m : ℕ) → take (length given + suc m) (given ++ x ∷ later) ≡ (given ++ x ∷ []) ++ take m later
one_of_first [] later x m =
    let size : 0 + suc m ≡ suc m = omega arith in
    ap (λ (k : ℕ). take k (x ∷ later)) size
one_of_first (y ∷ given) later x m =
    let size : length (y ∷ given) + suc m ≡ suc (length given + suc m) = omega arith in
    ap (λ (k : ℕ). take k (y ∷ given ++ x ∷ later)) size ∙ ap (λ (xs : List (List ℕ)). y ∷ xs) (one_of_first given later x m)

-- their texts, up to that of the one more, are a prefix of all
pub first_texts : (f : List ℕ → List ℕ) (all given left later : List (List ℕ)) (x : List ℕ) (n : ℕ) → all ≡ given ++ left → left ≡ x ∷ later → length given < n
    → (flat_map f given ++ f x) ++ flat_map f (take (n - length given - 1) later) ≡ flat_map f (take n all)
first_texts f all given left later x n before is few =
    let m : ℕ = n - length given - 1 in
    let size : length given + suc m ≡ n = omega arith in
    ap (λ (t : List ℕ). t ++ flat_map f (take m later)) (one_text f given x)
    ∙ (sym (flat_map-append f (given ++ x ∷ []) (take m later))
    ∙ ap (flat_map f) (sym (one_of_first given later x m)
    ∙ (ap (λ (k : ℕ). take k (given ++ x ∷ later)) size
    ∙ ap (take n) (sym (before ∙ ap (λ (xs : List (List ℕ)). given ++ xs) is)))))
