-- Texts of items that are given one after the other.
use Rattle.std.proofs.Common.{◌≡◌, ◌++◌, ◌∙◌, ℕ, List, [], ◌∷◌, sym, ap, append_assoc, arith, length, ◌+◌}
use Rattle.std.specs.Prelude.{Option, Some, None, is_some, MatchBool, MatchOption}
use Rattle.std.specs.List.{flat_map}
use Rattle.std.proofs.lemmas.List.{append-nil}
use Rattle.std.proofs.lemmas.List.Concat.{flat_map-append}

-- one more of them is given
pub one_given : {X : Type 0} (all given left later : List X) (x : X) → all ≡ given ++ left → left ≡ x ∷ later → all ≡ (given ++ x ∷ []) ++ later
one_given {X = X} all given left later x before is =
    before ∙ (ap (λ (xs : List X). given ++ xs) is ∙ sym (append_assoc given (x ∷ []) later))

-- its text comes after theirs
pub one_text : {X : Type 0} (f : X → List ℕ) (given : List X) (x : X) → flat_map f given ++ f x ≡ flat_map f (given ++ x ∷ [])
one_text f given x =
    sym (flat_map-append f given (x ∷ []) ∙ ap (λ (t : List ℕ). flat_map f given ++ t) (append-nil (f x)))

-- the texts of all of them
pub all_texts : {X : Type 0} (f : X → List ℕ) (all given left later : List X) (x : X) → all ≡ given ++ left → left ≡ x ∷ later
    → (flat_map f given ++ f x) ++ flat_map f later ≡ flat_map f all
all_texts f all given left later x before is =
    ap (λ (t : List ℕ). t ++ flat_map f later) (one_text f given x)
    ∙ (sym (flat_map-append f (given ++ x ∷ []) later)
    ∙ ap (flat_map f) (sym (one_given all given left later x before is)))

-- whether there was another one
pub taken : {X Y : Type 0} (of : X → Y) (old new : List Y) (o : Option X) → MatchOption o (old ≡ []) (λ x. old ≡ of x ∷ new)
    → MatchBool (is_some o) (length old ≡ length new + 1) (old ≡ [])
taken of old new None none = none
taken of old new (Some x) is = omega (arith, ap length is)
