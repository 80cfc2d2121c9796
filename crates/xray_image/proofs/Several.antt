-- Items one after the other, read one by one.
use Rattle.std.proofs.Common.{◌≡◌, ℕ, suc, ◌+◌, ◌-◌, ◌<◌, ◌≤◌, List, [], ◌∷◌, ◌++◌, Option, Some, None, refl, sym, ap, ◌∙◌, append_assoc, arith}
use Rattle.std.specs.Prelude.{option_and_then}
use Rattle.std.specs.Option.{option_map}
use Rattle.std.proofs.lemmas.List.{append-nil}
use Rattle.xray_image.specs.Container.{several}

-- the items, with others before them
abbrev pub with_front : {X : Type 0} → List X → Option (List X × List ℕ) → Option (List X × List ℕ)
with_front xs o = option_map (λ y. (xs ++ y.0, y.1)) o

module _ {X : Type 0} (item : List ℕ → Option (X × List ℕ)) where
  join : (xs : List X) (x : X) (o : Option (List X × List ℕ)) → with_front xs (option_map (λ others. (x ∷ others.0, others.1)) o) ≡ with_front (xs ++ x ∷ []) o
  join xs x None = refl
  join xs x (Some y) = ap (λ (l : List X). Some (l, y.1)) (sym (append_assoc xs (x ∷ []) y.0))

  following : ℕ → Option (X × List ℕ) → Option (List X × List ℕ)
  following n o = option_and_then (λ first. option_map (λ others. (first.0 ∷ others.0, others.1)) (several item n first.1)) o

  several_suc : (n : ℕ) (bytes : List ℕ) → several item (suc n) bytes ≡ following n (item bytes)
  unfolding following
  several_suc n bytes = refl

  more : (xs : List X) (n : ℕ) (bytes rest : List ℕ) (x : X) → Some (x, rest) ≡ item bytes → with_front xs (several item (suc n) bytes) ≡ with_front (xs ++ x ∷ []) (several item n rest)
  unfolding following
  more xs n bytes rest x e = ap (with_front xs) (several_suc n bytes ∙ ap (following n) (sym e)) ∙ join xs x (several item n rest)

  none : (xs : List X) (n : ℕ) (bytes : List ℕ) → None ≡ item bytes → with_front xs (several item (suc n) bytes) ≡ None
  unfolding following
  none xs n bytes e = ap (with_front xs) (several_suc n bytes ∙ ap (following n) (sym e))

  left_is : (count number : ℕ) → number < count → count - number ≡ suc (count - (number + 1))
  left_is count number lt = omega arith

  pub one_more_item : (whole rest next : List ℕ) (count number : ℕ) (xs ys : List X) (x : X) → several item count whole ≡ with_front xs (several item (count - number) rest) → number < count
      → Some (x, next) ≡ item rest → ys ≡ xs ++ x ∷ [] → several item count whole ≡ with_front ys (several item (count - (number + 1)) next)
  one_more_item whole rest next count number xs ys x so_far lt e is =
      so_far ∙ ap (λ (k : ℕ). with_front xs (several item k rest)) (left_is count number lt) ∙ more xs (count - (number + 1)) rest next x e
      ∙ ap (λ (zs : List X). with_front zs (several item (count - (number + 1)) next)) (sym is)

  pub no_item : (whole rest : List ℕ) (count number : ℕ) (xs : List X) → several item count whole ≡ with_front xs (several item (count - number) rest) → number < count
      → None ≡ item rest → several item count whole ≡ None
  no_item whole rest count number xs so_far lt e =
      so_far ∙ ap (λ (k : ℕ). with_front xs (several item k rest)) (left_is count number lt) ∙ none xs (count - (number + 1)) rest e

  pub all_items : (whole rest : List ℕ) (count number : ℕ) (xs : List X) → several item count whole ≡ with_front xs (several item (count - number) rest) → count ≤ number
      → several item count whole ≡ Some (xs, rest)
  all_items whole rest count number xs so_far le =
      let done : count - number ≡ 0 = omega arith in
      so_far ∙ ap (λ (k : ℕ). with_front xs (several item k rest)) done ∙ ap (λ (l : List X). Some (l, rest)) (append-nil xs)

  pub first_items : (whole : List ℕ) (count : ℕ) (xs : List X) → xs ≡ [] → several item count whole ≡ with_front xs (several item (count - 0) whole)
  first_items whole count xs none =
      let all : count - 0 ≡ count = omega arith in
      sym (ap (λ (ys : List X). with_front ys (several item (count - 0) whole)) none ∙ ap (λ (k : ℕ). with_front [] (several item k whole)) all ∙ no_front (several item count whole))
    where
      no_front : (o : Option (List X × List ℕ)) → with_front [] o ≡ o
      no_front None = refl
      no_front (Some y) = refl
