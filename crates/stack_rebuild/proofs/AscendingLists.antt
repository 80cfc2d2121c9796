-- Lists in ascending order: there is only one with the same items.
use Rattle.std.proofs.Common.{◌≡◌, ◌⊎◌, ◌∙◌, List, [], ◌∷◌, refl, ap, sym, subst, arith, inl, inr}
use Rattle.std.specs.declared.cmp.Ordering.{Ordering}
use Rattle.std.specs.declared.cmp.Ordering.TheVariants.{Less, Equal, Greater}
use Rattle.std.specs.Ordering.{match_ordering, ordering_index, ordering_reverse}
use Rattle.std.specs.Cmp.{IsTotalOrder}
use Rattle.std.specs.List.{AllByRecursion}
use Rattle.stack_rebuild.specs.Ascending.{each_once, put_once}
use Rattle.stack_rebuild.proofs.Items.{IsIn, Pairwise, in_either, in_longer, same_pairwise}

-- each item precedes those after it
abbrev pub Strict : {X : Type 0} → (X → X → Ordering) → List X → Type 0
Strict compare xs = Pairwise (λ x y. compare x y ≡ Less) xs

less_not_greater : Less ≡ Greater → ⊥
less_not_greater same = let e : 0 ≡ 2 = ap ordering_index same in omega (arith, e)

pub never_both : {X : Type 0} (compare : X → X → Ordering) → IsTotalOrder compare → (x y : X) → compare x y ≡ Less → compare y x ≡ Less → ⊥
never_both compare total x y first second = less_not_greater (sym first ∙ (total.antisymm x y ∙ ap ordering_reverse second))

-- ---- an item that is put into such a list

in-put_once : {X : Type 0} (compare : X → X → Ordering) (x : X) (ys : List X) (z : X) → IsIn z (put_once compare x ys) → (z ≡ x) ⊎ IsIn z ys
in-put_once compare x [] z is = is
in-put_once {X} compare x (y ∷ ys) z is = by_order (compare x y) (in-put_once compare x ys z) is
  where
    by_order : (o : Ordering) → (IsIn z (put_once compare x ys) → (z ≡ x) ⊎ IsIn z ys)
        → IsIn z (match_ordering o (x ∷ y ∷ ys) (y ∷ ys) (y ∷ put_once compare x ys)) → (z ≡ x) ⊎ IsIn z (y ∷ ys)
    by_order Less later there = there
    by_order Equal later there = inr there
    by_order Greater later (inl here) = inr (inl here)
    by_order Greater later (inr there) = in_longer x y ys z (later there)

put_once-in : {X : Type 0} (compare : X → X → Ordering) → ((x y : X) → compare x y ≡ Equal → x ≡ y) → (x : X) (ys : List X) (z : X) → IsIn z (x ∷ ys)
    → IsIn z (put_once compare x ys)
put_once-in compare exact x [] z is = is
put_once-in {X} compare exact x (y ∷ ys) z is = by_order (compare x y) refl is (put_once-in compare exact x ys z)
  where
    by_order : (o : Ordering) → compare x y ≡ o → IsIn z (x ∷ y ∷ ys) → (IsIn z (x ∷ ys) → IsIn z (put_once compare x ys))
        → IsIn z (match_ordering o (x ∷ y ∷ ys) (y ∷ ys) (y ∷ put_once compare x ys))
    by_order Less so there later = there
    by_order Equal so (inl own) later = inl (own ∙ exact x y so)
    by_order Equal so (inr there) later = there
    by_order Greater so (inl own) later = inr (later (inl own))
    by_order Greater so (inr (inl here)) later = inl here
    by_order Greater so (inr (inr there)) later = inr (later (inr there))

strict-put_once : {X : Type 0} (compare : X → X → Ordering) → IsTotalOrder compare → (x : X) (ys : List X) → Strict compare ys → Strict compare (put_once compare x ys)
strict-put_once compare total x [] strict = (λ y is. absurd is, tt)
strict-put_once {X} compare total x (y ∷ ys) strict = by_order (compare x y) refl (strict-put_once compare total x ys strict.1)
  where
    first_of_all : compare x y ≡ Less → (z : X) → IsIn z (y ∷ ys) → compare x z ≡ Less
    first_of_all so z (inl here) = subst (λ (w : X). compare x w ≡ Less) (sym here) so
    first_of_all so z (inr there) = total.trans x y z so (strict.0 z there)

    still_first : compare x y ≡ Greater → (z : X) → (z ≡ x) ⊎ IsIn z ys → compare y z ≡ Less
    still_first so z (inl own) = subst (λ (w : X). compare y w ≡ Less) (sym own) (total.antisymm y x ∙ ap ordering_reverse so)
    still_first so z (inr there) = strict.0 z there

    by_order : (o : Ordering) → compare x y ≡ o → Strict compare (put_once compare x ys)
        → Strict compare (match_ordering o (x ∷ y ∷ ys) (y ∷ ys) (y ∷ put_once compare x ys))
    by_order Less so later = (first_of_all so, strict)
    by_order Equal so later = strict
    by_order Greater so later = (λ z there. still_first so z (in-put_once compare x ys z there), later)

-- ---- the items of a list, each once

pub strict-each_once : {X : Type 0} (compare : X → X → Ordering) → IsTotalOrder compare → (xs : List X) → Strict compare (each_once compare xs)
strict-each_once compare total [] = tt
strict-each_once compare total (x ∷ xs) = strict-put_once compare total x (each_once compare xs) (strict-each_once compare total xs)

pub in-each_once : {X : Type 0} (compare : X → X → Ordering) (xs : List X) (z : X) → IsIn z (each_once compare xs) → IsIn z xs
in-each_once compare [] z is = is
in-each_once compare (x ∷ xs) z is = in_either x (each_once compare xs) xs z (in-each_once compare xs z) (in-put_once compare x (each_once compare xs) z is)

pub each_once-in : {X : Type 0} (compare : X → X → Ordering) → ((x y : X) → compare x y ≡ Equal → x ≡ y) → (xs : List X) (z : X) → IsIn z xs
    → IsIn z (each_once compare xs)
each_once-in compare exact [] z is = is
each_once-in compare exact (x ∷ xs) z (inl own) = put_once-in compare exact x (each_once compare xs) z (inl own)
each_once-in compare exact (x ∷ xs) z (inr there) = put_once-in compare exact x (each_once compare xs) z (inr (each_once-in compare exact xs z there))

-- a strict list with the items of a list is that list
pub is_each_once : {X : Type 0} (compare : X → X → Ordering) → IsTotalOrder compare → ((x y : X) → compare x y ≡ Equal → x ≡ y) → (ys xs : List X)
    → Strict compare ys → ((z : X) → IsIn z ys → IsIn z xs) → ((z : X) → IsIn z xs → IsIn z ys) → ys ≡ each_once compare xs
is_each_once compare total exact ys xs strict to from =
    same_pairwise (λ x y. compare x y ≡ Less) (never_both compare total) ys (each_once compare xs) strict (strict-each_once compare total xs)
    (λ z is. each_once-in compare exact xs z (to z is)) (λ z is. from z (in-each_once compare xs z is))

-- ---- the keys of a map

pub each_in : {X : Type 0} (P : X → Type 0) (xs : List X) → AllByRecursion P xs → (z : X) → IsIn z xs → P z
each_in P [] all z is = absurd is
each_in P (x ∷ xs) all z (inl is) = subst P (sym is) all.0
each_in P (x ∷ xs) all z (inr is) = each_in P xs all.1 z is
