-- A queue of a fixed length, as a list that is turned.
use Rattle.std.proofs.Common.{◌≡◌, ℕ, suc, ◌+◌, ◌<◌, List, [], ◌∷◌, ◌++◌, length, drop, take, set, get_or, sym, ap, ◌∙◌, arith, drop-cons}
use Rattle.std.proofs.lemmas.List.{append-nil, drop_all, set_split}

-- after the last place the turning starts again
pub turned_whole : {X : Type 0} (xs : List X) (k : ℕ) (y : X) → k + 1 ≡ length xs
    → set xs k y ++ [] ≡ drop 1 ((drop k xs ++ take k xs) ++ y ∷ [])
turned_whole {X} xs k y e =
    let within : k < length xs = omega (arith, e) in
    let none : drop (suc k) xs ≡ [] = drop_all (suc k) xs (omega (arith, e)) in
    let last : drop k xs ≡ get_or xs k y ∷ [] = drop-cons xs k y within ∙ ap (λ (l : List X). get_or xs k y ∷ l) none in
    append-nil (set xs k y) ∙ set_split xs k y within ∙ ap (λ (l : List X). take k xs ++ y ∷ l) none
    ∙ ap (λ (l : List X). drop 1 ((l ++ take k xs) ++ y ∷ [])) (sym last)
