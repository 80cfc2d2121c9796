-- Numbers that are written before what stands in an array.
use Rattle.std.proofs.Common.{◌≡◌, ◌≤◌, ◌<◌, ◌^◌, ◌∙◌, ◌+◌, ◌-◌, ◌∷◌, ℕ, List, ap, arith, refl, drop, length, set}
use Rattle.std.specs.Fmt.{decimal}
use Rattle.std.proofs.lemmas.Fmt.{length-decimal-le}
use Rattle.std.proofs.lemmas.Grind.{drop-set_at}
use Rattle.std.proofs.lemmas.List.{length-set}

-- an id has at most ten digits
pub few_digits : (id : ℕ) → id < 2 ^ 32 → length (decimal id) ≤ 10
few_digits id low = length-decimal-le 10 id (omega arith) (omega (arith, low)) (omega (arith, low))

-- two bytes are put before what stands from a place on
pub two_before : (words : List ℕ) (place first second : ℕ) → 2 ≤ place → place ≤ length words
    → drop (place - 2) (set (set words (place - 2 + 1) second) (place - 2) first) ≡ first ∷ second ∷ drop place words
two_before words place first second two within =
    let at = place - 2 in
    let words' = set words (at + 1) second in
    let long : length words' ≡ length words = length-set words (at + 1) second in
    let next : at + 1 + 1 ≡ place = omega (arith, two) in
    drop-set_at words' at at first refl (omega (arith, two, within, long))
    ∙ ap (λ (rest : List ℕ). first ∷ rest)
    (drop-set_at words (at + 1) (at + 1) second refl (omega (arith, two, within)) ∙ ap (λ (k : ℕ). second ∷ drop k words) next)
