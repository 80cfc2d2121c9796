-- Running sums, one by one.
use Rattle.std.proofs.Common.{◌≡◌, ℕ, zero, suc, ◌+◌, ◌-◌, ◌/◌, ◌<◌, ◌≤◌, List, [], ◌∷◌, ◌++◌, Some, length, get_or, refl, sym, ap, ◌∙◌, arith}
use Rattle.std.specs.Prelude.{slice_get}
use Rattle.std.proofs.lemmas.List.{get_or_default}
use Rattle.xray_image.specs.private.RunningSums.{sums_from, AreSums, HasBegunBlock}

pub length-sums : (firsts : List ℕ) (i : ℕ) (steps : List ℕ) → length (sums_from firsts i steps) ≡ length steps
length-sums firsts i [] = refl
length-sums firsts i (step ∷ steps) = ap suc (length-sums firsts (i + 1) steps)

-- the sum of a number is the first of its block, plus its step
sum_from : (firsts : List ℕ) (i : ℕ) (steps : List ℕ) (k : ℕ) → k < length steps → slice_get (sums_from firsts i steps) k ≡ Some (get_or firsts ((i + k) / 16) 0 + get_or steps k 0)
sum_from firsts i [] k lt = absurd (omega arith)
sum_from firsts i (step ∷ steps) zero lt = ap (λ (n : ℕ). Some (get_or firsts (n / 16) 0 + step)) (omega arith)
sum_from firsts i (step ∷ steps) (suc k) lt =
    let there : (i + 1) + k ≡ i + suc k = omega arith in
    sum_from firsts (i + 1) steps k (omega arith) ∙ ap (λ (n : ℕ). Some (get_or firsts (n / 16) 0 + get_or steps k 0)) there

-- one more step is one more sum, if the earlier blocks stay
sums_push : (old new : List ℕ) (i : ℕ) (steps : List ℕ) (step : ℕ) → ((k : ℕ) → k < i + length steps → get_or new (k / 16) 0 ≡ get_or old (k / 16) 0)
    → sums_from new i (steps ++ step ∷ []) ≡ sums_from old i steps ++ (get_or new ((i + length steps) / 16) 0 + step) ∷ []
sums_push old new i [] step kept = ap (λ (n : ℕ). (get_or new (n / 16) 0 + step) ∷ []) (omega arith)
sums_push old new i (s ∷ steps) step kept =
    let there : (i + 1) + length steps ≡ i + length (s ∷ steps) = omega arith in
    ap (λ (n : ℕ). (n + s) ∷ sums_from new (i + 1) (steps ++ step ∷ [])) (kept i (omega arith))
    ∙ ap (λ (ns : List ℕ). (get_or old (i / 16) 0 + s) ∷ ns) (sums_push old new (i + 1) steps step (λ k lt. kept k (omega arith)))
    ∙ ap (λ (n : ℕ). (get_or old (i / 16) 0 + s) ∷ (sums_from old (i + 1) steps ++ (get_or new (n / 16) 0 + step) ∷ [])) there

-- ---- the same for sums that are sound

module _ (firsts steps : List ℕ) (total : ℕ) (sound : AreSums firsts steps total) where
  -- what is read for a number: its block's first, and its step
  module _ (i first step : ℕ) (exists : i < length (sums_from firsts 0 steps)) where
    pub step_there : i < length steps
    step_there = omega (arith, length-sums firsts 0 steps, exists)

    pub block_there : i / 16 < length firsts
    block_there = omega (arith, sound.blocks, step_there)

    module _ (first_is : first ≡ get_or firsts (i / 16) first) (step_is : step ≡ get_or steps i step) where
      sum_is : first + step ≡ get_or firsts (i / 16) 0 + get_or steps i 0
      sum_is = omega (arith, first_is ∙ get_or_default firsts (i / 16) first 0 block_there, step_is ∙ get_or_default steps i step 0 step_there)

      pub sum_below : first + step ≤ total
      sum_below = omega (arith, sum_is, sound.each i step_there)

      pub sum_read : slice_get (sums_from firsts 0 steps) i ≡ Some (first + step)
      sum_read =
          let there : 0 + i ≡ i = omega arith in
          sum_from firsts 0 steps i step_there ∙ ap (λ (n : ℕ). Some (get_or firsts (n / 16) 0 + get_or steps i 0)) there ∙ ap Some (sym sum_is)

  -- the total becomes the next sum
  pub total_pushed : (firsts' : List ℕ) (n first : ℕ) → HasBegunBlock firsts firsts' (length steps) total → n ≡ length steps → first ≡ get_or firsts' (n / 16) first
      → sums_from firsts' 0 (steps ++ (total - first) ∷ []) ≡ sums_from firsts 0 steps ++ total ∷ []
  total_pushed firsts' n first begun count first_is =
      let there : 0 + length steps ≡ length steps = omega arith in
      let step : ℕ = total - first in
      let here : first ≡ get_or firsts' (length steps / 16) 0 = first_is ∙ get_or_default firsts' (n / 16) first 0 (omega (arith, begun.reaches, count)) ∙ ap (λ (k : ℕ). get_or firsts' (k / 16) 0) count in
      let is : get_or firsts' (length steps / 16) 0 + step ≡ total = omega (arith, here, begun.low) in
      sums_push firsts firsts' 0 steps step (λ k lt. begun.kept (k / 16) (omega (arith, sound.blocks)))
      ∙ ap (λ (n : ℕ). sums_from firsts 0 steps ++ (get_or firsts' (n / 16) 0 + step) ∷ []) there
      ∙ ap (λ (n : ℕ). sums_from firsts 0 steps ++ n ∷ []) is
