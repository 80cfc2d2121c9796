-- The paths of a trie's nodes, and one more.
use Rattle.std.proofs.Common.{◌≡◌, ◌⊎◌, ◌+◌, ◌-◌, ◌++◌, ◌<◌, ◌≤◌, ◌∙◌, ℕ, zero, suc, List, [], ◌∷◌, length, reverse, refl, ap, sym, subst, arith, get_or, below_more, inl, inr, length-append, Option, Some, None}
use Rattle.std.specs.Prelude.{MatchOption}
use Rattle.std.proofs.Math.ListN.{get_or-append}
use Rattle.std.proofs.Math.Seq.{get_or-append_seam}
use Rattle.std.proofs.lemmas.List.{append_cancel_right, reverse-append}
use Rattle.stack_rebuild.specs.PathSums.{AreApart, path_at}
use Rattle.call_trie.specs.declared.table.Step.{Step}
use Rattle.call_trie.specs.private.Paths.{Climb, IsAt, IsNew, path_by, paths_after, paths_of_steps}
use Rattle.call_trie.specs.private.Chains.{HasNone, IsNumberOf}

-- ---- lists with the same last item

pub last_same : {X : Type 0} (xs ys : List X) (x y : X) → xs ++ x ∷ [] ≡ ys ++ y ∷ [] → x ≡ y
last_same xs ys x y same =
    let turned = sym (reverse-append xs (x ∷ [])) ∙ (ap reverse same ∙ reverse-append ys (y ∷ [])) in
    let first : (zs : List _) → _ = λ zs. get_or zs 0 x in
    ap first turned

pub others_same : {X : Type 0} (xs ys : List X) (x y : X) → xs ++ x ∷ [] ≡ ys ++ y ∷ [] → xs ≡ ys
others_same {X} xs ys x y same =
    append_cancel_right xs ys (x ∷ []) (same ∙ ap (λ (z : X). ys ++ z ∷ []) (sym (last_same xs ys x y same)))

-- ---- paths by their numbers

pub path_kept : (paths : List (List ℕ)) (path : List ℕ) (n : ℕ) → n < length paths → path_at (paths ++ path ∷ []) n ≡ path_at paths n
path_kept paths path n within = get_or-append paths (path ∷ []) [] n within

pub path_last : (paths : List (List ℕ)) (path : List ℕ) (n : ℕ) → n ≡ length paths → path_at (paths ++ path ∷ []) n ≡ path
path_last paths path n is = ap (path_at (paths ++ path ∷ [])) is ∙ get_or-append_seam paths path [] []

by_kept : (paths : List (List ℕ)) (path : List ℕ) (step : Step) → step.parent < length paths → path_by (paths ++ path ∷ []) step ≡ path_by paths step
by_kept paths path step within = ap (λ (front : List ℕ). front ++ step.func ∷ []) (path_kept paths path step.parent within)

pub apart_more : (paths : List (List ℕ)) (path : List ℕ) → AreApart paths → IsNew paths path → AreApart (paths ++ path ∷ [])
apart_more paths path own absent = record { apart = λ n m low high. by_places n m (place n low) (place m high) }
  where
    place : (n : ℕ) → n < length (paths ++ path ∷ []) → (n < length paths) ⊎ (n ≡ length paths)
    place n within = below_more (λ k. (k < length paths) ⊎ (k ≡ length paths)) (length paths) (λ k low. inl low) (inr refl) n (omega (arith, within, length-append paths (path ∷ [])))

    by_places : (n m : ℕ) → (n < length paths) ⊎ (n ≡ length paths) → (m < length paths) ⊎ (m ≡ length paths) → path_at (paths ++ path ∷ []) n ≡ path_at (paths ++ path ∷ []) m → n ≡ m
    by_places n m (inl low) (inl high) same = own.apart n m low high (sym (path_kept paths path n low) ∙ (same ∙ path_kept paths path m high))
    by_places n m (inl low) (inr here) same = absurd (absent n low (sym (path_kept paths path n low) ∙ (same ∙ path_last paths path m here)))
    by_places n m (inr here) (inl high) same = absurd (absent m high (sym (path_kept paths path m high) ∙ (sym same ∙ path_last paths path n here)))
    by_places n m (inr here) (inr also) same = here ∙ sym also

-- ---- the steps to them

pub paths_more : (steps : List Step) (step : Step) → paths_of_steps (steps ++ step ∷ []) ≡ paths_of_steps steps ++ path_by (paths_of_steps steps) step ∷ []
paths_more steps step = ap paths_after (reverse-append steps (step ∷ []))

pub climb_none : Climb [] ([] ∷ [])
climb_none = record {
  count = refl;
  root = refl;
  lower = λ i d within. absurd (omega (arith, within));
  is = λ i d within. absurd (omega (arith, within));
  apart = record { apart = λ n m low high same. omega (arith, low, high) };
}

pub climb_more : (steps : List Step) (paths : List (List ℕ)) (step : Step) → Climb steps paths → step.parent < length paths → IsNew paths (path_by paths step)
    → Climb (steps ++ step ∷ []) (paths ++ path_by paths step ∷ [])
climb_more steps paths step climb low absent = record {
  count = omega (arith, climb.count, length-append paths (path_by paths step ∷ []), length-append steps (step ∷ []));
  root = path_kept paths (path_by paths step) 0 (omega (arith, climb.count)) ∙ climb.root;
  lower = λ i d within. below_more (λ k. (get_or (steps ++ step ∷ []) k d).parent ≤ k) (length steps)
      (λ k less. subst (λ (s : Step). s.parent ≤ k) (sym (get_or-append steps (step ∷ []) d k less)) (climb.lower k d less))
      (subst (λ (s : Step). s.parent ≤ length steps) (sym (get_or-append_seam steps step [] d)) (omega (arith, low, climb.count))) i (omega (arith, within, longer));
  is = λ i d within. below_more (λ k. path_at more (k + 1) ≡ path_by more (get_or (steps ++ step ∷ []) k d)) (length steps)
      (λ k less. subst (λ (s : Step). path_at more (k + 1) ≡ path_by more s) (sym (get_or-append steps (step ∷ []) d k less)) (earlier k d less))
      (subst (λ (s : Step). path_at more (length steps + 1) ≡ path_by more s) (sym (get_or-append_seam steps step [] d)) last) i (omega (arith, within, longer));
  apart = apart_more paths (path_by paths step) climb.apart absent;
}
  where
    more : List (List ℕ)
    more = paths ++ path_by paths step ∷ []

    longer : length (steps ++ step ∷ []) ≡ length steps + 1
    longer = omega (arith, length-append steps (step ∷ []))

    earlier : (k : ℕ) (d : Step) → k < length steps → path_at more (k + 1) ≡ path_by more (get_or steps k d)
    earlier k d less =
        path_kept paths (path_by paths step) (k + 1) (omega (arith, less, climb.count))
        ∙ (climb.is k d less ∙ sym (by_kept paths (path_by paths step) (get_or steps k d) (omega (arith, climb.lower k d less, less, climb.count))))

    last : path_at more (length steps + 1) ≡ path_by more step
    last = path_last paths (path_by paths step) (length steps + 1) (sym climb.count) ∙ sym (by_kept paths (path_by paths step) step low)

-- the number of a step is that of its path
pub step_found : (steps : List Step) (paths : List (List ℕ)) (step : Step) (n : ℕ) → Climb steps paths → IsNumberOf steps step n → IsAt paths (path_by paths step) n
step_found steps paths step n climb own =
    let low : n - 1 < length steps = omega (arith, own.some, own.within) in
    let back : n - 1 + 1 ≡ n = omega (arith, own.some) in record {
      within = omega (arith, own.within, climb.count);
      is = ap (path_at paths) (sym back) ∙ (climb.is (n - 1) step low ∙ ap (path_by paths) (own.is step));
    }

-- a step that isn't there makes a path without a number
pub step_new : (steps : List Step) (paths : List (List ℕ)) (step : Step) → Climb steps paths → step.parent < length paths → HasNone steps step
    → IsNew paths (path_by paths step)
step_new steps paths step climb low none zero within same =
    let long : length (path_by paths step) ≡ 0 = ap length (sym same ∙ climb.root) in
    absurd (omega (arith, length-append (path_at paths step.parent) (step.func ∷ []), long))
step_new steps paths step climb low none (suc i) within same =
    let below : i < length steps = omega (arith, within, climb.count) in
    let own = get_or steps i step in
    let number : suc i ≡ i + 1 = omega arith in
    let both : path_by paths own ≡ path_by paths step = sym (climb.is i step below) ∙ (ap (path_at paths) (sym number) ∙ same) in
    let func : own.func ≡ step.func = last_same (path_at paths own.parent) (path_at paths step.parent) own.func step.func both in
    let fronts : path_at paths own.parent ≡ path_at paths step.parent = others_same (path_at paths own.parent) (path_at paths step.parent) own.func step.func both in
    let parent : own.parent ≡ step.parent =
    climb.apart.apart own.parent step.parent (omega (arith, climb.lower i step below, within)) low fronts in
    let same_step : own ≡ step =
    ap (λ (p : ℕ). let r : Step = record { parent = p; func = own.func } in r) parent
    ∙ ap (λ (f : ℕ). let r : Step = record { parent = step.parent; func = f } in r) func in
    none i step below same_step

-- what the table finds
pub child_is : (steps : List Step) (paths : List (List ℕ)) (step : Step) (r : Option ℕ) → Climb steps (paths_of_steps steps) → paths_of_steps steps ≡ paths → step.parent < length paths
    → MatchOption r (HasNone steps step) (IsNumberOf steps step) → MatchOption r (IsNew paths (path_by paths step)) (IsAt paths (path_by paths step))
child_is steps paths step None climb view low none = step_new steps paths step (subst (Climb steps) view climb) low none
child_is steps paths step (Some n) climb view low own = step_found steps paths step n (subst (Climb steps) view climb) own

pub climb_added : (steps steps' : List Step) (paths : List (List ℕ)) (step : Step) → Climb steps (paths_of_steps steps) → paths_of_steps steps ≡ paths → step.parent < length paths
    → IsNew paths (path_by paths step) → steps' ≡ steps ++ step ∷ [] → Climb steps' (paths_of_steps steps')
climb_added steps steps' paths step climb view low absent is =
    subst (λ (l : List Step). Climb l (paths_of_steps l)) (sym is)
    (subst (Climb (steps ++ step ∷ [])) (sym (paths_more steps step))
    (climb_more steps (paths_of_steps steps) step climb (subst (λ (ps : List (List ℕ)). step.parent < length ps) (sym view) low)
    (subst (λ (ps : List (List ℕ)). IsNew ps (path_by ps step)) (sym view) absent)))

pub paths_added : (steps steps' : List Step) (paths : List (List ℕ)) (step : Step) → paths_of_steps steps ≡ paths → steps' ≡ steps ++ step ∷ []
    → paths_of_steps steps' ≡ paths ++ path_by paths step ∷ []
paths_added steps steps' paths step view is =
    ap paths_of_steps is ∙ (paths_more steps step ∙ ap (λ (ps : List (List ℕ)). ps ++ path_by ps step ∷ []) view)
