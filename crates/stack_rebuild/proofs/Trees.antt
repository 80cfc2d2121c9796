-- Numbered paths, and one more.
use Rattle.std.proofs.Common.{◌≡◌, ◌⊎◌, ◌+◌, ◌-◌, ◌++◌, ◌<◌, ◌≤◌, ◌∙◌, ◌&&◌, ℕ, zero, suc, Bool, true, false, cond, List, [], ◌∷◌, length, reverse, refl, ap, sym, subst, arith, nat_eq, get_or, below_more, Option, Some, None, inl, inr, length-append}
use Rattle.std.proofs.Math.ListN.{get_or-append}
use Rattle.std.proofs.Math.Seq.{get_or-append_seam}
use Rattle.std.proofs.lemmas.Bool.{eqb-true, eq-eqb}
use Rattle.std.proofs.lemmas.List.{append_cancel_right, reverse-append}
use Rattle.stack_rebuild.specs.declared.node.Step.{Step}
use Rattle.stack_rebuild.specs.private.PathNumbers.{AreNumbered, Climbs, is_step, path_by, paths_after}
use Rattle.stack_rebuild.specs.PathSums.{AreApart, HasNumber, path_at}

-- what holds at each place of a list, and for one more item, holds at each place of both
pub each_more : {X : Type 0} (Q : ℕ → X → Type 0) (xs : List X) (x : X) → ((i : ℕ) (d : X) → i < length xs → Q i (get_or xs i d)) → Q (length xs) x
    → (i : ℕ) (d : X) → i < length (xs ++ x ∷ []) → Q i (get_or (xs ++ x ∷ []) i d)
each_more Q xs x before here i d within =
    below_more (λ k. Q k (get_or (xs ++ x ∷ []) k d)) (length xs)
    (λ k low. subst (Q k) (sym (get_or-append xs (x ∷ []) d k low)) (before k d low))
    (subst (Q (length xs)) (sym (get_or-append_seam xs x [] d)) here) i (omega (arith, length-append xs (x ∷ [])))

-- if two lists are equal, their last items are equal, and so are the others
pub last_same : {X : Type 0} (xs ys : List X) (x y : X) → xs ++ x ∷ [] ≡ ys ++ y ∷ [] → x ≡ y
last_same xs ys x y same =
    let turned = sym (reverse-append xs (x ∷ [])) ∙ (ap reverse same ∙ reverse-append ys (y ∷ [])) in
    let first : (zs : List _) → _ = λ zs. get_or zs 0 x in
    ap first turned

pub others_same : {X : Type 0} (xs ys : List X) (x y : X) → xs ++ x ∷ [] ≡ ys ++ y ∷ [] → xs ≡ ys
others_same {X} xs ys x y same =
    append_cancel_right xs ys (x ∷ []) (same ∙ ap (λ (z : X). ys ++ z ∷ []) (sym (last_same xs ys x y same)))

pub is_step-same : (s q : Step) → is_step s q ≡ true → s ≡ q
is_step-same s q is = by_parts (nat_eq s.parent q.parent) refl (nat_eq s.func q.func) refl is
  where
    by_parts : (b : Bool) → nat_eq s.parent q.parent ≡ b → (e : Bool) → nat_eq s.func q.func ≡ e → b && e ≡ true → s ≡ q
    by_parts true one true two all =
        ap (λ (p : ℕ). let r : Step = record { parent = p; func = s.func } in r) (eqb-true s.parent q.parent one)
        ∙ ap (λ (f : ℕ). let r : Step = record { parent = q.parent; func = f } in r) (eqb-true s.func q.func two)
    by_parts true one false two all = let never : false ≡ true = all in cc
    by_parts false one e two all = let never : false ≡ true = all in cc

pub paths_more : (steps : List Step) (s : Step)
    → paths_after (reverse (steps ++ s ∷ [])) ≡ paths_after (reverse steps) ++ path_by (paths_after (reverse steps)) s ∷ []
paths_more steps s = ap paths_after (reverse-append steps (s ∷ []))

pub path_kept : (P : List (List ℕ)) (path : List ℕ) (n : ℕ) → n < length P → path_at (P ++ path ∷ []) n ≡ path_at P n
path_kept P path n within = get_or-append P (path ∷ []) [] n within

by_kept : (P : List (List ℕ)) (path : List ℕ) (s : Step) → s.parent < length P → path_by (P ++ path ∷ []) s ≡ path_by P s
by_kept P path s within = ap (λ (front : List ℕ). front ++ s.func ∷ []) (path_kept P path s.parent within)

pub apart_more : (P : List (List ℕ)) (path : List ℕ) → AreApart P → ((n : ℕ) → n < length P → path_at P n ≡ path → ⊥) → AreApart (P ++ path ∷ [])
apart_more P path own absent = record { apart = λ n m low high. by_places n m (place n low) (place m high) }
  where
    place : (n : ℕ) → n < length (P ++ path ∷ []) → (n < length P) ⊎ (n ≡ length P)
    place n within = below_more (λ k. (k < length P) ⊎ (k ≡ length P)) (length P) (λ k low. inl low) (inr refl) n (omega (arith, length-append P (path ∷ [])))

    at_end : (n : ℕ) → n ≡ length P → path_at (P ++ path ∷ []) n ≡ path
    at_end n is = ap (path_at (P ++ path ∷ [])) is ∙ get_or-append_seam P path [] []

    by_places : (n m : ℕ) → (n < length P) ⊎ (n ≡ length P) → (m < length P) ⊎ (m ≡ length P) → path_at (P ++ path ∷ []) n ≡ path_at (P ++ path ∷ []) m → n ≡ m
    by_places n m (inl low) (inl high) same = own.apart n m low high (sym (path_kept P path n low) ∙ (same ∙ path_kept P path m high))
    by_places n m (inl low) (inr here) same = absurd (absent n low (sym (path_kept P path n low) ∙ (same ∙ at_end m here)))
    by_places n m (inr here) (inl high) same = absurd (absent m high (sym (path_kept P path m high) ∙ (sym same ∙ at_end n here)))
    by_places n m (inr here) (inr also) same = here ∙ sym also

-- a step whose path has no number isn't a step of the tree
absent_step : (P : List (List ℕ)) (steps : List Step) (numbers : Step → Option ℕ) (s : Step) → AreNumbered P steps numbers
    → ((n : ℕ) → n < length P → path_at P n ≡ path_by P s → ⊥) → (i : ℕ) (d : Step) → i < length steps → s ≡ get_or steps i d → ⊥
absent_step P steps numbers s tree absent i d within same =
    absent (i + 1) (omega (arith, tree.count)) ((tree.climbs i d within).is ∙ ap (path_by P) (sym same))

pub numbered_more : (P : List (List ℕ)) (steps : List Step) (numbers numbers' : Step → Option ℕ) (s : Step) → AreNumbered P steps numbers → s.parent < length P
    → ((n : ℕ) → n < length P → path_at P n ≡ path_by P s → ⊥)
    → ((q : Step) → numbers' q ≡ cond (is_step s q) (Some (length steps + 1)) (numbers q))
    → AreNumbered (P ++ path_by P s ∷ []) (steps ++ s ∷ []) numbers'
numbered_more P steps numbers numbers' s tree low absent put = record {
  count = omega (arith, tree.count, length-append P (path_by P s ∷ []), length-append steps (s ∷ []));
  root = path_kept P (path_by P s) 0 (omega (arith, tree.count)) ∙ tree.root;
  climbs = each_more (Climbs (P ++ path_by P s ∷ [])) steps s
      (λ i d within. let own = tree.climbs i d within in record {
        lower = own.lower;
        is = path_kept P (path_by P s) (i + 1) (omega (arith, tree.count))
            ∙ (own.is ∙ sym (by_kept P (path_by P s) (get_or steps i d) (omega (arith, tree.count, own.lower))));
      })
      (record {
        lower = omega (arith, tree.count);
        is = ap (path_at (P ++ path_by P s ∷ [])) (sym tree.count)
            ∙ (get_or-append_seam P (path_by P s) [] [] ∙ sym (by_kept P (path_by P s) s low));
      });
  told = each_more (λ i q. numbers' q ≡ Some (i + 1)) steps s (λ i d within. still i d within (is_step s (get_or steps i d)) refl)
      (put s ∙ ap (λ b. cond b (Some (length steps + 1)) (numbers s)) (step_itself s));
  found = λ q n is. found q n (is_step s q) refl is;
  apart = apart_more P (path_by P s) tree.apart absent;
}
  where
    step_itself : (q : Step) → is_step q q ≡ true
    step_itself q = ap (λ b. b && nat_eq q.func q.func) (eq-eqb q.parent q.parent refl) ∙ eq-eqb q.func q.func refl

    still : (i : ℕ) (d : Step) → i < length steps → (b : Bool) → is_step s (get_or steps i d) ≡ b → numbers' (get_or steps i d) ≡ Some (i + 1)
    still i d within true is = absurd (absent_step P steps numbers s tree absent i d within (is_step-same s (get_or steps i d) is))
    still i d within false is =
        put (get_or steps i d) ∙ (ap (λ b. cond b (Some (length steps + 1)) (numbers (get_or steps i d))) is ∙ tree.told i d within)

    found : (q : Step) (n : ℕ) → (b : Bool) → is_step s q ≡ b → numbers' q ≡ Some n
        → (0 < n) × (n ≤ length (steps ++ s ∷ [])) × (get_or (steps ++ s ∷ []) (n - 1) q ≡ q)
    found q n true is told =
        let here : Some (length steps + 1) ≡ Some n = sym (ap (λ b. cond b (Some (length steps + 1)) (numbers q)) is) ∙ (sym (put q) ∙ told) in
        let number : length steps + 1 ≡ n = ap (λ (o : Option ℕ). unwrap o) here in
        (omega arith, omega (arith, length-append steps (s ∷ [])), ap (λ (k : ℕ). get_or (steps ++ s ∷ []) k q) (let e : n - 1 ≡ length steps = omega arith in e) ∙ (get_or-append_seam steps s [] q ∙ is_step-same s q is))
      where
        unwrap : Option ℕ → ℕ
        unwrap None = 0
        unwrap (Some k) = k
    found q n false is told =
        let own = tree.found q n (sym (ap (λ b. cond b (Some (length steps + 1)) (numbers q)) is) ∙ (sym (put q) ∙ told)) in
        (own.0, omega (arith, own.1, length-append steps (s ∷ [])), get_or-append steps (s ∷ []) q (n - 1) (omega (arith, own.0, own.1)) ∙ own.2)

pub tree_more : (V : List (List ℕ)) (steps steps' : List Step) (numbers numbers' : Step → Option ℕ) (s : Step) (n : ℕ) → paths_after (reverse steps) ≡ V
    → AreNumbered (paths_after (reverse steps)) steps numbers → s.parent < length V → ((k : ℕ) → k < length V → path_at V k ≡ path_by V s → ⊥)
    → steps' ≡ steps ++ s ∷ [] → n ≡ length steps'
    → ((q : Step) → numbers' q ≡ cond (is_step s q) (Some n) (numbers q)) → AreNumbered (paths_after (reverse steps')) steps' numbers'
tree_more V steps steps' numbers numbers' s n view tree low absent more count put =
    let P = paths_after (reverse steps) in
    let number : n ≡ length steps + 1 = count ∙ (ap length more ∙ (let e : length (steps ++ s ∷ []) ≡ length steps + 1 = omega (arith, length-append steps (s ∷ [])) in e)) in
    subst (λ (all : List Step). AreNumbered (paths_after (reverse all)) all numbers') (sym more)
    (subst (λ (paths : List (List ℕ)). AreNumbered paths (steps ++ s ∷ []) numbers') (sym (paths_more steps s))
    (numbered_more P steps numbers numbers' s tree (subst (λ (paths : List (List ℕ)). s.parent < length paths) (sym view) low)
    (subst (λ (paths : List (List ℕ)). (k : ℕ) → k < length paths → path_at paths k ≡ path_by paths s → ⊥) (sym view) absent)
    (λ q. put q ∙ ap (λ (k : ℕ). cond (is_step s q) (Some k) (numbers q)) number)))

-- the same numbers
pub tree_same : (P : List (List ℕ)) (steps : List Step) (numbers numbers' : Step → Option ℕ) → AreNumbered P steps numbers
    → ((q : Step) → numbers' q ≡ numbers q) → AreNumbered P steps numbers'
tree_same P steps numbers numbers' tree same = record {
  count = tree.count;
  root = tree.root;
  climbs = tree.climbs;
  told = λ i d within. same (get_or steps i d) ∙ tree.told i d within;
  found = λ q n is. tree.found q n (sym (same q) ∙ is);
  apart = tree.apart;
}

-- a step without a number makes a path without one
pub absent_path : (V : List (List ℕ)) (steps : List Step) (numbers : Step → Option ℕ) (s : Step) → paths_after (reverse steps) ≡ V
    → AreNumbered (paths_after (reverse steps)) steps numbers → s.parent < length V → numbers s ≡ None
    → (n : ℕ) → n < length V → path_at V n ≡ path_by V s → ⊥
absent_path V steps numbers s view tree low none =
    subst (λ (paths : List (List ℕ)). (n : ℕ) → n < length paths → path_at paths n ≡ path_by paths s → ⊥) view absent
  where
    P : List (List ℕ)
    P = paths_after (reverse steps)

    some_none : (n : ℕ) → Some n ≡ None → ⊥
    some_none n is = let e : 1 ≡ 0 = ap count_in is in absurd (omega (arith, e))
      where
        count_in : Option ℕ → ℕ
        count_in None = 0
        count_in (Some k) = 1

    absent : (n : ℕ) → n < length P → path_at P n ≡ path_by P s → ⊥
    absent n within same = by_place n within same
      where
        by_place : (k : ℕ) → k < length P → path_at P k ≡ path_by P s → ⊥
        by_place zero in_it is =
            let long : length (path_by P s) ≡ 0 = ap length (sym is ∙ tree.root) in
            absurd (omega (arith, length-append (path_at P s.parent) (s.func ∷ []), long))
        by_place (suc i) in_it is =
            let step = get_or steps i s in
            let own = tree.climbs i s (omega (arith, tree.count)) in
            let number : suc i ≡ i + 1 = omega arith in
            let both : path_by P step ≡ path_by P s = sym own.is ∙ (ap (path_at P) (sym number) ∙ is) in
            let func : step.func ≡ s.func = last_same (path_at P step.parent) (path_at P s.parent) step.func s.func both in
            let low_in : s.parent < length P = subst (λ (paths : List (List ℕ)). s.parent < length paths) (sym view) low in
            let parent : step.parent ≡ s.parent =
            tree.apart.apart step.parent s.parent (omega (arith, own.lower, in_it)) low_in (others_same (path_at P step.parent) (path_at P s.parent) step.func s.func both) in
            let same_step : step ≡ s =
            ap (λ (p : ℕ). let r : Step = record { parent = p; func = step.func } in r) parent
            ∙ ap (λ (f : ℕ). let r : Step = record { parent = s.parent; func = f } in r) func in
            let told : numbers s ≡ Some (i + 1) = ap numbers (sym same_step) ∙ tree.told i s (omega (arith, tree.count)) in
            some_none (i + 1) (sym told ∙ none)

-- the place of a step among the steps gives the number of its path
pub number_at : (V : List (List ℕ)) (steps : List Step) (numbers : Step → Option ℕ) (s : Step) (n : ℕ) → paths_after (reverse steps) ≡ V
    → AreNumbered (paths_after (reverse steps)) steps numbers → (0 < n) × (n ≤ length steps) × (get_or steps (n - 1) s ≡ s) → HasNumber (path_by V s) n V V
number_at V steps numbers s n view tree own = subst (λ (paths : List (List ℕ)). HasNumber (path_by paths s) n paths paths) view
    (let P = paths_after (reverse steps) in
    let low : n - 1 < length steps = omega (arith, own.0, own.1) in
    let back : n - 1 + 1 ≡ n = omega (arith, own.0) in record {
      is = ap (path_at P) (sym back) ∙ ((tree.climbs (n - 1) s low).is ∙ ap (path_by P) own.2);
      within = omega (arith, own.1, tree.count);
      grows = inl refl;
    })

-- the number of a step is that of its path
pub number_told : (V : List (List ℕ)) (steps : List Step) (numbers : Step → Option ℕ) (s : Step) (n : ℕ) → paths_after (reverse steps) ≡ V
    → AreNumbered (paths_after (reverse steps)) steps numbers → numbers s ≡ Some n → HasNumber (path_by V s) n V V
number_told V steps numbers s n view tree told = number_at V steps numbers s n view tree (tree.found s n told)

-- a step has no number if its path has none
pub none_told : (V : List (List ℕ)) (steps : List Step) (numbers : Step → Option ℕ) (s : Step) → paths_after (reverse steps) ≡ V
    → AreNumbered (paths_after (reverse steps)) steps numbers → ((n : ℕ) → n < length V → path_at V n ≡ path_by V s → ⊥) → numbers s ≡ None
none_told V steps numbers s view tree absent = by_number (numbers s) refl
  where
    by_number : (o : Option ℕ) → numbers s ≡ o → numbers s ≡ None
    by_number None is = is
    by_number (Some n) is =
        let own = number_told V steps numbers s n view tree is in
        absurd (absent n own.within own.is)
