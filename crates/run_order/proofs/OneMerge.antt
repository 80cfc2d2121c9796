-- There is only one merge of loads.
use Rattle.std.proofs.Common.{◌≡◌, ◌≢◌, inl, inr, ℕ, zero, suc, ◌+◌, ◌-◌, ◌<◌, ◌≤◌, false, cond, List, [], ◌∷◌, ◌++◌, Option, Some, None, refl, sym, ap, subst, ◌∙◌, arith, length, map}
use Rattle.std.specs.Prelude.{◌==◌, ◌⊎◌, All, filter, replicate, slice_get}
use Rattle.std.proofs.lemmas.Bool.{cases_lt}
use Rattle.std.proofs.lemmas.List.Elements.{All-head, All-tail}
use Rattle.step_sim.specs.declared.turns.Turns.{Turns}
use Rattle.step_sim.specs.declared.turns.Turns.TheVariants.{Thread, Patcher}
use Rattle.run_order.specs.Merges.{AreWholeRuns, ComeByPlace, IsMerge, MayPrecede, ThreadLoad, loads_from, patcher_steps, turner, turn_count}
use Rattle.run_order.proofs.MergedLoads.{apart_is, keep_none, own_loads, same_is, weaken}
use Rattle.run_order.proofs.OrderOfRun.{none_there}

-- ---- the loads

abbrev IsSome : ThreadLoad → Type 0
IsSome load = 0 < load.thread

own_on : (n : ℕ) (load : ThreadLoad) (loads : List ThreadLoad) → load.thread ≡ n → own_loads n (load ∷ loads) ≡ load.place ∷ own_loads n loads
own_on n load loads same =
    ap (λ b. map (λ (l : ThreadLoad). l.place) (cond b (load ∷ filter (λ (l : ThreadLoad). l.thread == n) loads) (filter (λ (l : ThreadLoad). l.thread == n) loads)))
    (same_is load.thread n same)

own_off : (n : ℕ) (load : ThreadLoad) (loads : List ThreadLoad) → (load.thread ≡ n → ⊥) → own_loads n (load ∷ loads) ≡ own_loads n loads
own_off n load loads apart =
    ap (λ b. map (λ (l : ThreadLoad). l.place) (cond b (load ∷ filter (λ (l : ThreadLoad). l.thread == n) loads) (filter (λ (l : ThreadLoad). l.thread == n) loads)))
    (apart_is load.thread n apart)

-- numbers are equal, or they aren't
equal_or : (a b : ℕ) → (a ≡ b) ⊎ (a ≡ b → ⊥)
equal_or a b = by_case (cases_lt a b) (cases_lt b a)
  where
    by_case : (a < b) ⊎ (b ≤ a) → (b < a) ⊎ (a ≤ b) → (a ≡ b) ⊎ (a ≡ b → ⊥)
    by_case (inl less) other = inr (λ same. omega (arith, less, same))
    by_case (inr more) (inl less) = inr (λ same. omega (arith, less, same))
    by_case (inr more) (inr below) = inl (omega (arith, more, below))

-- the first of a thread among loads that another one may precede
first_after : (y : ThreadLoad) (loads : List ThreadLoad) (n p : ℕ) (rest : List ℕ) → All (MayPrecede y) loads → own_loads n loads ≡ p ∷ rest
    → MayPrecede y (record { place = p; thread = n })
first_after y [] n p rest all e = absurd cc
first_after y (load ∷ loads) n p rest all e =
    by_case (λ later. first_after y loads n p rest (All-tail (MayPrecede y) load loads all) later) (equal_or load.thread n)
  where
    by_case : (own_loads n loads ≡ p ∷ rest → MayPrecede y (record { place = p; thread = n })) → (load.thread ≡ n) ⊎ (load.thread ≡ n → ⊥)
        → MayPrecede y (record { place = p; thread = n })
    by_case later (inl same) =
        let both : load.place ∷ own_loads n loads ≡ p ∷ rest = sym (own_on n load loads same) ∙ e in
        let place : load.place ≡ p = cc in
        subst (λ m. MayPrecede y (record { place = m; thread = n })) place
        (subst (λ m. MayPrecede y (record { place = load.place; thread = m })) same (All-head (MayPrecede y) load loads all))
    by_case later (inr apart) = later (sym (own_off n load loads apart) ∙ e)

-- a load that comes first among others is the first of these, or that one may precede it
first_or : (x y : ThreadLoad) (xs ys : List ThreadLoad) → All (MayPrecede y) ys → own_loads x.thread (x ∷ xs) ≡ own_loads x.thread (y ∷ ys)
    → (y ≡ x) ⊎ MayPrecede y x
first_or x y xs ys all e = by_case (equal_or y.thread x.thread)
  where
    own : x.place ∷ own_loads x.thread xs ≡ own_loads x.thread (y ∷ ys)
    own = sym (own_on x.thread x xs refl) ∙ e

    by_case : (y.thread ≡ x.thread) ⊎ (y.thread ≡ x.thread → ⊥) → (y ≡ x) ⊎ MayPrecede y x
    by_case (inl same) =
        let both : x.place ∷ own_loads x.thread xs ≡ y.place ∷ own_loads x.thread ys = own ∙ own_on x.thread y ys same in
        let place : y.place ≡ x.place = cc in
        inl (ap (λ m. let l : ThreadLoad = record { place = m; thread = y.thread } in l) place ∙ ap (λ m. let l : ThreadLoad = record { place = x.place; thread = m } in l) same)
    by_case (inr apart) = inr (first_after y ys x.thread x.place (own_loads x.thread xs) all (sym (own ∙ own_off x.thread y ys apart)))

both_precede : (x y : ThreadLoad) → MayPrecede x y → MayPrecede y x → x ≡ y
both_precede x y (inl less) (inl more) = absurd (omega (arith, less, more))
both_precede x y (inl less) (inr (same, low)) = absurd (omega (arith, less, same))
both_precede x y (inr (same, low)) (inl more) = absurd (omega (arith, same, more))
both_precede x y (inr (same, low)) (inr (same', low')) =
    let thread : x.thread ≡ y.thread = omega (arith, low, low') in
    ap (λ m. let l : ThreadLoad = record { place = m; thread = x.thread } in l) same ∙ ap (λ m. let l : ThreadLoad = record { place = y.place; thread = m } in l) thread

first_same : (x y : ThreadLoad) → (y ≡ x) ⊎ MayPrecede y x → (x ≡ y) ⊎ MayPrecede x y → x ≡ y
first_same x y (inl same) other = sym same
first_same x y (inr before) (inl same) = same
first_same x y (inr before) (inr after) = both_precede x y after before

own_later : (n : ℕ) (x : ThreadLoad) (xs ys : List ThreadLoad) → own_loads n (x ∷ xs) ≡ own_loads n (x ∷ ys) → own_loads n xs ≡ own_loads n ys
own_later n x xs ys e = by_case (equal_or x.thread n)
  where
    by_case : (x.thread ≡ n) ⊎ (x.thread ≡ n → ⊥) → own_loads n xs ≡ own_loads n ys
    by_case (inl same) =
        let both : x.place ∷ own_loads n xs ≡ x.place ∷ own_loads n ys = sym (own_on n x xs same) ∙ e ∙ own_on n x ys same in
        cc
    by_case (inr apart) = sym (own_off n x xs apart) ∙ e ∙ own_off n x ys apart

same_loads : (xs ys : List ThreadLoad) → ComeByPlace xs → ComeByPlace ys → All IsSome xs → All IsSome ys
    → ((n : ℕ) → 0 < n → own_loads n xs ≡ own_loads n ys) → xs ≡ ys
same_loads [] [] first second some some' same = refl
same_loads [] (y ∷ ys) first second some some' same =
    let none : [] ≡ y.place ∷ own_loads y.thread ys = same y.thread (All-head IsSome y ys some') ∙ own_on y.thread y ys refl in
    absurd cc
same_loads (x ∷ xs) [] first second some some' same =
    let none : [] ≡ x.place ∷ own_loads x.thread xs = sym (same x.thread (All-head IsSome x xs some)) ∙ own_on x.thread x xs refl in
    absurd cc
same_loads (x ∷ xs) (y ∷ ys) first second some some' same =
    let one = first_or x y xs ys second.0 (same x.thread (All-head IsSome x xs some)) in
    let other = first_or y x ys xs first.0 (sym (same y.thread (All-head IsSome y ys some'))) in
    let head : x ≡ y = first_same x y one other in
    let rest : xs ≡ ys = same_loads xs ys first.1 second.1 (All-tail IsSome x xs some) (All-tail IsSome y ys some') (λ n low.
    own_later n x xs ys (same n low ∙ ap (λ (l : ThreadLoad). own_loads n (l ∷ ys)) (sym head))) in
    ap (λ (l : ThreadLoad). l ∷ xs) head ∙ ap (λ (ls : List ThreadLoad). y ∷ ls) rest

-- ---- the lines

-- there are no loads, or the first is at this place or behind it
abbrev FirstFrom : ℕ → List ThreadLoad → Type 0
FirstFrom place [] = Unit {0}
FirstFrom place (load ∷ loads) = place ≤ load.place

first_lower : (low high : ℕ) (loads : List ThreadLoad) → low ≤ high → FirstFrom high loads → FirstFrom low loads
first_lower low high [] below first = tt
first_lower low high (load ∷ loads) below first = omega (arith, below, first)

first_from : (place : ℕ) (lines : List Turns) → FirstFrom place (loads_from place lines)
first_from place [] = tt
first_from place (Thread thread zero ∷ lines) = first_from place lines
first_from place (Thread thread (suc loads) ∷ lines) = let low : place ≤ place = omega arith in low
first_from place (Patcher steps ∷ lines) =
    first_lower place (place + steps) (loads_from (place + steps) lines) (omega arith) (first_from (place + steps) lines)

-- whole runs without their first line are whole runs, which begin with another turner
abbrev NextApart : Turns → List Turns → Type 0
NextApart line [] = Unit {0}
NextApart line (next ∷ later) = turner line ≢ turner next

runs_some : (line : Turns) (later : List Turns) → AreWholeRuns (line ∷ later) → 0 < turn_count line
runs_some line [] runs = runs
runs_some line (next ∷ later) runs = runs.0

runs_later : (line : Turns) (later : List Turns) → AreWholeRuns (line ∷ later) → AreWholeRuns later × NextApart line later
runs_later line [] runs = (tt, tt)
runs_later line (next ∷ later) runs = (runs.2, runs.1)

-- the lines behind a thread's don't go on with one of its loads at the same place
not_again : (place thread : ℕ) (line : Turns) (later : List Turns) (rest : List ThreadLoad) → turner line ≡ thread → NextApart line later → AreWholeRuns later
    → loads_from place later ≡ record { place = place; thread = thread } ∷ rest → ⊥
not_again place thread line [] rest is apart runs e = cc
not_again place thread line (Thread other zero ∷ later) rest is apart runs e =
    let some = runs_some (Thread other zero) later runs in absurd (omega (arith, some))
not_again place thread line (Thread other (suc n) ∷ later) rest is apart runs e =
    let first : ◌≡◌ {A = ThreadLoad} (record { place = place; thread = other }) (record { place = place; thread = thread }) = cc in
    let same : other ≡ thread = ap (λ (l : ThreadLoad). l.thread) first in
    apart (is ∙ sym same)
not_again place thread line (Patcher steps ∷ later) rest is apart runs e =
    let some = runs_some (Patcher steps) later runs in
    let first : place + steps ≤ place = subst (FirstFrom (place + steps)) e (first_from (place + steps) later) in
    absurd (omega (arith, some, first))

-- as many loads of a thread come first
same_count : (place thread : ℕ) (line : Turns) (one other : List Turns) (n m : ℕ) → turner line ≡ thread → NextApart line one → NextApart line other
    → AreWholeRuns one → AreWholeRuns other
    → replicate n (record { place = place; thread = thread }) ++ loads_from place one ≡ replicate m (record { place = place; thread = thread }) ++ loads_from place other
    → (n ≡ m) × (loads_from place one ≡ loads_from place other)
same_count place thread line one other zero zero is apart apart' runs runs' e = (refl, e)
same_count place thread line one other zero (suc m) is apart apart' runs runs' e =
    absurd (not_again place thread line one (replicate m (record { place = place; thread = thread }) ++ loads_from place other) is apart runs e)
same_count place thread line one other (suc n) zero is apart apart' runs runs' e =
    absurd (not_again place thread line other (replicate n (record { place = place; thread = thread }) ++ loads_from place one) is apart' runs' (sym e))
same_count place thread line one other (suc n) (suc m) is apart apart' runs runs' e =
    let later : replicate n (record { place = place; thread = thread }) ++ loads_from place one
    ≡ replicate m (record { place = place; thread = thread }) ++ loads_from place other = cc in
    let rest = same_count place thread line one other n m is apart apart' runs runs' later in
    (ap suc rest.0, rest.1)

-- lines behind those of the patcher begin with a load, at the place that it has come to, or there are none
abbrev BeginsAt : ℕ → List Turns → Type 0
BeginsAt place lines = ((lines ≡ [])) ⊎ ((thread : ℕ) × (rest : List ThreadLoad) × (loads_from place lines ≡ record { place = place; thread = thread } ∷ rest))

begins_at : (place steps : ℕ) (lines : List Turns) → NextApart (Patcher steps) lines → AreWholeRuns lines → BeginsAt place lines
begins_at place steps [] apart runs = inl refl
begins_at place steps (Thread thread zero ∷ later) apart runs = let some = runs_some (Thread thread zero) later runs in absurd (omega (arith, some))
begins_at place steps (Thread thread (suc n) ∷ later) apart runs =
    inr (thread, replicate n (record { place = place; thread = thread }) ++ loads_from place later, refl)
begins_at place steps (Patcher more ∷ later) apart runs = absurd (apart refl)

-- so the patcher makes as many micro steps
same_steps : (place n m : ℕ) (one other : List Turns) → BeginsAt (place + n) one → BeginsAt (place + m) other
    → loads_from (place + n) one ≡ loads_from (place + m) other → n + patcher_steps one ≡ m + patcher_steps other → n ≡ m
same_steps place n m one other (inl none) (inl none') e steps =
    let first = ap patcher_steps none in
    let second = ap patcher_steps none' in
    omega (arith, first, second, steps)
same_steps place n m one other (inl none) (inr (thread, rest, begins)) e steps =
    let empty : [] ≡ record { place = place + m; thread = thread } ∷ rest = sym (ap (loads_from (place + n)) none) ∙ e ∙ begins in
    absurd cc
same_steps place n m one other (inr (thread, rest, begins)) (inl none) e steps =
    let empty : record { place = place + n; thread = thread } ∷ rest ≡ [] = sym begins ∙ e ∙ ap (loads_from (place + m)) none in
    absurd cc
same_steps place n m one other (inr (thread, rest, begins)) (inr (thread', rest', begins')) e steps =
    let both : ◌≡◌ {A = List ThreadLoad} (record { place = place + n; thread = thread } ∷ rest) (record { place = place + m; thread = thread' } ∷ rest') = sym begins ∙ e ∙ begins' in
    let first : ◌≡◌ {A = ThreadLoad} (record { place = place + n; thread = thread }) (record { place = place + m; thread = thread' }) = cc in
    let same = ap (λ (l : ThreadLoad). l.place) first in
    omega (arith, same)

-- lines with turns have loads or micro steps
thread_loads : (place thread n : ℕ) (later : List Turns) (other : List ThreadLoad) → 0 < n → loads_from place (Thread thread n ∷ later) ≡ other
    → (rest : List ThreadLoad) × (other ≡ record { place = place; thread = thread } ∷ rest)
thread_loads place thread zero later other some e = absurd (omega (arith, some))
thread_loads place thread (suc n) later other some e = (replicate n (record { place = place; thread = thread }) ++ loads_from place later, sym e)

-- a schedule that begins with a thread's load isn't one that begins with the patcher
not_both : (place thread n steps : ℕ) (one other : List Turns) → 0 < n → 0 < steps
    → loads_from place (Thread thread n ∷ one) ≡ loads_from place (Patcher steps ∷ other) → ⊥
not_both place thread n steps one other some some' e =
    let first = thread_loads place thread n one (loads_from (place + steps) other) some e in
    let low : place + steps ≤ place = subst (FirstFrom (place + steps)) first.1 (first_from (place + steps) other) in
    omega (arith, some', low)

same_lines : (place : ℕ) (one other : List Turns) → AreWholeRuns one → AreWholeRuns other → loads_from place one ≡ loads_from place other
    → patcher_steps one ≡ patcher_steps other → one ≡ other
same_lines place [] [] runs runs' e steps = refl
same_lines place [] (Thread thread n ∷ other) runs runs' e steps =
    let first = thread_loads place thread n other [] (runs_some (Thread thread n) other runs') (sym e) in
    let none = first.1 in
    absurd cc
same_lines place [] (Patcher n ∷ other) runs runs' e steps =
    let some = runs_some (Patcher n) other runs' in absurd (omega (arith, some, steps))
same_lines place (Thread thread n ∷ one) [] runs runs' e steps =
    let first = thread_loads place thread n one [] (runs_some (Thread thread n) one runs) e in
    let none = first.1 in
    absurd cc
same_lines place (Patcher n ∷ one) [] runs runs' e steps =
    let some = runs_some (Patcher n) one runs in absurd (omega (arith, some, steps))
same_lines place (Thread thread n ∷ one) (Patcher m ∷ other) runs runs' e steps =
    absurd (not_both place thread n m one other (runs_some (Thread thread n) one runs) (runs_some (Patcher m) other runs') e)
same_lines place (Patcher n ∷ one) (Thread thread m ∷ other) runs runs' e steps =
    absurd (not_both place thread m n other one (runs_some (Thread thread m) other runs') (runs_some (Patcher n) one runs) (sym e))
same_lines place (Thread thread n ∷ one) (Thread thread' m ∷ other) runs runs' e steps =
    let first = thread_loads place thread n one (loads_from place (Thread thread' m ∷ other)) (runs_some (Thread thread n) one runs) e in
    let second = thread_loads place thread' m other (record { place = place; thread = thread } ∷ first.0) (runs_some (Thread thread' m) other runs') first.1 in
    let both : ◌≡◌ {A = List ThreadLoad} (record { place = place; thread = thread } ∷ first.0) (record { place = place; thread = thread' } ∷ second.0) = second.1 in
    let load : ◌≡◌ {A = ThreadLoad} (record { place = place; thread = thread }) (record { place = place; thread = thread' }) = cc in
    let same : thread' ≡ thread = ap (λ (l : ThreadLoad). l.thread) (sym load) in
    let e' : replicate n (record { place = place; thread = thread }) ++ loads_from place one
    ≡ replicate m (record { place = place; thread = thread }) ++ loads_from place other =
    e ∙ ap (λ t. replicate m (record { place = place; thread = t }) ++ loads_from place other) same in
    let rest = runs_later (Thread thread n) one runs in
    let rest' = runs_later (Thread thread' m) other runs' in
    let apart : NextApart (Thread thread n) other = next_apart thread thread' n m other same rest'.1 in
    let count = same_count place thread (Thread thread n) one other n m refl rest.1 apart rest.0 rest'.0 e' in
    let later = same_lines place one other rest.0 rest'.0 count.1 steps in
    ap (λ k. Thread thread k ∷ one) count.0 ∙ ap (λ t. Thread t m ∷ one) (sym same) ∙ ap (λ (ls : List Turns). Thread thread' m ∷ ls) later
  where
    next_apart : (thread thread' n m : ℕ) (lines : List Turns) → thread' ≡ thread → NextApart (Thread thread' m) lines → NextApart (Thread thread n) lines
    next_apart thread thread' n m [] same apart = tt
    next_apart thread thread' n m (next ∷ later) same apart = λ is. apart (same ∙ is)
same_lines place (Patcher n ∷ one) (Patcher m ∷ other) runs runs' e steps =
    let rest = runs_later (Patcher n) one runs in
    let rest' = runs_later (Patcher m) other runs' in
    let same : n ≡ m = same_steps place n m one other (begins_at (place + n) n one rest.1 rest.0) (begins_at (place + m) m other rest'.1 rest'.0) e steps in
    let e' : loads_from (place + n) one ≡ loads_from (place + n) other = e ∙ ap (λ k. loads_from (place + k) other) (sym same) in
    let later = same_lines (place + n) one other rest.0 rest'.0 e' (omega (arith, steps, same)) in
    ap (λ k. Patcher k ∷ one) same ∙ ap (λ (ls : List Turns). Patcher m ∷ ls) later

-- ---- the merge

pub one_merge : (start total : ℕ) (places : List (List ℕ)) (one other : List Turns) → IsMerge start total places one → IsMerge start total places other
    → one ≡ other
one_merge start total places one other a b =
    let loads = same_loads (loads_from start one) (loads_from start other) a.by_place b.by_place
    (weaken (λ load. (0 < load.thread) × (load.thread ≤ length places)) IsSome (λ load is. is.0) (loads_from start one) a.threads)
    (weaken (λ load. (0 < load.thread) × (load.thread ≤ length places)) IsSome (λ load is. is.0) (loads_from start other) b.threads)
    (λ n some. by_own n some (slice_get places (n - 1)) refl) in
    same_lines start one other a.runs b.runs loads (omega (arith, a.steps, b.steps))
  where
    by_own : (n : ℕ) → 0 < n → (own : Option (List ℕ)) → slice_get places (n - 1) ≡ own
        → own_loads n (loads_from start one) ≡ own_loads n (loads_from start other)
    by_own n some (Some own) e = a.own n own some e ∙ sym (b.own n own some e)
    by_own n some None e = none (loads_from start one) a.threads ∙ sym (none (loads_from start other) b.threads)
      where
        none : (loads : List ThreadLoad) → All (λ load. (0 < load.thread) × (load.thread ≤ length places)) loads → own_loads n loads ≡ []
        none loads all =
            ap (map (λ (l : ThreadLoad). l.place)) (keep_none (λ (l : ThreadLoad). l.thread == n) loads
            (weaken (λ load. (0 < load.thread) × (load.thread ≤ length places)) (λ load. (load.thread == n) ≡ false)
            (λ load is. apart_is load.thread n (λ same. none_there places (n - 1) (omega (arith, same, is.1, some)) e)) loads all))
