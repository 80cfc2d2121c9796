-- What is known of all rows, row by row; and how much two paths share, function by function.
use Rattle.std.proofs.Common.{◌≡◌, ◌∙◌, ◌<◌, ◌≤◌, ◌+◌, ℕ, zero, suc, List, [], ◌∷◌, length, map, take, get_or, max, refl, ap, sym, arith, add-one, Bool, true, false, cond, eqb}
use Rattle.std.proofs.lemmas.Bool.{eq-eqb, ne_eqb}
use Rattle.std.proofs.lemmas.List.{get_or-map, length-map, take_all}
use Rattle.std.proofs.lemmas.List.Sums.{sum_by_more}
use Rattle.stack_rebuild.specs.declared.stack_row.StackRow.{StackRow}
use Rattle.stack_rebuild.specs.Stacks.{PathRow, told}
use Rattle.flame_graph.specs.Frames.{own_sum}
use Rattle.flame_graph.specs.Picture.{longest}
use Rattle.flame_graph.specs.private.Walking.{path_at, shared}

pub told_at : (rows : List StackRow) (i : ℕ) (row : StackRow) → i < length rows → row ≡ get_or rows i row → get_or (map told rows) i (told row) ≡ told row
told_at rows i row within is = get_or-map told rows i row (told row) within ∙ ap told (sym is)

-- the sum over one row more
pub own_step : (rows : List StackRow) (i : ℕ) (row : StackRow) → i < length rows → row ≡ get_or rows i row
    → own_sum (take (i + 1) (map told rows)) ≡ own_sum (take i (map told rows)) + row.own
own_step rows i row within is =
    sum_by_more (λ (r : PathRow). r.own) (map told rows) i (told row) (omega (arith, within, length-map rows told))
    ∙ ap (λ (r : PathRow). own_sum (take i (map told rows)) + r.own) (told_at rows i row within is)

-- the longest path of one row more
longest_step : (rows : List PathRow) (i : ℕ) (d : PathRow) → i < length rows → longest (take (suc i) rows) ≡ max (longest (take i rows)) (length (get_or rows i d).path)
longest_step [] i d within = absurd (omega (arith, within))
longest_step (row ∷ rows) zero d within = omega arith
longest_step (row ∷ rows) (suc i) d within = let rest = longest_step rows i d (omega (arith, within)) in omega (arith, rest)

pub longer_step : (rows : List StackRow) (i : ℕ) (row : StackRow) → i < length rows → row ≡ get_or rows i row
    → longest (take (i + 1) (map told rows)) ≡ max (longest (take i (map told rows))) (length row.path.items)
longer_step rows i row within is =
    ap (λ (n : ℕ). longest (take n (map told rows))) (add-one i)
    ∙ longest_step (map told rows) i (told row) (omega (arith, within, length-map rows told))
    ∙ ap (λ (r : PathRow). max (longest (take i (map told rows))) (length r.path)) (told_at rows i row within is)

-- all rows
pub all_rows : (rows : List StackRow) (i : ℕ) → length rows ≤ i → take i (map told rows) ≡ map told rows
all_rows rows i all = take_all i (map told rows) (omega (arith, all, length-map rows told))

-- the path of a row
pub path_told : (rows : List StackRow) (i : ℕ) (row : StackRow) → i < length rows → row ≡ get_or rows i row → path_at (map told rows) i ≡ row.path.items
path_told [] i row within is = absurd (omega (arith, within))
path_told (r ∷ rows) zero row within is = ap (λ (s : StackRow). s.path.items) (sym is)
path_told (r ∷ rows) (suc i) row within is = path_told rows i row (omega (arith, within)) is

pub path_after : (rows : List StackRow) (i : ℕ) → length rows ≤ i → path_at (map told rows) i ≡ []
path_after [] i after = refl
path_after (r ∷ rows) zero after = absurd (omega (arith, after))
path_after (r ∷ rows) (suc i) after = path_after rows i (omega (arith, after))

-- two paths share the first functions that are equal, up to one that isn't
pub shared_is : (p q : List ℕ) (n : ℕ) → n ≤ length p → n ≤ length q → ((k : ℕ) → k < n → get_or p k 0 ≡ get_or q k 0)
    → (n < length p → n < length q → get_or p n 0 ≡ get_or q n 0 → ⊥) → shared p q ≡ n
shared_is [] q n short few same ends = omega (arith, short)
shared_is (f ∷ p) [] n short few same ends = omega (arith, few)
shared_is (f ∷ p) (g ∷ q) zero short few same ends = by_false (eqb f g) (ne_eqb f g (ends (omega arith) (omega arith)))
  where
    by_false : (t : Bool) → t ≡ false → cond t (suc (shared p q)) 0 ≡ 0
    by_false t is = ap (λ (u : Bool). cond u (suc (shared p q)) 0) is
shared_is (f ∷ p) (g ∷ q) (suc n) short few same ends =
    by_true (eqb f g) (eq-eqb f g (same 0 (omega arith)))
    ∙ ap suc (shared_is p q n (omega (arith, short)) (omega (arith, few)) (λ k below. same (suc k) (omega (arith, below))) (λ one other. ends (omega (arith, one)) (omega (arith, other))))
  where
    by_true : (t : Bool) → t ≡ true → cond t (suc (shared p q)) 0 ≡ suc (shared p q)
    by_true t is = ap (λ (u : Bool). cond u (suc (shared p q)) 0) is
