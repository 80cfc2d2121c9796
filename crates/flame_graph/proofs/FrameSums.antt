-- The sum that is shown of a frame is that of the pairs on its path.
use Rattle.std.proofs.Common.{◌≡◌, ◌∙◌, Bool, true, false, cond, eqb, ℕ, suc, List, [], ◌∷◌, length, map, refl, ap, sym, subst, arith, inl, inr}
use Rattle.std.specs.List.{flat_map}
use Rattle.std.proofs.lemmas.Bool.{and_from, and_parts, eq-eqb, eqb-true, false≢true}
use Rattle.fdr_record.specs.declared.event.Event.{Event}
use Rattle.stack_rebuild.specs.Ascending.{each_once}
use Rattle.stack_rebuild.specs.Stacks.{Timed, has_path, path_cmp, path_row, rows_of_pairs, timed_pairs}
use Rattle.stack_rebuild.specs.Weights.{begins}
use Rattle.stack_rebuild.proofs.AscendingLists.{each_once-in}
use Rattle.stack_rebuild.proofs.Groups.{sum_by-none, sum_by-same}
use Rattle.stack_rebuild.proofs.Items.{IsIn, in-map}
use Rattle.stack_rebuild.proofs.Sums.{has_path-other, path_cmp_equal}
use Rattle.stack_rebuild.proofs.Weights.{weighs_no_more, weighs_sum}
use Rattle.flame_graph.specs.Frames.{calls_in, calls_of, is_frame}
use Rattle.flame_graph.specs.Laws.{WeighsItsCalls, WeighsItsSum}

-- a path is that of a frame exactly if it is the frame
frame_is : (frame path : List ℕ) → is_frame frame path ≡ true → path ≡ frame
frame_is [] [] is = refl
frame_is [] (g ∷ path) is = let sizes = eqb-true (suc (length path)) 0 is in absurd (omega (arith, sizes))
frame_is (f ∷ frame) [] is = absurd (false≢true is)
frame_is (f ∷ frame) (g ∷ path) is =
    let parts = and_parts (begins (f ∷ frame) (g ∷ path)) (eqb (suc (length path)) (suc (length frame))) is in
    let both = and_parts (eqb f g) (begins frame path) parts.0 in
    let sizes = eqb-true (suc (length path)) (suc (length frame)) parts.1 in
    let rest = frame_is frame path (and_from (begins frame path) (eqb (length path) (length frame)) both.1 (eq-eqb (length path) (length frame) (omega (arith, sizes)))) in
    ap (λ (h : ℕ). h ∷ path) (sym (eqb-true f g both.0)) ∙ ap (λ (l : List ℕ). f ∷ l) rest

is_own : (frame : List ℕ) → is_frame frame frame ≡ true
is_own frame = and_from (begins frame frame) (eqb (length frame) (length frame)) (begun frame) (eq-eqb (length frame) (length frame) refl)
  where
    begun : (path : List ℕ) → begins path path ≡ true
    begun [] = refl
    begun (f ∷ path) = and_from (eqb f f) (begins path path) (eq-eqb f f refl) (begun path)

-- a path that no pair has
none_on : (pairs : List Timed) (path : List ℕ) → (IsIn path (each_once path_cmp (map (λ (pair : Timed). pair.path) pairs)) → ⊥) → (path_row pairs path).sum ≡ 0
none_on pairs path absent =
    sum_by-same (λ (pair : Timed). cond (has_path path pair) pair.duration 0) (λ (pair : Timed). 0) pairs
    (λ pair there. ap {B = ℕ} (λ b. cond b pair.duration 0) (has_path-other path pair (λ same. absent (found pair there same))))
    ∙ sum_by-none pairs
  where
    found : (pair : Timed) → IsIn pair pairs → pair.path ≡ path → IsIn path (each_once path_cmp (map (λ (p : Timed). p.path) pairs))
    found pair there same =
        each_once-in path_cmp path_cmp_equal (map (λ (p : Timed). p.path) pairs) path (moved (in-map (λ (p : Timed). p.path) pairs pair there) same)
      where
        moved : {a b : List ℕ} → IsIn a (map (λ (p : Timed). p.path) pairs) → a ≡ b → IsIn b (map (λ (p : Timed). p.path) pairs)
        moved {a} {b} is so = subst (λ (l : List ℕ). IsIn l (map (λ (p : Timed). p.path) pairs)) so is

-- the sum of the row with a frame's path
sum_in : (pairs : List Timed) (frame : List ℕ) (paths : List (List ℕ)) → ((IsIn frame paths → ⊥) → (path_row pairs frame).sum ≡ 0)
    → (calls_of (map (path_row pairs) paths) frame).sum ≡ (path_row pairs frame).sum
sum_in pairs frame [] absent = sym (absent (λ is. is))
sum_in pairs frame (path ∷ paths) absent = by_test (is_frame frame path) refl (sum_in pairs frame paths)
  where
    by_test : (b : Bool) → is_frame frame path ≡ b
        → (((IsIn frame paths → ⊥) → (path_row pairs frame).sum ≡ 0) → (calls_of (map (path_row pairs) paths) frame).sum ≡ (path_row pairs frame).sum)
        → (cond b (calls_in (path_row pairs path)) (calls_of (map (path_row pairs) paths) frame)).sum ≡ (path_row pairs frame).sum
    by_test true is again = ap (λ (p : List ℕ). (path_row pairs p).sum) (frame_is frame path is)
    by_test false isnt again = again (λ none. absent (not_here none))
      where
        not_here : (IsIn frame paths → ⊥) → IsIn frame (path ∷ paths) → ⊥
        not_here none (inl same) = false≢true (sym isnt ∙ (ap (is_frame frame) (sym same) ∙ is_own frame))
        not_here none (inr later) = none later

pub sum_shown : (pairs : List Timed) (frame : List ℕ) → (calls_of (rows_of_pairs pairs) frame).sum ≡ (path_row pairs frame).sum
sum_shown pairs frame = sum_in pairs frame (each_once path_cmp (map (λ (pair : Timed). pair.path) pairs)) (none_on pairs frame)

pub weighs_calls : (threads : List (List Event)) (frame : List ℕ) → WeighsItsCalls threads frame
weighs_calls threads frame = let shown = sum_shown (flat_map timed_pairs threads) frame in let sum = weighs_sum threads frame in omega (arith, shown, sum)

pub weighs_shown : (threads : List (List Event)) (frame : List ℕ) → WeighsItsSum threads frame
weighs_shown threads frame some all = let shown = sum_shown (flat_map timed_pairs threads) frame in let sum = weighs_no_more threads frame some all in omega (arith, shown, sum)
