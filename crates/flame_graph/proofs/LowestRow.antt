-- The widths of the lowest row of frames add up to the whole.
use Rattle.std.proofs.Common.{◌≡◌, ◌∙◌, ◌<◌, ◌+◌, ℕ, zero, suc, List, [], ◌∷◌, ◌++◌, drop, filter, length, map, refl, ap, sym, take, arith}
use Rattle.std.specs.Prelude.{sum_by}
use Rattle.std.specs.List.{AllByRecursion}
use Rattle.std.proofs.lemmas.Bool.{cond-false, ne_eqb}
use Rattle.std.proofs.lemmas.List.{drop-map, drop_all, take_all}
use Rattle.std.proofs.lemmas.List.Elements.{filter-append}
use Rattle.std.proofs.lemmas.List.Sums.{sum_by-append, sum_by-cons}
use Rattle.stack_rebuild.specs.Stacks.{PathRow}
use Rattle.flame_graph.specs.Frames.{AreStacks, prefixes, capped, end_of, frames, own_sum, frames_total}
use Rattle.flame_graph.specs.Laws.{LowestAddUp, is_lowest}
use Rattle.flame_graph.specs.Picture.{left_of, right_of, thousandths_at, width_of}
use Rattle.flame_graph.specs.private.Walking.{ended_at, path_at, shared_at}
use Rattle.flame_graph.proofs.OpenFrames.{closes_at, frames_from, is_row, no_row, opens_at, row_path}
use Rattle.flame_graph.proofs.Orders.{Ascends, ascends, same_shared}
use Rattle.flame_graph.proofs.Scales.{at_none, at_whole}
use Rattle.flame_graph.proofs.NestedFrames.{left_le_right}

-- ---- the lowest ones among some frames

pub lowest_width : List PathRow → List (List ℕ) → ℕ
lowest_width rows some = sum_by (width_of rows) (filter is_lowest some)

width_more : (rows : List PathRow) (some more : List (List ℕ)) → lowest_width rows (some ++ more) ≡ lowest_width rows some + lowest_width rows more
unfolding lowest_width
width_more rows some more =
    ap (λ (l : List (List ℕ)). sum_by (width_of rows) l) (filter-append is_lowest some more) ∙ sum_by-append (width_of rows) (filter is_lowest some) (filter is_lowest more)

-- frames of a function and more aren't
not_lowest : (f : ℕ) (some : List (List ℕ)) → AllByRecursion (λ (frame : List ℕ). 0 < length frame) some → filter is_lowest (map (λ (frame : List ℕ). f ∷ frame) some) ≡ []
not_lowest f [] each = refl
not_lowest f (frame ∷ some) each =
    let long : length (f ∷ frame) ≡ 1 → ⊥ = λ is. omega (arith, each.0, is) in
    cond-false (is_lowest (f ∷ frame)) ((f ∷ frame) ∷ filter is_lowest (map (λ (x : List ℕ). f ∷ x) some)) (filter is_lowest (map (λ (x : List ℕ). f ∷ x) some)) (ne_eqb (length (f ∷ frame)) 1 long)
    ∙ not_lowest f some each.1

some_function : (f : ℕ) (some : List (List ℕ)) → AllByRecursion (λ (frame : List ℕ). 0 < length frame) (map (λ (frame : List ℕ). f ∷ frame) some)
some_function f [] = tt
some_function f (frame ∷ some) = (omega arith, some_function f some)

each_has_some : (path : List ℕ) → AllByRecursion (λ (frame : List ℕ). 0 < length frame) (prefixes path)
each_has_some [] = tt
each_has_some (f ∷ path) = (omega arith, some_function f (prefixes path))

still_some : (n : ℕ) (some : List (List ℕ)) → AllByRecursion (λ (frame : List ℕ). 0 < length frame) some → AllByRecursion (λ (frame : List ℕ). 0 < length frame) (drop n some)
still_some zero some each = each
still_some (suc n) [] each = tt
still_some (suc n) (frame ∷ some) each = still_some n some each.1

width_of_nothing : (rows : List PathRow) → lowest_width rows (frames []) ≡ 0
unfolding lowest_width
width_of_nothing rows = refl

width_is : (rows : List PathRow) (some : List (List ℕ)) → sum_by (width_of rows) (filter is_lowest some) ≡ lowest_width rows some
unfolding lowest_width
width_is rows some = refl

-- among the prefixes of a path there is one, if none is left out
width_of_none : (rows : List PathRow) (path : List ℕ) (n : ℕ) → lowest_width rows (drop (suc n) (prefixes path)) ≡ 0
unfolding lowest_width
width_of_none rows [] n = refl
width_of_none rows (f ∷ path) n =
    ap (λ (l : List (List ℕ)). sum_by (width_of rows) l)
    (ap (λ (l : List (List ℕ)). filter is_lowest l) (drop-map (λ (frame : List ℕ). f ∷ frame) n (prefixes path))
    ∙ not_lowest f (drop n (prefixes path)) (still_some n (prefixes path) (each_has_some path)))

width_of_one : (rows : List PathRow) (path : List ℕ) → 0 < length path → lowest_width rows (drop zero (prefixes path)) ≡ width_of rows (take (suc zero) path)
unfolding lowest_width
width_of_one rows [] some = absurd (omega (arith, some))
width_of_one rows (f ∷ path) some =
    let first : List ℕ = f ∷ [] in
    let others : List (List ℕ) = filter is_lowest (map (λ (frame : List ℕ). f ∷ frame) (prefixes path)) in
    let none : sum_by (width_of rows) others ≡ 0 = ap (λ (l : List (List ℕ)). sum_by (width_of rows) l) (not_lowest f (prefixes path) (each_has_some path)) in
    let whole : sum_by (width_of rows) (first ∷ others) ≡ width_of rows first + sum_by (width_of rows) others = sum_by-cons (width_of rows) first others in
    omega (arith, none, whole)

-- ---- from a row on

-- where a frame ends, its left end and its width add up to
width_and_left : (rows : List PathRow) (frame : List ℕ) → width_of rows frame + left_of rows frame ≡ right_of rows frame
width_and_left rows frame = let less = left_le_right rows frame in omega (arith, less)

-- the widths of the lowest frames that end at a row or later add up to what is between the first of them and the end
pub lowest_from : (rows : List PathRow) (more at : ℕ) → Ascends rows → ((k : ℕ) → k < length rows → 0 < length (path_at rows k)) → at + suc more ≡ length rows
    → lowest_width rows (frames (drop at rows)) + left_of rows (take (suc zero) (path_at rows at)) ≡ thousandths_at (frames_total rows) (frames_total rows)
lowest_from rows zero at ascending some last = by_count (shared_at rows (suc at)) refl
  where
    within : at < length rows
    within = omega (arith, last)

    split : lowest_width rows (frames (drop at rows)) ≡ lowest_width rows (ended_at rows at) + lowest_width rows (frames (drop (suc at) rows))
    split = ap (λ (l : List (List ℕ)). lowest_width rows l) (frames_from rows at ascending within) ∙ width_more rows (ended_at rows at) (frames (drop (suc at) rows))

    after : lowest_width rows (frames (drop (suc at) rows)) ≡ 0
    after = ap (λ (l : List PathRow). lowest_width rows (frames l)) (drop_all (suc at) rows (omega (arith, last))) ∙ width_of_nothing rows

    by_count : (n : ℕ) → shared_at rows (suc at) ≡ n
        → lowest_width rows (frames (drop at rows)) + left_of rows (take (suc zero) (path_at rows at)) ≡ thousandths_at (frames_total rows) (frames_total rows)
    by_count (suc n) is = absurd (let next = is_row (path_at rows at) rows (suc at) n (omega (arith, is)) in omega (arith, last, next))
    by_count zero is =
        let path = path_at rows at in
        let here : lowest_width rows (ended_at rows at) ≡ width_of rows (take (suc zero) path) =
        ap (λ (n : ℕ). lowest_width rows (drop n (prefixes path))) is ∙ width_of_one rows path (some at within) in
        let ends : end_of rows (take (suc zero) path) ≡ frames_total rows =
        closes_at rows at zero ascending within (omega (arith, is)) (some at within) ∙ ap (λ (l : List PathRow). capped (own_sum l)) (take_all (suc at) rows (omega (arith, last))) in
        let right : right_of rows (take (suc zero) path) ≡ thousandths_at (frames_total rows) (frames_total rows) = ap (λ (n : ℕ). thousandths_at (frames_total rows) n) ends in
        let both = width_and_left rows (take (suc zero) path) in
        omega (arith, split, after, here, both, right)
lowest_from rows (suc more) at ascending some last =
    by_count (shared_at rows (suc at)) refl (lowest_from rows more (suc at) ascending some (omega (arith, last)))
  where
    within : at < length rows
    within = omega (arith, last)

    next_within : suc at < length rows
    next_within = omega (arith, last)

    split : lowest_width rows (frames (drop at rows)) ≡ lowest_width rows (ended_at rows at) + lowest_width rows (frames (drop (suc at) rows))
    split = ap (λ (l : List (List ℕ)). lowest_width rows l) (frames_from rows at ascending within) ∙ width_more rows (ended_at rows at) (frames (drop (suc at) rows))

    by_count : (n : ℕ) → shared_at rows (suc at) ≡ n
        → lowest_width rows (frames (drop (suc at) rows)) + left_of rows (take (suc zero) (path_at rows (suc at))) ≡ thousandths_at (frames_total rows) (frames_total rows)
        → lowest_width rows (frames (drop at rows)) + left_of rows (take (suc zero) (path_at rows at)) ≡ thousandths_at (frames_total rows) (frames_total rows)
    by_count (suc n) is again =
        let none : lowest_width rows (ended_at rows at) ≡ 0 =
        ap (λ (k : ℕ). lowest_width rows (drop k (prefixes (path_at rows at)))) is ∙ width_of_none rows (path_at rows at) n in
        let same = ap (λ (frame : List ℕ). left_of rows frame) (same_shared zero (path_at rows at) (path_at rows (suc at)) (omega (arith, is))) in
        omega (arith, split, none, same, again)
    by_count zero is again =
        let path = path_at rows at in
        let here : lowest_width rows (ended_at rows at) ≡ width_of rows (take (suc zero) path) =
        ap (λ (n : ℕ). lowest_width rows (drop n (prefixes path))) is ∙ width_of_one rows path (some at within) in
        let ends = closes_at rows at zero ascending within (omega (arith, is)) (some at within) in
        let starts = (opens_at rows (suc at) zero ascending next_within (omega (arith, is)) (some (suc at) next_within)).left in
        let meet : right_of rows (take (suc zero) path) ≡ left_of rows (take (suc zero) (path_at rows (suc at))) =
        ap (λ (n : ℕ). thousandths_at (frames_total rows) n) ends ∙ starts in
        let both = width_and_left rows (take (suc zero) path) in
        omega (arith, split, here, both, meet, again)

-- ---- all rows

pub lowest_add_up : (rows : List PathRow) → AreStacks rows → LowestAddUp rows
lowest_add_up [] stacks spent = absurd (omega (arith, spent))
lowest_add_up (row ∷ rows) stacks spent =
    let all : List PathRow = row ∷ rows in
    let each : (k : ℕ) → k < length all → 0 < length (path_at all k) =
    λ k within.
    let here = stacks.some k no_row within in
    let same = ap (λ (path : List ℕ). length path) (row_path all k no_row within) in
    omega (arith, here, same) in
    let rising = ascends all stacks.ascending in
    let whole = lowest_from all (length rows) zero rising each (omega arith) in
    let starts = (opens_at all zero zero rising (omega arith) (omega arith) (each zero (omega arith))).left in
    let first : left_of all (take (suc zero) (path_at all zero)) ≡ 0 = sym starts ∙ at_none (frames_total all) in
    let full = at_whole (frames_total all) (omega (arith, spent)) in
    width_is all (frames all) ∙ omega (arith, whole, first, full)
