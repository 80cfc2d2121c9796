-- The place of a frame is the time of the rows that stand before the first one whose path begins with it.
use Rattle.std.proofs.Common.{◌≡◌, ◌⊎◌, ◌∙◌, ◌<◌, ◌≤◌, ◌+◌, Bool, true, false, cond, ℕ, List, [], ◌∷◌, ◌++◌, refl, ap, sym, arith, inl, inr}
use Rattle.std.specs.declared.cmp.Ordering.{Ordering}
use Rattle.std.specs.declared.cmp.Ordering.TheVariants.{Less, Equal, Greater}
use Rattle.std.specs.List.{AllByRecursion}
use Rattle.std.specs.Ordering.{is_lt, nat_cmp, ordering_then}
use Rattle.std.proofs.lemmas.Bool.{cases_Bool, cond-false, cond-true, false≢true}
use Rattle.std.specs.Cmp.{nat_cmp_is}
use Rattle.std.proofs.lemmas.List.Sums.{sum_by-cons}
use Rattle.stack_rebuild.specs.Stacks.{PathRow, path_cmp}
use Rattle.stack_rebuild.specs.Weights.{begins, weight_of}
use Rattle.flame_graph.specs.Frames.{AreStacks, Precedes, is_begun, own_sum, frame_place}
use Rattle.flame_graph.specs.Laws.{BeginsAtItsRows}
use Rattle.flame_graph.proofs.Orders.{Ascends, IsBefore, ascends, begins_first, begins_more, no_prefix_after}
use Rattle.flame_graph.proofs.FrameSpans.{begun_in, begun_later, first_place, own_more, starts_at, weight_more}
use Rattle.flame_graph.proofs.StackRows.{precedes}

-- ---- paths before a frame

is_less : (o : Ordering) → is_lt o ≡ true → o ≡ Less
is_less Less is = refl
is_less Equal is = absurd (false≢true is)
is_less Greater is = absurd (false≢true is)

-- a path that precedes one that begins with a frame, and doesn't begin with it itself
before_frame : (frame p q : List ℕ) → Precedes p q → begins frame q ≡ true → begins frame p ≡ false → path_cmp p frame ≡ Less
before_frame [] p q before is isnt = absurd (false≢true (sym isnt))
before_frame (g ∷ frame) [] q before is isnt = refl
before_frame (g ∷ frame) (a ∷ p) [] before is isnt = absurd (false≢true is)
before_frame (g ∷ frame) (a ∷ p) (b ∷ q) before is isnt = by_order before (λ low no. before_frame frame p q low (begins_first g b frame q is).1 no)
  where
    same : g ≡ b
    same = (begins_first g b frame q is).0

    by_order : (a < b) ⊎ ((a ≡ b) × Precedes p q) → (Precedes p q → begins frame p ≡ false → path_cmp p frame ≡ Less) → ordering_then (nat_cmp a g) (path_cmp p frame) ≡ Less
    by_order (inl low) again = ap (λ (o : Ordering). ordering_then o (path_cmp p frame)) (sym (nat_cmp_is a g Less (omega (arith, low, same))))
    by_order (inr low) again =
        let own : g ≡ a = same ∙ sym low.0 in
        let no : begins frame p ≡ false = by_test (cases_Bool (begins frame p)) in
        ap (λ (o : Ordering). ordering_then o (path_cmp p frame)) (sym (nat_cmp_is a g Equal (sym own))) ∙ again low.1 no
      where
        by_test : (begins frame p ≡ true) ⊎ (begins frame p ≡ false) → begins frame p ≡ false
        by_test (inl does) = absurd (false≢true (sym isnt ∙ begins_more g a frame p (same ∙ sym low.0) does))
        by_test (inr misses) = misses

transitive : (p q r : List ℕ) → Precedes p q → Precedes q r → Precedes p r
transitive [] [] r one other = absurd one
transitive [] (b ∷ q) [] one other = other
transitive [] (b ∷ q) (c ∷ r) one other = tt
transitive (a ∷ p) [] r one other = absurd one
transitive (a ∷ p) (b ∷ q) [] one other = other
transitive (a ∷ p) (b ∷ q) (c ∷ r) one other = by_order one other (transitive p q r)
  where
    by_order : (a < b) ⊎ ((a ≡ b) × Precedes p q) → (b < c) ⊎ ((b ≡ c) × Precedes q r) → (Precedes p q → Precedes q r → Precedes p r) → (a < c) ⊎ ((a ≡ c) × Precedes p r)
    by_order (inl low) (inl high) again = inl (omega (arith, low, high))
    by_order (inl low) (inr high) again = inl (omega (arith, low, high.0))
    by_order (inr low) (inl high) again = inl (omega (arith, low.0, high))
    by_order (inr low) (inr high) again = inr (low.0 ∙ high.0, again low.1 high.1)

-- a path that begins with a frame, and each path after it, isn't before the frame
not_before : (frame path : List ℕ) → (Precedes path frame → ⊥) → is_lt (path_cmp path frame) ≡ false
not_before frame path never = by_test (cases_Bool (is_lt (path_cmp path frame)))
  where
    by_test : (is_lt (path_cmp path frame) ≡ true) ⊎ (is_lt (path_cmp path frame) ≡ false) → is_lt (path_cmp path frame) ≡ false
    by_test (inl is) = absurd (never (precedes path frame (is_less (path_cmp path frame) is)))
    by_test (inr isnt) = isnt

-- ---- rows before a frame

before_more : (frame : List ℕ) (row : PathRow) (rows : List PathRow) → frame_place (row ∷ rows) frame ≡ cond (is_lt (path_cmp row.path frame)) row.own 0 + frame_place rows frame
before_more frame row rows = sum_by-cons (λ (r : PathRow). cond (is_lt (path_cmp r.path frame)) r.own 0) row rows

none_before : (frame : List ℕ) (row : PathRow) (rows : List PathRow) → AllByRecursion (IsBefore row) rows → begins frame row.path ≡ true → frame_place rows frame ≡ 0
none_before frame row [] after is = refl
none_before frame row (next ∷ rows) after is =
    let here = not_before frame next.path (λ before. no_prefix_after row.path frame (transitive row.path next.path frame after.0 before) is) in
    let own = cond-false (is_lt (path_cmp next.path frame)) next.own 0 here in
    let rest = none_before frame row rows after.1 is in
    before_more frame next rows ∙ omega (arith, own, rest)

-- a row that doesn't begin with a frame, if a later one does
row_before : (frame : List ℕ) (row : PathRow) (rows : List PathRow) → AllByRecursion (IsBefore row) rows → begins frame row.path ≡ false → is_begun rows frame ≡ true
    → is_lt (path_cmp row.path frame) ≡ true
row_before frame row [] after isnt some = absurd (false≢true some)
row_before frame row (next ∷ rows) after isnt some = by_test (cases_Bool (begins frame next.path)) (λ later. row_before frame row rows after.1 isnt later)
  where
    by_test : (begins frame next.path ≡ true) ⊎ (begins frame next.path ≡ false) → (is_begun rows frame ≡ true → is_lt (path_cmp row.path frame) ≡ true) → is_lt (path_cmp row.path frame) ≡ true
    by_test (inl is) again = ap is_lt (before_frame frame row.path next.path after.0 is isnt)
    by_test (inr misses) again = again (begun_later frame next rows misses some)

pub place_first : (frame : List ℕ) (rows : List PathRow) → Ascends rows → is_begun rows frame ≡ true → frame_place rows frame ≡ first_place rows frame
place_first frame [] ascending some = absurd (false≢true some)
place_first frame (row ∷ rows) ascending some = by_test (cases_Bool (begins frame row.path)) (place_first frame rows ascending.1)
  where
    by_test : (begins frame row.path ≡ true) ⊎ (begins frame row.path ≡ false) → (is_begun rows frame ≡ true → frame_place rows frame ≡ first_place rows frame)
        → frame_place (row ∷ rows) frame ≡ first_place (row ∷ rows) frame
    by_test (inl is) again =
        let place = cond-true (begins frame row.path) 0 (row.own + first_place rows frame) is in
        let here = cond-false (is_lt (path_cmp row.path frame)) row.own 0 (not_before frame row.path (λ before. no_prefix_after row.path frame before is)) in
        let later = none_before frame row rows ascending.0 is in
        let sums = before_more frame row rows in
        omega (arith, place, here, later, sums)
    by_test (inr isnt) again =
        let some_later = begun_later frame row rows isnt some in
        let place = cond-false (begins frame row.path) 0 (row.own + first_place rows frame) isnt in
        let here = cond-true (is_lt (path_cmp row.path frame)) row.own 0 (row_before frame row rows ascending.0 isnt some_later) in
        let later = again some_later in
        let sums = before_more frame row rows in
        omega (arith, place, here, later, sums)

-- if no row before one begins with a frame, and this one does, the frame begins after the others
pub place_at : (rows : List PathRow) (frame : List ℕ) (before : List PathRow) (first : PathRow) (later : List PathRow) → Ascends rows → rows ≡ before ++ first ∷ later
    → is_begun before frame ≡ false → begins frame first.path ≡ true → frame_place rows frame ≡ own_sum before
place_at rows frame before first later ascending whole none begun =
    place_first frame rows ascending (ap (λ (rs : List PathRow). is_begun rs frame) whole ∙ begun_in frame before first later begun)
    ∙ (ap (λ (rs : List PathRow). first_place rs frame) whole ∙ starts_at frame before first later none begun)

pub begins_at_its_rows : (rows : List PathRow) (frame : List ℕ) → AreStacks rows → BeginsAtItsRows rows frame
begins_at_its_rows rows frame stacks before later first whole none begun = place_at rows frame before first later (ascends rows stacks.ascending) whole none begun

-- ---- all rows

-- a frame ends within them
pub span_within : (frame : List ℕ) (rows : List PathRow) → frame_place rows frame + weight_of rows frame ≤ own_sum rows
span_within frame [] = omega arith
span_within frame (row ∷ rows) = by_test (cases_Bool (begins frame row.path)) (span_within frame rows)
  where
    at_most : (t : Bool) (n : ℕ) → cond t n 0 ≤ n
    at_most true n = omega arith
    at_most false n = omega arith

    by_test : (begins frame row.path ≡ true) ⊎ (begins frame row.path ≡ false) → frame_place rows frame + weight_of rows frame ≤ own_sum rows
        → frame_place (row ∷ rows) frame + weight_of (row ∷ rows) frame ≤ own_sum (row ∷ rows)
    by_test (inl is) again =
        let none = cond-false (is_lt (path_cmp row.path frame)) row.own 0 (not_before frame row.path (λ before. no_prefix_after row.path frame before is)) in
        let most = at_most (begins frame row.path) row.own in
        omega (arith, none, most, again, before_more frame row rows, weight_more frame row rows, own_more row rows)
    by_test (inr isnt) again =
        let none = cond-false (begins frame row.path) row.own 0 isnt in
        let most = at_most (is_lt (path_cmp row.path frame)) row.own in
        omega (arith, none, most, again, before_more frame row rows, weight_more frame row rows, own_more row rows)
