-- No frame sticks out of one that it begins with.
use Rattle.std.proofs.Common.{◌≡◌, ◌⊎◌, ◌∙◌, ◌≤◌, ◌+◌, ◌-◌, true, false, cond, ℕ, List, [], ◌∷◌, filter, length, not, refl, sym, arith, inl, inr}
use Rattle.std.specs.Prelude.{All}
use Rattle.std.specs.List.{AllByRecursion}
use Rattle.std.proofs.lemmas.Bool.{cases_Bool, cond-false, cond-true, false≢true, false_from_ne_true, or_left, or_right}
use Rattle.std.proofs.lemmas.List.Elements.{All-append, All-cons, All-filter, All-map, All-nil, All-weaker}
use Rattle.std.proofs.lemmas.List.Sums.{sum_by-le-sum_by}
use Rattle.stack_rebuild.specs.Stacks.{PathRow}
use Rattle.stack_rebuild.specs.Weights.{begins, weight_of}
use Rattle.flame_graph.specs.Frames.{AreStacks, prefixes, end_of, frames, is_begun, frame_start, frames_total}
use Rattle.flame_graph.specs.Laws.{IsWithin, NoneSticksOut, below}
use Rattle.flame_graph.specs.Picture.{left_of, right_of}
use Rattle.flame_graph.proofs.Orders.{Ascends, IsBefore, ascends, begins_first, begins_more, begins_take, between}
use Rattle.flame_graph.proofs.Scales.{thousandths_le}
use Rattle.flame_graph.proofs.FrameSpans.{begun_later, first_place, weight_more}
use Rattle.flame_graph.proofs.FramePlaces.{place_first}

-- ---- which paths begin with a frame and with an outer one

begins_both : (outer frame path : List ℕ) → begins outer frame ≡ true → begins frame path ≡ true → begins outer path ≡ true
begins_both [] frame path on is = refl
begins_both (g ∷ outer) [] path on is = absurd (false≢true on)
begins_both (g ∷ outer) (f ∷ frame) [] on is = absurd (false≢true is)
begins_both (g ∷ outer) (f ∷ frame) (h ∷ path) on is =
    let first = begins_first g f outer frame on in
    let second = begins_first f h frame path is in
    begins_more g h outer path (first.0 ∙ second.0) (begins_both outer frame path first.1 second.1)

begun_outer : (outer frame : List ℕ) (rows : List PathRow) → begins outer frame ≡ true → is_begun rows frame ≡ true → is_begun rows outer ≡ true
begun_outer outer frame [] on some = absurd (false≢true some)
begun_outer outer frame (row ∷ rows) on some = by_test (cases_Bool (begins frame row.path)) (λ rest. begun_outer outer frame rows on rest)
  where
    by_test : (begins frame row.path ≡ true) ⊎ (begins frame row.path ≡ false) → (is_begun rows frame ≡ true → is_begun rows outer ≡ true) → is_begun (row ∷ rows) outer ≡ true
    by_test (inl is) again = or_left (begins outer row.path) (is_begun rows outer) (begins_both outer frame row.path on is)
    by_test (inr misses) again = or_right (begins outer row.path) (is_begun rows outer) (again (begun_later frame row rows misses some))

-- a row between one that begins with a frame and later ones of which some do begins with it
begins_between : (outer : List ℕ) (row next : PathRow) (rows : List PathRow) → IsBefore row next → AllByRecursion (IsBefore next) rows → begins outer row.path ≡ true
    → is_begun rows outer ≡ true → begins outer next.path ≡ true
begins_between outer row next [] before after begun some = absurd (false≢true some)
begins_between outer row next (r ∷ rows) before after begun some = by_test (cases_Bool (begins outer r.path)) (λ rest. begins_between outer row next rows before after.1 begun rest)
  where
    by_test : (begins outer r.path ≡ true) ⊎ (begins outer r.path ≡ false) → (is_begun rows outer ≡ true → begins outer next.path ≡ true) → begins outer next.path ≡ true
    by_test (inl is) again = between outer row.path next.path r.path before after.0 begun is
    by_test (inr misses) again = again (begun_later outer r rows misses some)

-- ---- in cycles

-- a frame weighs at most as much as an outer one
pub weight_le : (outer frame : List ℕ) (rows : List PathRow) → begins outer frame ≡ true → weight_of rows frame ≤ weight_of rows outer
weight_le outer frame rows on =
    sum_by-le-sum_by (λ (r : PathRow). cond (begins frame r.path) r.own 0) (λ (r : PathRow). cond (begins outer r.path) r.own 0) rows (λ r. at_most r (cases_Bool (begins frame r.path)))
  where
    at_most : (r : PathRow) → (begins frame r.path ≡ true) ⊎ (begins frame r.path ≡ false) → cond (begins frame r.path) r.own 0 ≤ cond (begins outer r.path) r.own 0
    at_most r (inl is) =
        let here = cond-true (begins frame r.path) r.own 0 is in
        let there = cond-true (begins outer r.path) r.own 0 (begins_both outer frame r.path on is) in
        omega (arith, here, there)
    at_most r (inr misses) = let here = cond-false (begins frame r.path) r.own 0 misses in omega (arith, here)

-- after a row that begins with an outer frame, a frame ends within it
ends_within : (outer frame : List ℕ) (row : PathRow) (rows : List PathRow) → begins outer frame ≡ true → begins outer row.path ≡ true
    → AllByRecursion (IsBefore row) rows → Ascends rows → is_begun rows frame ≡ true → first_place rows frame + weight_of rows frame ≤ weight_of rows outer
ends_within outer frame row [] on begun after ascending some = absurd (false≢true some)
ends_within outer frame row (next ∷ rows) on begun after ascending some =
    by_test (cases_Bool (begins frame next.path)) (λ rest. ends_within outer frame row rows on begun after.1 ascending.1 rest)
  where
    by_test : (begins frame next.path ≡ true) ⊎ (begins frame next.path ≡ false) → (is_begun rows frame ≡ true → first_place rows frame + weight_of rows frame ≤ weight_of rows outer)
        → first_place (next ∷ rows) frame + weight_of (next ∷ rows) frame ≤ weight_of (next ∷ rows) outer
    by_test (inl is) again =
        let place = cond-true (begins frame next.path) 0 (next.own + first_place rows frame) is in
        let less = weight_le outer frame (next ∷ rows) on in
        omega (arith, place, less)
    by_test (inr misses) again =
        let later = begun_later frame next rows misses some in
        let place = cond-false (begins frame next.path) 0 (next.own + first_place rows frame) misses in
        let none = cond-false (begins frame next.path) next.own 0 misses in
        let weight = weight_more frame next rows in
        let here = cond-true (begins outer next.path) next.own 0 (begins_between outer row next rows after.0 ascending.0 begun (begun_outer outer frame rows on later)) in
        let whole = weight_more outer next rows in
        let rest = again later in
        omega (arith, place, none, weight, here, whole, rest)

-- a frame begins no earlier than an outer one
pub starts_within : (outer frame : List ℕ) (rows : List PathRow) → begins outer frame ≡ true → first_place rows outer ≤ first_place rows frame
starts_within outer frame [] on = omega arith
starts_within outer frame (row ∷ rows) on = by_test (cases_Bool (begins outer row.path)) (starts_within outer frame rows on)
  where
    by_test : (begins outer row.path ≡ true) ⊎ (begins outer row.path ≡ false) → first_place rows outer ≤ first_place rows frame → first_place (row ∷ rows) outer ≤ first_place (row ∷ rows) frame
    by_test (inl is) again = let place = cond-true (begins outer row.path) 0 (row.own + first_place rows outer) is in omega (arith, place)
    by_test (inr misses) again =
        let none = false_from_ne_true (begins frame row.path) (λ is. false≢true (sym misses ∙ begins_both outer frame row.path on is)) in
        let place = cond-false (begins outer row.path) 0 (row.own + first_place rows outer) misses in
        let other = cond-false (begins frame row.path) 0 (row.own + first_place rows frame) none in
        omega (arith, place, other, again)

-- and it ends no later
pub frame_within : (outer frame : List ℕ) (rows : List PathRow) → begins outer frame ≡ true → Ascends rows → is_begun rows frame ≡ true
    → first_place rows frame + weight_of rows frame ≤ first_place rows outer + weight_of rows outer
frame_within outer frame [] on ascending some = absurd (false≢true some)
frame_within outer frame (row ∷ rows) on ascending some =
    by_tests (cases_Bool (begins frame row.path)) (cases_Bool (begins outer row.path)) (λ rest. frame_within outer frame rows on ascending.1 rest)
  where
    by_tests : (begins frame row.path ≡ true) ⊎ (begins frame row.path ≡ false) → (begins outer row.path ≡ true) ⊎ (begins outer row.path ≡ false)
        → (is_begun rows frame ≡ true → first_place rows frame + weight_of rows frame ≤ first_place rows outer + weight_of rows outer)
        → first_place (row ∷ rows) frame + weight_of (row ∷ rows) frame ≤ first_place (row ∷ rows) outer + weight_of (row ∷ rows) outer
    by_tests (inl is) begun again =
        let place = cond-true (begins frame row.path) 0 (row.own + first_place rows frame) is in
        let less = weight_le outer frame (row ∷ rows) on in
        omega (arith, place, less)
    by_tests (inr misses) (inl begun) again =
        let later = begun_later frame row rows misses some in
        let place = cond-false (begins frame row.path) 0 (row.own + first_place rows frame) misses in
        let none = cond-false (begins frame row.path) row.own 0 misses in
        let weight = weight_more frame row rows in
        let here = cond-true (begins outer row.path) row.own 0 begun in
        let whole = weight_more outer row rows in
        let rest = ends_within outer frame row rows on begun ascending.0 ascending.1 later in
        omega (arith, place, none, weight, here, whole, rest)
    by_tests (inr misses) (inr nor) again =
        let place = cond-false (begins frame row.path) 0 (row.own + first_place rows frame) misses in
        let none = cond-false (begins frame row.path) row.own 0 misses in
        let weight = weight_more frame row rows in
        let other = cond-false (begins outer row.path) 0 (row.own + first_place rows outer) nor in
        let neither = cond-false (begins outer row.path) row.own 0 nor in
        let whole = weight_more outer row rows in
        let rest = again (begun_later frame row rows misses some) in
        omega (arith, place, none, weight, other, neither, whole, rest)

-- ---- in thousandths of a pixel

pub left_le_right : (rows : List PathRow) (frame : List ℕ) → left_of rows frame ≤ right_of rows frame
left_le_right rows frame = thousandths_le (frames_total rows) (frame_start rows frame) (end_of rows frame) (omega arith)

is_within : (rows : List PathRow) (frame outer : List ℕ) → Ascends rows → begins outer frame ≡ true → is_begun rows frame ≡ true → IsWithin rows frame outer
is_within rows frame outer ascending on some =
    let starts = starts_within outer frame rows on in
    let ends = frame_within outer frame rows on ascending some in
    let own = place_first frame rows ascending some in
    let its = place_first outer rows ascending (begun_outer outer frame rows on some) in
    let lefts = thousandths_le (frames_total rows) (frame_start rows outer) (frame_start rows frame) (omega (arith, starts, own, its)) in
    let rights = thousandths_le (frames_total rows) (end_of rows frame) (end_of rows outer) (omega (arith, ends, own, its)) in
    let one = left_le_right rows frame in
    let other = left_le_right rows outer in
    record { left = lefts; right = omega (arith, lefts, rights, one, other) }

-- ---- all frames

all_prefixes : (path : List ℕ) → All (λ (frame : List ℕ). begins frame path ≡ true) (prefixes path)
all_prefixes [] = All-nil (λ (frame : List ℕ). begins frame [] ≡ true)
all_prefixes (f ∷ path) =
    All-cons (λ (frame : List ℕ). begins frame (f ∷ path) ≡ true) (f ∷ []) _ (begins_more f f [] path refl refl)
    (All-map (λ (frame : List ℕ). begins frame (f ∷ path) ≡ true) (λ (frame : List ℕ). f ∷ frame) (prefixes path)
    (All-weaker (λ (frame : List ℕ). begins frame path ≡ true) (λ (frame : List ℕ). begins (f ∷ frame) (f ∷ path) ≡ true) (λ frame is. begins_more f f frame path refl is) (prefixes path) (all_prefixes path)))

pub all_begun : (rows : List PathRow) → All (λ (frame : List ℕ). is_begun rows frame ≡ true) (frames rows)
all_begun [] = All-nil (λ (frame : List ℕ). is_begun [] frame ≡ true)
all_begun (row ∷ rows) =
    All-append (λ (frame : List ℕ). is_begun (row ∷ rows) frame ≡ true) (filter (λ (frame : List ℕ). not (is_begun rows frame)) (prefixes row.path)) (frames rows)
    (All-weaker (λ (frame : List ℕ). begins frame row.path ≡ true) (λ (frame : List ℕ). is_begun (row ∷ rows) frame ≡ true) (λ frame is. or_left (begins frame row.path) (is_begun rows frame) is)
    (filter (λ (frame : List ℕ). not (is_begun rows frame)) (prefixes row.path))
    (All-filter (λ (frame : List ℕ). not (is_begun rows frame)) (λ (frame : List ℕ). begins frame row.path ≡ true) (prefixes row.path) (all_prefixes row.path)))
    (All-weaker (λ (frame : List ℕ). is_begun rows frame ≡ true) (λ (frame : List ℕ). is_begun (row ∷ rows) frame ≡ true) (λ frame is. or_right (begins frame row.path) (is_begun rows frame) is) (frames rows) (all_begun rows))

pub none_sticks_out : (rows : List PathRow) → AreStacks rows → NoneSticksOut rows
none_sticks_out rows stacks =
    All-weaker (λ (frame : List ℕ). is_begun rows frame ≡ true) (λ (frame : List ℕ). IsWithin rows frame (below frame))
    (λ frame some. is_within rows frame (below frame) (ascends rows stacks.ascending) (begins_take (length frame - 1) frame) some) (frames rows) (all_begun rows)
