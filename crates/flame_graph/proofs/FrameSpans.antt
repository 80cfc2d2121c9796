-- Where a frame begins and ends, by the rows before and after one of its rows.
use Rattle.std.proofs.Common.{◌≡◌, ◌⊎◌, ◌∙◌, ◌+◌, Bool, true, false, cond, ℕ, List, [], ◌∷◌, ◌++◌, length, refl, ap, sym, subst, arith, inl, inr, eqb}
use Rattle.std.specs.Prelude.{◌&&◌, ◌||◌}
use Rattle.std.specs.List.{AllByRecursion}
use Rattle.std.proofs.lemmas.Bool.{and_from, and_left, and_parts, and_right, cases_Bool, cond-false, cond-true, eq-eqb, eqb-true, false≢true, or_left, or_parts, or_right}
use Rattle.std.proofs.lemmas.List.Sums.{sum_by-cons}
use Rattle.stack_rebuild.specs.Stacks.{PathRow}
use Rattle.stack_rebuild.specs.Weights.{begins, weight_of}
use Rattle.flame_graph.specs.Frames.{Precedes, calls_in, calls_of, is_begun, is_frame, no_calls, own_sum}
use Rattle.flame_graph.proofs.Orders.{Ascends, IsBefore, between, no_prefix_after}

-- the time of the rows before the first one whose path begins with a frame
abbrev pub first_place : List PathRow → List ℕ → ℕ
first_place [] frame = 0
first_place (row ∷ later) frame = cond (begins frame row.path) 0 (row.own + first_place later frame)

pub weight_more : (frame : List ℕ) (row : PathRow) (rows : List PathRow) → weight_of (row ∷ rows) frame ≡ cond (begins frame row.path) row.own 0 + weight_of rows frame
weight_more frame row rows = sum_by-cons (λ (r : PathRow). cond (begins frame r.path) r.own 0) row rows

pub own_more : (row : PathRow) (rows : List PathRow) → own_sum (row ∷ rows) ≡ row.own + own_sum rows
own_more row rows = sum_by-cons (λ (r : PathRow). r.own) row rows

-- a frame that no row begins with
pub weight_none : (frame : List ℕ) (rows : List PathRow) → is_begun rows frame ≡ false → weight_of rows frame ≡ 0
weight_none frame [] none = refl
weight_none frame (row ∷ rows) none =
    let parts = or_parts (begins frame row.path) (is_begun rows frame) none in
    weight_more frame row rows ∙ (ap (λ (n : ℕ). n + weight_of rows frame) (cond-false (begins frame row.path) row.own 0 parts.0)
    ∙ (let rest = weight_none frame rows parts.1 in omega (arith, rest)))

-- a row precedes the last of those after it
last_after : (row : PathRow) (before : List PathRow) (last : PathRow) (later : List PathRow) → AllByRecursion (IsBefore row) (before ++ last ∷ later)
    → Precedes row.path last.path
last_after row [] last later all = all.0
last_after row (r ∷ before) last later all = last_after row before last later all.1

-- if two rows begin with a frame, the rows between them do
weight_all : (frame : List ℕ) (first : PathRow) (before : List PathRow) (last : PathRow) (later : List PathRow)
    → AllByRecursion (IsBefore first) (before ++ last ∷ later) → Ascends (before ++ last ∷ later)
    → begins frame first.path ≡ true → begins frame last.path ≡ true → is_begun later frame ≡ false
    → weight_of (before ++ last ∷ later) frame ≡ own_sum before + last.own
weight_all frame first [] last later after ascending begun ends none =
    let rest = weight_none frame later none in
    let here = cond-true (begins frame last.path) last.own 0 ends in
    weight_more frame last later ∙ omega (arith, rest, here)
weight_all frame first (row ∷ before) last later after ascending begun ends none =
    let here : begins frame row.path ≡ true = between frame first.path row.path last.path after.0 (last_after row before last later ascending.0) begun ends in
    let own = cond-true (begins frame row.path) row.own 0 here in
    let rest = weight_all frame first before last later after.1 ascending.1 begun ends none in
    weight_more frame row (before ++ last ∷ later) ∙ (let sums = own_more row before in omega (arith, own, rest, sums))

-- a frame ends with the last row that begins with it
pub ends_at : (frame : List ℕ) (before : List PathRow) (last : PathRow) (later : List PathRow) → Ascends (before ++ last ∷ later)
    → begins frame last.path ≡ true → is_begun later frame ≡ false
    → first_place (before ++ last ∷ later) frame + weight_of (before ++ last ∷ later) frame ≡ own_sum before + last.own
ends_at frame [] last later ascending ends none =
    let place = cond-true (begins frame last.path) 0 (last.own + first_place later frame) ends in
    let here = cond-true (begins frame last.path) last.own 0 ends in
    let rest = weight_none frame later none in
    let sums = weight_more frame last later in
    omega (arith, place, here, rest, sums)
ends_at frame (row ∷ before) last later ascending ends none = by_test (begins frame row.path) refl (ends_at frame before last later ascending.1 ends none)
  where
    by_test : (t : Bool) → begins frame row.path ≡ t
        → first_place (before ++ last ∷ later) frame + weight_of (before ++ last ∷ later) frame ≡ own_sum before + last.own
        → cond (begins frame row.path) 0 (row.own + first_place (before ++ last ∷ later) frame) + weight_of (row ∷ before ++ last ∷ later) frame ≡ own_sum (row ∷ before) + last.own
    by_test true is again =
        let place = cond-true (begins frame row.path) 0 (row.own + first_place (before ++ last ∷ later) frame) is in
        let here = cond-true (begins frame row.path) row.own 0 is in
        let rest = weight_all frame row before last later ascending.0 ascending.1 is ends none in
        let sums = weight_more frame row (before ++ last ∷ later) in
        let owns = own_more row before in
        omega (arith, place, here, rest, sums, owns)
    by_test false is again =
        let place = cond-false (begins frame row.path) 0 (row.own + first_place (before ++ last ∷ later) frame) is in
        let here = cond-false (begins frame row.path) row.own 0 is in
        let rest = again in
        let sums = weight_more frame row (before ++ last ∷ later) in
        let owns = own_more row before in
        omega (arith, place, here, rest, sums, owns)

-- a frame begins with the first row that begins with it
pub starts_at : (frame : List ℕ) (before : List PathRow) (first : PathRow) (later : List PathRow) → is_begun before frame ≡ false → begins frame first.path ≡ true
    → first_place (before ++ first ∷ later) frame ≡ own_sum before
starts_at frame [] first later none begun = cond-true (begins frame first.path) 0 (first.own + first_place later frame) begun
starts_at frame (row ∷ before) first later none begun =
    let parts = or_parts (begins frame row.path) (is_begun before frame) none in
    let place = cond-false (begins frame row.path) 0 (row.own + first_place (before ++ first ∷ later) frame) parts.0 in
    let rest = starts_at frame before first later parts.1 begun in
    let owns = own_more row before in
    omega (arith, place, rest, owns)

-- a path as long as a frame that it begins with is the frame
same_path : (frame path : List ℕ) → begins frame path ≡ true → length path ≡ length frame → path ≡ frame
same_path [] [] begun same = refl
same_path [] (g ∷ path) begun same = absurd (omega (arith, same))
same_path (f ∷ frame) [] begun same = absurd (false≢true begun)
same_path (f ∷ frame) (g ∷ path) begun same =
    let parts = and_parts (eqb f g) (begins frame path) begun in
    ap (λ (h : ℕ). h ∷ path) (sym (eqb-true f g parts.0)) ∙ ap (λ (rest : List ℕ). f ∷ rest) (same_path frame path parts.1 (omega (arith, same)))

-- its calls are those of this row, or it has none
calls_none : (frame : List ℕ) (row : PathRow) (rows : List PathRow) → AllByRecursion (IsBefore row) rows → begins frame row.path ≡ true
    → (length row.path ≡ length frame → ⊥) → calls_of rows frame ≡ no_calls
calls_none frame row [] after begun longer = refl
calls_none frame row (r ∷ rows) after begun longer =
    cond-false (is_frame frame r.path) (calls_in r) (calls_of rows frame) (not_it (cases_Bool (is_frame frame r.path)))
    ∙ calls_none frame row rows after.1 begun longer
  where
    not_it : (is_frame frame r.path ≡ true) ⊎ (is_frame frame r.path ≡ false) → is_frame frame r.path ≡ false
    not_it (inr misses) = misses
    not_it (inl is) =
        let parts = and_parts (begins frame r.path) (eqb (length r.path) (length frame)) is in
        let whole : r.path ≡ frame = same_path frame r.path parts.0 (eqb-true (length r.path) (length frame) parts.1) in
        absurd (no_prefix_after row.path frame (subst (λ (p : List ℕ). Precedes row.path p) whole after.0) begun)

pub calls_at : (frame : List ℕ) (before : List PathRow) (first : PathRow) (later : List PathRow) → Ascends (before ++ first ∷ later)
    → is_begun before frame ≡ false → begins frame first.path ≡ true
    → calls_of (before ++ first ∷ later) frame ≡ cond (eqb (length first.path) (length frame)) (calls_in first) no_calls
calls_at frame [] first later ascending none begun = by_test (eqb (length first.path) (length frame)) refl
  where
    by_test : (t : Bool) → eqb (length first.path) (length frame) ≡ t
        → cond (begins frame first.path && eqb (length first.path) (length frame)) (calls_in first) (calls_of later frame) ≡ cond (eqb (length first.path) (length frame)) (calls_in first) no_calls
    by_test true is =
        cond-true (is_frame frame first.path) (calls_in first) (calls_of later frame) (and_from (begins frame first.path) (eqb (length first.path) (length frame)) begun is)
        ∙ sym (cond-true (eqb (length first.path) (length frame)) (calls_in first) no_calls is)
    by_test false is =
        cond-false (is_frame frame first.path) (calls_in first) (calls_of later frame) (and_right (begins frame first.path) (eqb (length first.path) (length frame)) is)
        ∙ calls_none frame first later ascending.0 begun (λ same. false≢true (sym is ∙ eq-eqb (length first.path) (length frame) same))
        ∙ sym (cond-false (eqb (length first.path) (length frame)) (calls_in first) no_calls is)
calls_at frame (row ∷ before) first later ascending none begun =
    let parts = or_parts (begins frame row.path) (is_begun before frame) none in
    cond-false (is_frame frame row.path) (calls_in row) (calls_of (before ++ first ∷ later) frame) (and_left (begins frame row.path) (eqb (length row.path) (length frame)) parts.0)
    ∙ calls_at frame before first later ascending.1 parts.1 begun

-- ---- rows that begin with a frame

-- if the first row of several doesn't begin with a frame, but some do, a later one does
pub begun_later : (frame : List ℕ) (row : PathRow) (rows : List PathRow) → begins frame row.path ≡ false → is_begun (row ∷ rows) frame ≡ true → is_begun rows frame ≡ true
begun_later frame row rows misses some = sym (ap (λ (t : Bool). t || is_begun rows frame) misses) ∙ some

-- one of several rows begins with a frame
pub begun_in : (frame : List ℕ) (before : List PathRow) (first : PathRow) (later : List PathRow) → begins frame first.path ≡ true
    → is_begun (before ++ first ∷ later) frame ≡ true
begun_in frame [] first later begun = or_left (begins frame first.path) (is_begun later frame) begun
begun_in frame (row ∷ before) first later begun = or_right (begins frame row.path) (is_begun (before ++ first ∷ later) frame) (begun_in frame before first later begun)
