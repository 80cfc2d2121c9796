-- Which frames open at a row, and which end there.
use Rattle.std.proofs.Common.{◌≡◌, ◌⊎◌, ◌∙◌, ◌<◌, ◌≤◌, ◌+◌, ◌-◌, add-one, Bool, true, false, cond, not, ℕ, zero, suc, List, [], ◌∷◌, ◌++◌, length, map, filter, take, drop, get_or, refl, ap, sym, subst, arith, inl, inr}
use Rattle.std.specs.List.{AllByRecursion, flat_map}
use Rattle.std.proofs.lemmas.Bool.{cases_Bool, cases_order, cond-false, cond-true, false≢true, not_from_false, not_from_true, or_from, or_left}
use Rattle.std.proofs.lemmas.Grind.{flat_map-append}
use Rattle.std.proofs.lemmas.List.{append-nil, append_assoc, drop-map, drop_all, get_or-drop, get_or-map, get_or_default, length-drop, length-map}
use Rattle.std.proofs.lemmas.List.Sums.{sum_by-append, sum_by-take-le, sum_by_more}
use Rattle.stack_rebuild.specs.Stacks.{PathRow}
use Rattle.stack_rebuild.specs.Weights.{begins, weight_of}
use Rattle.flame_graph.specs.Frames.{Precedes, prefixes, calls_of, capped, end_of, frames, is_begun, own_sum, frame_place, frames_total}
use Rattle.flame_graph.specs.Picture.{is_drawn, most_levels, thousandths_at}
use Rattle.flame_graph.specs.private.Walking.{AreKept, IsKept, IsOpen, Opening, Stands, calls_by, count_left, ended_at, opened, opening_at, path_at, shared, shared_at}
use Rattle.flame_graph.specs.declared.frame.Openings.{Openings}
use Rattle.flame_graph.specs.declared.walk.Walk.{Walk}
use Rattle.flame_graph.proofs.Orders.{Ascends, IsBefore, begins_take, between, same_shared, shared_comm, shared_within, shares, shares_not}
use Rattle.flame_graph.proofs.FrameSpans.{begun_in, calls_at, ends_at, first_place}
use Rattle.flame_graph.proofs.FramePlaces.{place_at, place_first}

-- ---- rows by their positions

pub no_row : PathRow
no_row = record { path = []; count = 0; sum = 0; own = 0 }

pub row_path : (rows : List PathRow) (at : ℕ) (d : PathRow) → at < length rows → (get_or rows at d).path ≡ path_at rows at
row_path [] at d within = absurd (omega (arith, within))
row_path (row ∷ rows) zero d within = refl
row_path (row ∷ rows) (suc at) d within = row_path rows at d (omega (arith, within))

pub split_at : (rows : List PathRow) (at : ℕ) (d : PathRow) → at < length rows → rows ≡ take at rows ++ get_or rows at d ∷ drop (suc at) rows
split_at [] at d within = absurd (omega (arith, within))
split_at (row ∷ rows) zero d within = refl
split_at (row ∷ rows) (suc at) d within = ap (λ (rest : List PathRow). row ∷ rest) (split_at rows at d (omega (arith, within)))

first_precedes : (row : PathRow) (rows : List PathRow) (j : ℕ) → AllByRecursion (IsBefore row) rows → j < length rows → Precedes row.path (path_at rows j)
first_precedes row [] j all within = absurd (omega (arith, within))
first_precedes row (r ∷ rows) zero all within = all.0
first_precedes row (r ∷ rows) (suc j) all within = first_precedes row rows j all.1 (omega (arith, within))

precedes_at : (rows : List PathRow) (i j : ℕ) → Ascends rows → i < j → j < length rows → Precedes (path_at rows i) (path_at rows j)
precedes_at [] i j ascending below within = absurd (omega (arith, within))
precedes_at (row ∷ rows) i zero ascending below within = absurd (omega (arith, below))
precedes_at (row ∷ rows) zero (suc j) ascending below within = first_precedes row rows j ascending.0 (omega (arith, within))
precedes_at (row ∷ rows) (suc i) (suc j) ascending below within = precedes_at rows i j ascending.1 (omega (arith, below)) (omega (arith, within))

-- no row among the first ones begins with a frame
none_in_take : (frame : List ℕ) (rows : List PathRow) (at : ℕ) → at ≤ length rows → ((i : ℕ) → i < at → begins frame (path_at rows i) ≡ false) → is_begun (take at rows) frame ≡ false
none_in_take frame rows zero within each = refl
none_in_take frame [] (suc at) within each = refl
none_in_take frame (row ∷ rows) (suc at) within each =
    or_from (begins frame row.path) (is_begun (take at rows) frame) (each 0 (omega arith))
    (none_in_take frame rows at (omega (arith, within)) (λ i below. each (suc i) (omega (arith, below))))

-- no row among the others does
none_in_drop : (frame : List ℕ) (rows : List PathRow) (at : ℕ) → ((j : ℕ) → at ≤ j → j < length rows → begins frame (path_at rows j) ≡ false) → is_begun (drop at rows) frame ≡ false
none_in_drop frame [] zero each = refl
none_in_drop frame [] (suc at) each = refl
none_in_drop frame (row ∷ rows) zero each =
    or_from (begins frame row.path) (is_begun rows frame) (each 0 (omega arith) (omega arith))
    (none_in_drop frame rows zero (λ j low within. each (suc j) (omega arith) (omega (arith, within))))
none_in_drop frame (row ∷ rows) (suc at) each = none_in_drop frame rows at (λ j low within. each (suc j) (omega (arith, low)) (omega (arith, within)))

-- ---- which frames are those of other rows too

-- a frame that the row before doesn't share is that of no earlier row
pub is_new : (rows : List PathRow) (at n : ℕ) → Ascends rows → at < length rows → shared_at rows at ≤ n → n < length (path_at rows at)
    → is_begun (take at rows) (take (suc n) (path_at rows at)) ≡ false
is_new rows zero n ascending within new few = refl
is_new rows (suc last) n ascending within new few = none_in_take (take (suc n) (path_at rows (suc last))) rows (suc last) (omega (arith, within)) each
  where
    not_last : begins (take (suc n) (path_at rows (suc last))) (path_at rows last) ≡ false
    not_last = shares_not n (path_at rows (suc last)) (path_at rows last) (let same = shared_comm (path_at rows last) (path_at rows (suc last)) in omega (arith, new, same)) few

    by_test : (i : ℕ) → i < last → (begins (take (suc n) (path_at rows (suc last))) (path_at rows i) ≡ true) ⊎ (begins (take (suc n) (path_at rows (suc last))) (path_at rows i) ≡ false)
        → begins (take (suc n) (path_at rows (suc last))) (path_at rows i) ≡ false
    by_test i below (inr misses) = misses
    by_test i below (inl is) =
        absurd (false≢true (sym not_last ∙ between (take (suc n) (path_at rows (suc last))) (path_at rows i) (path_at rows last) (path_at rows (suc last))
        (precedes_at rows i last ascending below (omega (arith, within))) (precedes_at rows last (suc last) ascending (omega arith) within) is
        (begins_take (suc n) (path_at rows (suc last)))))

    each : (i : ℕ) → i < suc last → begins (take (suc n) (path_at rows (suc last))) (path_at rows i) ≡ false
    each i below = by_order (cases_order i last)
      where
        by_order : (i ≡ last) ⊎ ((i < last) ⊎ (last < i)) → begins (take (suc n) (path_at rows (suc last))) (path_at rows i) ≡ false
        by_order (inl same) = ap (λ (k : ℕ). begins (take (suc n) (path_at rows (suc last))) (path_at rows k)) same ∙ not_last
        by_order (inr (inl low)) = by_test i low (cases_Bool (begins (take (suc n) (path_at rows (suc last))) (path_at rows i)))
        by_order (inr (inr high)) = absurd (omega (arith, below, high))

-- a frame that the next row doesn't share is that of no later row
pub is_over : (rows : List PathRow) (at n : ℕ) → Ascends rows → at < length rows → shared (path_at rows at) (path_at rows (suc at)) ≤ n → n < length (path_at rows at)
    → is_begun (drop (suc at) rows) (take (suc n) (path_at rows at)) ≡ false
is_over rows at n ascending within over few = none_in_drop (take (suc n) (path_at rows at)) rows (suc at) each
  where
    not_next : begins (take (suc n) (path_at rows at)) (path_at rows (suc at)) ≡ false
    not_next = shares_not n (path_at rows at) (path_at rows (suc at)) over few

    by_test : (j : ℕ) → suc at < j → j < length rows → (begins (take (suc n) (path_at rows at)) (path_at rows j) ≡ true) ⊎ (begins (take (suc n) (path_at rows at)) (path_at rows j) ≡ false)
        → begins (take (suc n) (path_at rows at)) (path_at rows j) ≡ false
    by_test j high inside (inr misses) = misses
    by_test j high inside (inl is) =
        absurd (false≢true (sym not_next ∙ between (take (suc n) (path_at rows at)) (path_at rows at) (path_at rows (suc at)) (path_at rows j)
        (precedes_at rows at (suc at) ascending (omega arith) (omega (arith, high, inside))) (precedes_at rows (suc at) j ascending high inside)
        (begins_take (suc n) (path_at rows at)) is))

    each : (j : ℕ) → suc at ≤ j → j < length rows → begins (take (suc n) (path_at rows at)) (path_at rows j) ≡ false
    each j low inside = by_order (cases_order j (suc at))
      where
        by_order : (j ≡ suc at) ⊎ ((j < suc at) ⊎ (suc at < j)) → begins (take (suc n) (path_at rows at)) (path_at rows j) ≡ false
        by_order (inl same) = ap (λ (k : ℕ). begins (take (suc n) (path_at rows at)) (path_at rows k)) same ∙ not_next
        by_order (inr (inl below)) = absurd (omega (arith, low, below))
        by_order (inr (inr high)) = by_test j high inside (cases_Bool (begins (take (suc n) (path_at rows at)) (path_at rows j)))

-- a frame that the next row shares isn't over
found : (frame : List ℕ) (rows : List PathRow) (j : ℕ) → j < length rows → begins frame (path_at rows j) ≡ true → is_begun (drop j rows) frame ≡ true
found frame [] j within is = absurd (omega (arith, within))
found frame (row ∷ rows) zero within is = or_left (begins frame row.path) (is_begun rows frame) is
found frame (row ∷ rows) (suc j) within is = found frame rows j (omega (arith, within)) is

pub shared_none : (path : List ℕ) → shared path [] ≡ 0
shared_none [] = refl
shared_none (f ∷ path) = refl

pub is_row : (path : List ℕ) (rows : List PathRow) (j n : ℕ) → n < shared path (path_at rows j) → j < length rows
is_row path [] j n few = absurd (omega (arith, few, shared_none path))
is_row path (row ∷ rows) zero n few = omega arith
is_row path (row ∷ rows) (suc j) n few = let rest = is_row path rows j n few in omega (arith, rest)

pub goes_on : (rows : List PathRow) (at n : ℕ) → n < shared (path_at rows at) (path_at rows (suc at)) → is_begun (drop (suc at) rows) (take (suc n) (path_at rows at)) ≡ true
goes_on rows at n few =
    found (take (suc n) (path_at rows at)) rows (suc at) (is_row (path_at rows at) rows (suc at) n few) (shares n (path_at rows at) (path_at rows (suc at)) few)

-- ---- the frames that end at a row

filter_map : (test : List ℕ → Bool) (g : List ℕ → List ℕ) (xs : List (List ℕ)) → filter test (map g xs) ≡ map g (filter (λ (x : List ℕ). test (g x)) xs)
filter_map test g [] = refl
filter_map test g (x ∷ xs) = by_test (test (g x)) (filter_map test g xs)
  where
    by_test : (t : Bool) → filter test (map g xs) ≡ map g (filter (λ (y : List ℕ). test (g y)) xs)
        → cond t (g x ∷ filter test (map g xs)) (filter test (map g xs)) ≡ map g (cond t (x ∷ filter (λ (y : List ℕ). test (g y)) xs) (filter (λ (y : List ℕ). test (g y)) xs))
    by_test true rest = ap (λ (l : List (List ℕ)). g x ∷ l) rest
    by_test false rest = rest

filter_ended : (test : List ℕ → Bool) (path : List ℕ) (kept : ℕ) → ((n : ℕ) → kept ≤ n → n < length path → test (take (suc n) path) ≡ true)
    → ((n : ℕ) → n < kept → n < length path → test (take (suc n) path) ≡ false) → filter test (prefixes path) ≡ drop kept (prefixes path)
filter_ended test [] zero on off = refl
filter_ended test [] (suc kept) on off = refl
filter_ended test (f ∷ path) zero on off =
    cond-true (test (f ∷ [])) ((f ∷ []) ∷ filter test (map (λ (x : List ℕ). f ∷ x) (prefixes path))) (filter test (map (λ (x : List ℕ). f ∷ x) (prefixes path))) (on 0 (omega arith) (omega arith))
    ∙ ap (λ (l : List (List ℕ)). (f ∷ []) ∷ l)
    (filter_map test (λ (x : List ℕ). f ∷ x) (prefixes path)
    ∙ ap (map (λ (x : List ℕ). f ∷ x)) (filter_ended (λ (x : List ℕ). test (f ∷ x)) path 0 (λ n low few. on (suc n) (omega arith) (omega (arith, few))) (λ n high few. absurd (omega (arith, high)))))
filter_ended test (f ∷ path) (suc kept) on off =
    cond-false (test (f ∷ [])) ((f ∷ []) ∷ filter test (map (λ (x : List ℕ). f ∷ x) (prefixes path))) (filter test (map (λ (x : List ℕ). f ∷ x) (prefixes path))) (off 0 (omega arith) (omega arith))
    ∙ filter_map test (λ (x : List ℕ). f ∷ x) (prefixes path)
    ∙ ap (map (λ (x : List ℕ). f ∷ x))
    (filter_ended (λ (x : List ℕ). test (f ∷ x)) path kept (λ n low few. on (suc n) (omega (arith, low)) (omega (arith, few))) (λ n high few. off (suc n) (omega (arith, high)) (omega (arith, few))))
    ∙ sym (drop-map (λ (x : List ℕ). f ∷ x) kept (prefixes path))

rows_from : (rows : List PathRow) (at : ℕ) (d : PathRow) → at < length rows → drop at rows ≡ get_or rows at d ∷ drop (suc at) rows
rows_from [] at d within = absurd (omega (arith, within))
rows_from (row ∷ rows) zero d within = refl
rows_from (row ∷ rows) (suc at) d within = rows_from rows at d (omega (arith, within))

-- the frames that end at a row, and then those that end later
pub frames_from : (rows : List PathRow) (at : ℕ) → Ascends rows → at < length rows
    → frames (drop at rows) ≡ ended_at rows at ++ frames (drop (suc at) rows)
frames_from rows at ascending within =
    ap frames (rows_from rows at no_row within)
    ∙ ap (λ (fs : List (List ℕ)). fs ++ frames (drop (suc at) rows))
    (ap (λ (path : List ℕ). filter (λ (frame : List ℕ). not (is_begun (drop (suc at) rows) frame)) (prefixes path)) (row_path rows at no_row within)
    ∙ filter_ended (λ (frame : List ℕ). not (is_begun (drop (suc at) rows) frame)) (path_at rows at) (shared (path_at rows at) (path_at rows (suc at)))
    (λ n over few. not_from_false (is_begun (drop (suc at) rows) (take (suc n) (path_at rows at))) (is_over rows at n ascending within over few))
    (λ n shared few. not_from_true (is_begun (drop (suc at) rows) (take (suc n) (path_at rows at))) (goes_on rows at n shared)))

-- ---- where they begin and end

begins_row : (rows : List PathRow) (at n : ℕ) → at < length rows → begins (take (suc n) (path_at rows at)) (get_or rows at no_row).path ≡ true
begins_row rows at n within =
    ap (λ (path : List ℕ). begins (take (suc n) (path_at rows at)) path) (row_path rows at no_row within) ∙ begins_take (suc n) (path_at rows at)

-- a frame that opens at a row
pub opens_at : (rows : List PathRow) (at n : ℕ) → Ascends rows → at < length rows → shared_at rows at ≤ n → n < length (path_at rows at)
    → IsKept rows (take (suc n) (path_at rows at)) (opened rows at)
opens_at rows at n ascending within new few = record {
  left = sym (ap (λ (place : ℕ). thousandths_at (frames_total rows) (capped place)) place_is);
  first = within;
  calls = λ d. ap (λ (row : PathRow). calls_by row (length (take (suc n) (path_at rows at)))) (get_or_default rows at d no_row within) ∙ sym calls_are;
}
  where
    place_is : frame_place rows (take (suc n) (path_at rows at)) ≡ own_sum (take at rows)
    place_is =
        place_at rows (take (suc n) (path_at rows at)) (take at rows) (get_or rows at no_row) (drop (suc at) rows) ascending (split_at rows at no_row within)
        (is_new rows at n ascending within new few) (begins_row rows at n within)

    calls_are : calls_of rows (take (suc n) (path_at rows at)) ≡ calls_by (get_or rows at no_row) (length (take (suc n) (path_at rows at)))
    calls_are =
        ap (λ (rs : List PathRow). calls_of rs (take (suc n) (path_at rows at))) (split_at rows at no_row within)
        ∙ calls_at (take (suc n) (path_at rows at)) (take at rows) (get_or rows at no_row) (drop (suc at) rows)
        (subst Ascends (split_at rows at no_row within) ascending) (is_new rows at n ascending within new few) (begins_row rows at n within)

-- the time up to one row more
pub own_next : (rows : List PathRow) (at : ℕ) (d : PathRow) → at < length rows → own_sum (take (suc at) rows) ≡ own_sum (take at rows) + (get_or rows at d).own
own_next rows at d within =
    ap (λ (n : ℕ). own_sum (take n rows)) (sym (add-one at)) ∙ sum_by_more (λ (row : PathRow). row.own) rows at d within

-- a frame that ends with a row
pub closes_at : (rows : List PathRow) (at n : ℕ) → Ascends rows → at < length rows → shared_at rows (suc at) ≤ n → n < length (path_at rows at)
    → end_of rows (take (suc n) (path_at rows at)) ≡ capped (own_sum (take (suc at) rows))
closes_at rows at n ascending within over few =
    ap (λ (place : ℕ). capped (place + weight_of rows (take (suc n) (path_at rows at))))
    (place_first (take (suc n) (path_at rows at)) rows ascending
    (ap (λ (rs : List PathRow). is_begun rs (take (suc n) (path_at rows at))) (split_at rows at no_row within)
    ∙ begun_in (take (suc n) (path_at rows at)) (take at rows) (get_or rows at no_row) (drop (suc at) rows) (begins_row rows at n within)))
    ∙ ap capped
    (ap (λ (rs : List PathRow). first_place rs (take (suc n) (path_at rows at)) + weight_of rs (take (suc n) (path_at rows at))) (split_at rows at no_row within)
    ∙ ends_at (take (suc n) (path_at rows at)) (take at rows) (get_or rows at no_row) (drop (suc at) rows) (subst Ascends (split_at rows at no_row within) ascending)
    (begins_row rows at n within) (is_over rows at n ascending within over few)
    ∙ sym (own_next rows at no_row within))

-- ---- all frames, row by row

-- those of one row more
pub frames_more : (rows : List PathRow) (at : ℕ) (done : List (List ℕ)) → Ascends rows → at < length rows → frames rows ≡ done ++ frames (drop at rows)
    → frames rows ≡ (done ++ ended_at rows at) ++ frames (drop (at + 1) rows)
frames_more rows at done ascending within so_far =
    so_far ∙ ap (λ (l : List (List ℕ)). done ++ l) (frames_from rows at ascending within) ∙ sym (append_assoc done (ended_at rows at) (frames (drop (suc at) rows)))
    ∙ ap (λ (n : ℕ). (done ++ ended_at rows at) ++ frames (drop n rows)) (sym (add-one at))

pub frames_done : (rows : List PathRow) (at : ℕ) (done : List (List ℕ)) → length rows ≤ at → frames rows ≡ done ++ frames (drop at rows) → done ≡ frames rows
frames_done rows at done all so_far =
    sym (so_far ∙ ap (λ (l : List PathRow). done ++ frames l) (drop_all at rows all) ∙ append-nil done)

-- their texts
pub texts_more : (f : List ℕ → List ℕ) (rows : List PathRow) (at : ℕ) (done more : List (List ℕ)) → frames rows ≡ (done ++ more) ++ frames (drop (at + 1) rows)
    → (flat_map f done ++ flat_map f more) ++ flat_map f (frames (drop (at + 1) rows)) ≡ flat_map f (frames rows)
texts_more f rows at done more whole =
    ap (λ (text : List ℕ). text ++ flat_map f (frames (drop (at + 1) rows))) (sym (flat_map-append f done more))
    ∙ sym (flat_map-append f (done ++ more) (frames (drop (at + 1) rows))) ∙ ap (flat_map f) (sym whole)

-- how many are left out
pub left_more : (rows : List PathRow) (done more : List (List ℕ)) (a b : ℕ) → a ≡ capped (count_left rows done) → b ≡ capped (a + count_left rows more)
    → b ≡ capped (count_left rows (done ++ more))
left_more rows done more a b before now =
    let both = sum_by-append (λ (frame : List ℕ). cond (not (is_drawn rows frame)) 1 0) done more in
    omega (arith, before, now, both)

-- ---- the frames of one row, by how many functions they have

length-prefixes : (path : List ℕ) → length (prefixes path) ≡ length path
length-prefixes [] = refl
length-prefixes (f ∷ path) = let rest = length-prefixes path in let more = length-map (prefixes path) (λ (x : List ℕ). f ∷ x) in omega (arith, rest, more)

prefix_at : (path : List ℕ) (n : ℕ) (d : List ℕ) → n < length path → get_or (prefixes path) n d ≡ take (suc n) path
prefix_at [] n d few = absurd (omega (arith, few))
prefix_at (f ∷ path) zero d few = refl
prefix_at (f ∷ path) (suc n) d few =
    let within : n < length (prefixes path) = omega (arith, few, length-prefixes path) in
    get_or-map (λ (x : List ℕ). f ∷ x) (prefixes path) n d d within ∙ ap (λ (x : List ℕ). f ∷ x) (prefix_at path n d (omega (arith, few)))

pub length-ended : (rows : List PathRow) (at : ℕ) → length (ended_at rows at) ≡ length (path_at rows at) - shared_at rows (suc at)
length-ended rows at = length-drop (shared_at rows (suc at)) (prefixes (path_at rows at)) ∙ ap (λ (n : ℕ). n - shared_at rows (suc at)) (length-prefixes (path_at rows at))

pub ended_is : (rows : List PathRow) (at n : ℕ) (d : List ℕ) → shared_at rows (suc at) ≤ n → n < length (path_at rows at)
    → get_or (ended_at rows at) (n - shared_at rows (suc at)) d ≡ take (suc n) (path_at rows at)
ended_is rows at n d low few =
    get_or-drop (shared_at rows (suc at)) (prefixes (path_at rows at)) (n - shared_at rows (suc at)) d
    ∙ (let seam : shared_at rows (suc at) + (n - shared_at rows (suc at)) ≡ n = omega (arith, low) in
    ap (λ (k : ℕ). get_or (prefixes (path_at rows at)) k d) seam ∙ prefix_at (path_at rows at) n d few)

pub left_step : (rows : List PathRow) (some : List (List ℕ)) (i : ℕ) (d frame : List ℕ) (before a b : ℕ) → i < length some → get_or some i d ≡ frame → a ≡ capped (before + count_left rows (take i some))
    → b ≡ capped (a + cond (is_drawn rows frame) 0 1) → b ≡ capped (before + count_left rows (take (i + 1) some))
left_step rows some i d frame before a b within is so_far now =
    let more = sum_by_more (λ (f : List ℕ). cond (not (is_drawn rows f)) 1 0) some i d within in
    let one = ap {B = ℕ} (λ (f : List ℕ). cond (not (is_drawn rows f)) 1 0) is in
    let same = other_way (is_drawn rows frame) in
    omega (arith, more, one, same, so_far, now)
  where
    other_way : (t : Bool) → let one : ℕ = cond (not t) 1 0 in let other : ℕ = cond t 0 1 in one ≡ other
    other_way true = refl
    other_way false = refl

-- ---- a walk, row by row

-- before the first row
pub stands_first : (rows : List PathRow) (openings : Openings) → Stands rows 0 (record { openings = openings; standing = 0; place = 0 })
stands_first rows openings = record { place = refl; standing = refl; kept = λ n few low. absurd (omega (arith, few)) }

-- a row begins within all rows
pub begins_within : (rows : List PathRow) (at : ℕ) → capped (own_sum (take at rows)) ≤ frames_total rows
begins_within rows at = let all = sum_by-take-le (λ (row : PathRow). row.own) rows at in omega (arith, all)

-- a row is opened
pub row_opens : (rows : List PathRow) (at : ℕ) (old : Walk) (openings : Openings) → Ascends rows → at < length rows → Stands rows at old
    → ((n : ℕ) → n < old.standing → opening_at openings n ≡ opening_at old.openings n)
    → ((n : ℕ) → old.standing ≤ n → n < length (path_at rows at) → n < most_levels → opening_at openings n ≡ opened rows at)
    → AreKept rows (path_at rows at) (length (path_at rows at)) openings
row_opens rows at old openings ascending within stands stay opens n few low = by_order (cases_order n old.standing)
  where
    open_now : old.standing ≤ n → IsKept rows (take (suc n) (path_at rows at)) (opening_at openings n)
    open_now high =
        subst (λ (opening : Opening). IsKept rows (take (suc n) (path_at rows at)) opening) (sym (opens n high few low))
        (opens_at rows at n ascending within (omega (arith, high, stands.standing)) few)

    by_order : (n ≡ old.standing) ⊎ ((n < old.standing) ⊎ (old.standing < n)) → IsKept rows (take (suc n) (path_at rows at)) (opening_at openings n)
    by_order (inl same) = open_now (omega (arith, same))
    by_order (inr (inl below)) = subst (λ (opening : Opening). IsKept rows (take (suc n) (path_at rows at)) opening) (sym (stay n below)) (stands.kept n below low)
    by_order (inr (inr above)) = open_now (omega (arith, above))

-- then the next one may follow
pub next_stands : (rows : List PathRow) (at : ℕ) (walk : Walk) → IsOpen rows at walk → walk.standing ≡ shared_at rows (suc at) → Stands rows (suc at) walk
next_stands rows at walk now standing = record {
  place = now.place;
  standing = standing;
  kept = λ n few low.
      let within = shared_within (path_at rows at) (path_at rows (suc at)) in
      subst (λ (frame : List ℕ). IsKept rows frame (opening_at walk.openings n)) (same_shared n (path_at rows at) (path_at rows (suc at)) (omega (arith, few, standing)))
      (now.kept n (omega (arith, few, standing, within)) low);
}

-- a frame of a row, as it is cut from the row's path
pub frame_cut : (cut path : List ℕ) (outer : ℕ) → cut ≡ path → take (suc outer) path ≡ take (outer + 1) cut
frame_cut cut path outer same = ap (λ (l : List ℕ). take (suc outer) l) (sym same) ∙ ap (λ (k : ℕ). take k cut) (sym (add-one outer))
