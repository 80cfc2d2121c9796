-- Frames of one height don't overlap.
use Rattle.std.proofs.Common.{◌≡◌, ◌⊎◌, ◌∙◌, ◌<◌, ◌≤◌, ◌+◌, Bool, true, false, cond, ℕ, List, [], ◌∷◌, filter, length, not, refl, ap, sym, subst, arith, inl, inr}
use Rattle.std.specs.List.{AllByRecursion}
use Rattle.std.proofs.lemmas.Bool.{cases_Bool, cond-false, cond-true, false≢true}
use Rattle.stack_rebuild.specs.Stacks.{PathRow}
use Rattle.stack_rebuild.proofs.Items.{IsIn, Pairwise}
use Rattle.stack_rebuild.specs.Weights.{begins, weight_of}
use Rattle.flame_graph.specs.Frames.{AreStacks, Precedes, end_of, frames, is_begun, prefixes, frame_start, frames_total}
use Rattle.flame_graph.specs.Laws.{IsLeftOf, NoneOverlap}
use Rattle.flame_graph.proofs.Orders.{Ascends, IsBefore, ascends, begins_first}
use Rattle.flame_graph.proofs.FrameSpans.{begun_later, first_place, weight_more, weight_none}
use Rattle.flame_graph.proofs.FramePrefixes.{all_pairs, filter_in, frame_begun, pairwise_append, pairwise_filter, pairwise_weaker, prefix_begins, prefixes_grow}
use Rattle.flame_graph.proofs.FramePlaces.{place_first}
use Rattle.flame_graph.proofs.NestedFrames.{left_le_right}
use Rattle.flame_graph.proofs.Scales.{thousandths_le}

-- ---- prefixes of two paths

-- the prefixes of one height of a path and of a later one are in the order of the paths, or equal
prefixes_ordered : (a b p q : List ℕ) → length a ≡ length b → begins a p ≡ true → begins b q ≡ true → Precedes p q → Precedes a b ⊎ (a ≡ b)
prefixes_ordered [] [] p q same one other before = inr refl
prefixes_ordered [] (g ∷ b) p q same one other before = absurd (omega (arith, same))
prefixes_ordered (f ∷ a) [] p q same one other before = absurd (omega (arith, same))
prefixes_ordered (f ∷ a) (g ∷ b) [] q same one other before = absurd (false≢true one)
prefixes_ordered (f ∷ a) (g ∷ b) (h ∷ p) [] same one other before = absurd (false≢true other)
prefixes_ordered (f ∷ a) (g ∷ b) (h ∷ p) (k ∷ q) same one other before =
    by_order before (λ low. prefixes_ordered a b p q (omega (arith, same)) (begins_first f h a p one).1 (begins_first g k b q other).1 low)
  where
    firsts : (f ≡ h) × (g ≡ k)
    firsts = ((begins_first f h a p one).0, (begins_first g k b q other).0)

    by_order : (h < k) ⊎ ((h ≡ k) × Precedes p q) → (Precedes p q → Precedes a b ⊎ (a ≡ b)) → Precedes (f ∷ a) (g ∷ b) ⊎ (f ∷ a ≡ g ∷ b)
    by_order (inl low) again = inl (inl (omega (arith, firsts.0, firsts.1, low)))
    by_order (inr low) again =
        let first : f ≡ g = firsts.0 ∙ (low.0 ∙ sym firsts.1) in
        elim (again low.1) [
          | inl less ↦ inl (inr (first, less))
          | inr equal ↦ inr (ap (λ (n : ℕ). n ∷ a) first ∙ ap (λ (l : List ℕ). g ∷ l) equal)
        ]

-- prefixes of one height of one path are equal
same_prefix : (a b p : List ℕ) → length a ≡ length b → begins a p ≡ true → begins b p ≡ true → a ≡ b
same_prefix [] [] p same one other = refl
same_prefix [] (g ∷ b) p same one other = absurd (omega (arith, same))
same_prefix (f ∷ a) [] p same one other = absurd (omega (arith, same))
same_prefix (f ∷ a) (g ∷ b) [] same one other = absurd (false≢true one)
same_prefix (f ∷ a) (g ∷ b) (h ∷ p) same one other =
    let first = begins_first f h a p one in
    let second = begins_first g h b p other in
    ap (λ (n : ℕ). n ∷ a) (first.0 ∙ sym second.0) ∙ ap (λ (l : List ℕ). g ∷ l) (same_prefix a b p (omega (arith, same)) first.1 second.1)

never_both : (a b : List ℕ) → Precedes a b → Precedes b a → ⊥
never_both [] [] one other = one
never_both [] (g ∷ b) one other = other
never_both (f ∷ a) [] one other = one
never_both (f ∷ a) (g ∷ b) one other = by_order one other (never_both a b)
  where
    by_order : (f < g) ⊎ ((f ≡ g) × Precedes a b) → (g < f) ⊎ ((g ≡ f) × Precedes b a) → (Precedes a b → Precedes b a → ⊥) → ⊥
    by_order (inl low) (inl high) again = omega (arith, low, high)
    by_order (inl low) (inr high) again = omega (arith, low, high.0)
    by_order (inr low) (inl high) again = omega (arith, low.0, high)
    by_order (inr low) (inr high) again = again low.1 high.1

never_itself : (a b : List ℕ) → Precedes a b → a ≡ b → ⊥
never_itself a b before same = never_both a b before (let P : List ℕ → Type 0 = λ l. Precedes l a in subst P same (let Q : List ℕ → Type 0 = λ l. Precedes a l in subst Q (sym same) before))

-- ---- the order of frames of one height

-- a frame with which a row begins, and one with which a later row does
before_later : (a b : List ℕ) (row : PathRow) (rows : List PathRow) → AllByRecursion (IsBefore row) rows → length a ≡ length b → begins a row.path ≡ true → is_begun rows b ≡ true
    → Precedes a b ⊎ (a ≡ b)
before_later a b row [] after same begun later = absurd (false≢true later)
before_later a b row (r ∷ rows) after same begun later = by_test (cases_Bool (begins b r.path)) (λ rest. before_later a b row rows after.1 same begun rest)
  where
    by_test : (begins b r.path ≡ true) ⊎ (begins b r.path ≡ false) → (is_begun rows b ≡ true → Precedes a b ⊎ (a ≡ b)) → Precedes a b ⊎ (a ≡ b)
    by_test (inl is) again = prefixes_ordered a b row.path r.path same begun is after.0
    by_test (inr misses) again = again (begun_later b r rows misses later)

-- of one height, the first one of two frames comes before the other one
abbrev Ordered : List ℕ → List ℕ → Type 0
Ordered one later = length one ≡ length later → Precedes one later

frames_ordered : (rows : List PathRow) → Ascends rows → Pairwise Ordered (frames rows)
frames_ordered [] ascending = tt
frames_ordered (row ∷ rows) ascending =
    let test : List ℕ → Bool = λ l. not (is_begun rows l) in
    pairwise_append Ordered (filter test (prefixes row.path)) (frames rows)
    (pairwise_filter Ordered test (prefixes row.path)
    (pairwise_weaker (λ (one later : List ℕ). length one < length later) Ordered (prefixes row.path)
    (λ one later less same. absurd (omega (arith, less, same))) (prefixes_grow row.path)))
    (frames_ordered rows ascending.1) across
  where
    across : (one later : List ℕ) → IsIn one (filter (λ (l : List ℕ). not (is_begun rows l)) (prefixes row.path)) → IsIn later (frames rows) → Ordered one later
    across one later here there same =
        let own = filter_in (λ (l : List ℕ). not (is_begun rows l)) (prefixes row.path) one here in
        let begun = (frame_begun rows later there).1 in
        elim (before_later one later row rows ascending.0 same (prefix_begins row.path one own.0).1 begun) [
          | inl before ↦ before
          | inr equal ↦ absurd (false≢true (sym (ap not begun) ∙ (ap (λ (l : List ℕ). not (is_begun rows l)) (sym equal) ∙ own.1)))
        ]

-- ---- in cycles

-- after a row that begins with the later one of two frames, none begins with the earlier one
none_after : (a b : List ℕ) (row : PathRow) (rows : List PathRow) → AllByRecursion (IsBefore row) rows → length a ≡ length b → Precedes a b → begins b row.path ≡ true
    → is_begun (row ∷ rows) a ≡ true → ⊥
none_after a b row rows after same before begun some = by_test (cases_Bool (begins a row.path))
  where
    by_test : (begins a row.path ≡ true) ⊎ (begins a row.path ≡ false) → ⊥
    by_test (inl is) = never_itself a b before (same_prefix a b row.path same is begun)
    by_test (inr misses) = elim (before_later b a row rows after (sym same) begun (begun_later a row rows misses some)) [
      | inl less ↦ never_both a b before less
      | inr equal ↦ never_itself a b before (sym equal)
    ]

-- an earlier frame weighs at most what is before a later one
weight_before : (a b : List ℕ) (rows : List PathRow) → Ascends rows → length a ≡ length b → Precedes a b → weight_of rows a ≤ first_place rows b
weight_before a b [] ascending same before = omega arith
weight_before a b (row ∷ rows) ascending same before = by_test (cases_Bool (begins b row.path)) (cases_Bool (is_begun (row ∷ rows) a)) (weight_before a b rows ascending.1 same before)
  where
    at_most : (t : Bool) (n : ℕ) → cond t n 0 ≤ n
    at_most true n = omega arith
    at_most false n = omega arith

    by_test : (begins b row.path ≡ true) ⊎ (begins b row.path ≡ false) → (is_begun (row ∷ rows) a ≡ true) ⊎ (is_begun (row ∷ rows) a ≡ false)
        → weight_of rows a ≤ first_place rows b → weight_of (row ∷ rows) a ≤ first_place (row ∷ rows) b
    by_test (inl begun) (inl some) again = absurd (none_after a b row rows ascending.0 same before begun some)
    by_test (inl begun) (inr none) again = let nothing = weight_none a (row ∷ rows) none in omega (arith, nothing)
    by_test (inr misses) some again =
        let place = cond-false (begins b row.path) 0 (row.own + first_place rows b) misses in
        let weight = weight_more a row rows in
        let most = at_most (begins a row.path) row.own in
        omega (arith, place, weight, most, again)

-- and it ends there
ends_before : (a b : List ℕ) (rows : List PathRow) → Ascends rows → length a ≡ length b → Precedes a b → is_begun rows a ≡ true
    → first_place rows a + weight_of rows a ≤ first_place rows b
ends_before a b [] ascending same before some = absurd (false≢true some)
ends_before a b (row ∷ rows) ascending same before some =
    by_test (cases_Bool (begins b row.path)) (cases_Bool (begins a row.path)) (λ later. ends_before a b rows ascending.1 same before later)
  where
    by_test : (begins b row.path ≡ true) ⊎ (begins b row.path ≡ false) → (begins a row.path ≡ true) ⊎ (begins a row.path ≡ false)
        → (is_begun rows a ≡ true → first_place rows a + weight_of rows a ≤ first_place rows b) → first_place (row ∷ rows) a + weight_of (row ∷ rows) a ≤ first_place (row ∷ rows) b
    by_test (inl begun) here again = absurd (none_after a b row rows ascending.0 same before begun some)
    by_test (inr misses) (inl is) again =
        let place = cond-true (begins a row.path) 0 (row.own + first_place rows a) is in
        let less = weight_before a b (row ∷ rows) ascending same before in
        omega (arith, place, less)
    by_test (inr misses) (inr nor) again =
        let other = cond-false (begins b row.path) 0 (row.own + first_place rows b) misses in
        let place = cond-false (begins a row.path) 0 (row.own + first_place rows a) nor in
        let none = cond-false (begins a row.path) row.own 0 nor in
        let weight = weight_more a row rows in
        let rest = again (begun_later a row rows nor some) in
        omega (arith, other, place, none, weight, rest)

-- ---- in thousandths of a pixel

is_left : (rows : List PathRow) (a b : List ℕ) → Ascends rows → is_begun rows a ≡ true → is_begun rows b ≡ true → Ordered a b → IsLeftOf rows a b
is_left rows a b ascending some other ordered same =
    let ends = ends_before a b rows ascending same (ordered same) some in
    let first = place_first a rows ascending some in
    let second = place_first b rows ascending other in
    let one = thousandths_le (frames_total rows) (end_of rows a) (frame_start rows b) (omega (arith, ends, first, second)) in
    let own = left_le_right rows a in
    omega (arith, one, own)

left_each : (rows : List PathRow) (all : List (List ℕ)) → Ascends rows → ((frame : List ℕ) → IsIn frame all → is_begun rows frame ≡ true) → Pairwise Ordered all → Pairwise (IsLeftOf rows) all
left_each rows [] ascending begun each = tt
left_each rows (frame ∷ all) ascending begun each =
    (λ later is. is_left rows frame later ascending (begun frame (inl refl)) (begun later (inr is)) (each.0 later is), left_each rows all ascending (λ x is. begun x (inr is)) each.1)

pub none_overlap : (rows : List PathRow) → AreStacks rows → NoneOverlap rows
none_overlap rows stacks =
    let rising = ascends rows stacks.ascending in
    all_pairs (IsLeftOf rows) (frames rows) (left_each rows (frames rows) rising (λ frame is. (frame_begun rows frame is).1) (frames_ordered rows rising))
