-- The rows of all paths, sorted.
use Rattle.std.proofs.Common.{◌≡◌, ◌⊎◌, ◌+◌, ◌++◌, ◌<◌, ◌∙◌, ℕ, suc, Bool, true, false, cond, List, [], ◌∷◌, length, map, refl, ap, sym, subst, arith, nat_eq, nat_lt, get_or, inl, inr, count_by}
use Rattle.std.specs.Prelude.{IsPermutation, All}
use Rattle.std.specs.declared.cmp.Ordering.{Ordering}
use Rattle.std.specs.declared.cmp.Ordering.TheVariants.{Less, Equal, Greater}
use Rattle.std.specs.Ordering.{eq_by_cmp, is_eq, is_lt, ordering_reverse}
use Rattle.std.specs.Cmp.{IsStrictWeakOrder, eq_by_cmp_equiv}
use Rattle.std.specs.Cmp.Lexicographic.{nat_list_cmp_total}
use Rattle.std.specs.List.{AllByRecursion, IsDistinct, range_with_len}
use Rattle.std.specs.List.Sorted.{IsSortedBy}
use Rattle.std.proofs.lemmas.Bool.Decides.{nat_tests}
use Rattle.std.proofs.lemmas.List.{map-append}
use Rattle.std.proofs.lemmas.List.Elements.{All-append, All-cons, All-head, All-nil, All-tail}
use Rattle.std.proofs.lemmas.List.MinMax.{ranks_by}
use Rattle.std.proofs.lemmas.List.Sorted.{All-permutation, IsPermutation-map, IsPermutation-sym}
use Rattle.std.proofs.lemmas.List.Sums.{sum_by-cons}
use Rattle.std.proofs.lemmas.Map.Keys.{IsDistinct-head, IsDistinct-IsPermutation, IsDistinct-cons, IsDistinct-tail}
use Rattle.stack_rebuild.specs.declared.tally.Tally.{Tally}
use Rattle.stack_rebuild.specs.declared.stack_row.StackRow.{StackRow}
use Rattle.stack_rebuild.specs.Ascending.{each_once}
use Rattle.stack_rebuild.specs.PathSums.{AllNumbered, AreSums, no_tally, path_at, tally_of}
use Rattle.stack_rebuild.specs.private.Rows.{row_before, row_by, rows_at, rows_for}
use Rattle.stack_rebuild.specs.Stacks.{PathRow, Timed, has_path, path_cmp, path_row, told}
use Rattle.stack_rebuild.proofs.Orders.{order_all, order_distinct, order_low}
use Rattle.stack_rebuild.proofs.AscendingLists.{Strict, each_in, is_each_once}
use Rattle.stack_rebuild.proofs.Items.{IsIn, all_in, in_permutation, map-in}
use Rattle.stack_rebuild.proofs.Sums.{has_own, has_path-same, path_cmp_equal}

abbrev paths_of_rows : List PathRow → List (List ℕ)
paths_of_rows rows = map (λ (row : PathRow). row.path) rows

abbrev paths_of_pairs : List Timed → List (List ℕ)
paths_of_pairs pairs = map (λ (pair : Timed). pair.path) pairs

-- ---- items of lists

in-append : {X : Type 0} (xs ys : List X) (z : X) → IsIn z (xs ++ ys) → IsIn z xs ⊎ IsIn z ys
in-append [] ys z is = inr is
in-append (x ∷ xs) ys z (inl is) = inl (inl is)
in-append {X} (x ∷ xs) ys z (inr is) = moved (in-append xs ys z is)
  where
    moved : IsIn z xs ⊎ IsIn z ys → IsIn z (x ∷ xs) ⊎ IsIn z ys
    moved (inl there) = inl (inr there)
    moved (inr there) = inr there

append-left : {X : Type 0} (xs ys : List X) (z : X) → IsIn z xs → IsIn z (xs ++ ys)
append-left [] ys z is = absurd is
append-left (x ∷ xs) ys z (inl is) = inl is
append-left (x ∷ xs) ys z (inr is) = inr (append-left xs ys z is)

append-right : {X : Type 0} (xs ys : List X) (z : X) → IsIn z ys → IsIn z (xs ++ ys)
append-right [] ys z is = is
append-right (x ∷ xs) ys z is = inr (append-right xs ys z is)

-- ---- the pairs of a path

-- a path that is counted is that of a pair
pub counted-in : (path : List ℕ) (pairs : List Timed) → 0 < count_by (has_path path) pairs → IsIn path (paths_of_pairs pairs)
counted-in path [] some = absurd (omega arith)
counted-in path (pair ∷ pairs) some = by_first (has_path path pair) refl (counted-in path pairs)
  where
    by_first : (b : Bool) → has_path path pair ≡ b → (0 < count_by (has_path path) pairs → IsIn path (paths_of_pairs pairs)) → IsIn path (paths_of_pairs (pair ∷ pairs))
    by_first true is later = inl (sym (has_path-same path pair is))
    by_first false is later = inr (later (omega (arith, some, sum_by-cons (λ (p : Timed). cond (has_path path p) 1 0) pair pairs, ap {B = ℕ} (λ b. cond b 1 0) is)))

pub in-counted : (path : List ℕ) (pairs : List Timed) → IsIn path (paths_of_pairs pairs) → 0 < count_by (has_path path) pairs
in-counted path [] is = absurd is
in-counted path (pair ∷ pairs) (inl is) =
    let has : has_path path pair ≡ true = ap (λ (p : List ℕ). has_path p pair) is ∙ has_own pair in
    omega (arith, sum_by-cons (λ (p : Timed). cond (has_path path p) 1 0) pair pairs, ap {B = ℕ} (λ b. cond b 1 0) has)
in-counted path (pair ∷ pairs) (inr is) =
    omega (arith, sum_by-cons (λ (p : Timed). cond (has_path path p) 1 0) pair pairs, in-counted path pairs is)

-- ---- the rows of paths, by their numbers

row_is : (paths : List (List ℕ)) (tallies : List Tally) (pairs : List Timed) → AreSums paths tallies pairs → (n : ℕ) → n < length paths
    → row_by (path_at paths n) (get_or tallies n no_tally) ≡ path_row pairs (path_at paths n)
row_is paths tallies pairs sums n low = ap (row_by (path_at paths n)) (sums.each n no_tally (omega (arith, low, sums.level)))

-- each row is that of its path
pub rows_are : (paths : List (List ℕ)) (tallies : List Tally) (pairs : List Timed) → AreSums paths tallies pairs → (numbers : List ℕ)
    → All (λ (n : ℕ). n < length paths) numbers
    → All (λ (row : PathRow). row ≡ path_row pairs row.path) (rows_for paths tallies numbers)
rows_are paths tallies pairs sums [] low = All-nil (λ (row : PathRow). row ≡ path_row pairs row.path)
rows_are paths tallies pairs sums (n ∷ numbers) low =
    All-append (λ (row : PathRow). row ≡ path_row pairs row.path) (rows_at paths tallies n) (rows_for paths tallies numbers)
    (by_count (nat_lt 0 (get_or tallies n no_tally).count))
    (rows_are paths tallies pairs sums numbers (All-tail (λ (k : ℕ). k < length paths) n numbers low))
  where
    by_count : (b : Bool) → All (λ (row : PathRow). row ≡ path_row pairs row.path) (cond b (row_by (path_at paths n) (get_or tallies n no_tally) ∷ []) [])
    by_count true =
        All-cons (λ (row : PathRow). row ≡ path_row pairs row.path) (row_by (path_at paths n) (get_or tallies n no_tally)) []
        (row_is paths tallies pairs sums n (All-head (λ (k : ℕ). k < length paths) n numbers low)) (All-nil (λ (row : PathRow). row ≡ path_row pairs row.path))
    by_count false = All-nil (λ (row : PathRow). row ≡ path_row pairs row.path)

-- the path of a row has one of the numbers, and it has pairs
rows-in : (paths : List (List ℕ)) (tallies : List Tally) (numbers : List ℕ) (path : List ℕ) → IsIn path (paths_of_rows (rows_for paths tallies numbers))
    → (k : ℕ) × IsIn k numbers × (path_at paths k ≡ path) × (0 < (get_or tallies k no_tally).count)
rows-in paths tallies [] path is = absurd is
rows-in paths tallies (n ∷ numbers) path is =
    by_place (in-append (paths_of_rows (rows_at paths tallies n)) (paths_of_rows (rows_for paths tallies numbers)) path
    (subst (IsIn path) (map-append (λ (row : PathRow). row.path) (rows_at paths tallies n) (rows_for paths tallies numbers)) is))
    (rows-in paths tallies numbers path)
  where
    here : (b : Bool) → nat_lt 0 (get_or tallies n no_tally).count ≡ b
        → IsIn path (paths_of_rows (cond b (row_by (path_at paths n) (get_or tallies n no_tally) ∷ []) []))
        → (k : ℕ) × IsIn k (n ∷ numbers) × (path_at paths k ≡ path) × (0 < (get_or tallies k no_tally).count)
    here true some (inl at) = (n, inl refl, sym at, (let e : nat_lt 0 (get_or tallies n no_tally).count ≡ true = some in grind (arith, nat_tests)))
    here true some (inr at) = absurd at
    here false some at = absurd at

    by_place : IsIn path (paths_of_rows (rows_at paths tallies n)) ⊎ IsIn path (paths_of_rows (rows_for paths tallies numbers))
        → (IsIn path (paths_of_rows (rows_for paths tallies numbers))
        → (k : ℕ) × IsIn k numbers × (path_at paths k ≡ path) × (0 < (get_or tallies k no_tally).count))
        → (k : ℕ) × IsIn k (n ∷ numbers) × (path_at paths k ≡ path) × (0 < (get_or tallies k no_tally).count)
    by_place (inl there) later = here (nat_lt 0 (get_or tallies n no_tally).count) refl there
    by_place (inr there) later = let own = later there in (own.0, inr own.1, own.2, own.3)

in-rows : (paths : List (List ℕ)) (tallies : List Tally) (numbers : List ℕ) (k : ℕ) → IsIn k numbers → 0 < (get_or tallies k no_tally).count
    → IsIn (path_at paths k) (paths_of_rows (rows_for paths tallies numbers))
in-rows paths tallies [] k is some = absurd is
in-rows paths tallies (n ∷ numbers) k is some =
    subst (IsIn (path_at paths k)) (sym (map-append (λ (row : PathRow). row.path) (rows_at paths tallies n) (rows_for paths tallies numbers)))
    (by_place is (λ later. in-rows paths tallies numbers k later some))
  where
    by_place : IsIn k (n ∷ numbers) → (IsIn k numbers → IsIn (path_at paths k) (paths_of_rows (rows_for paths tallies numbers)))
        → IsIn (path_at paths k) (paths_of_rows (rows_at paths tallies n) ++ paths_of_rows (rows_for paths tallies numbers))
    by_place (inl same) later =
        let counted : nat_lt 0 (get_or tallies n no_tally).count ≡ true =
        let high : 0 < (get_or tallies n no_tally).count = subst (λ (i : ℕ). 0 < (get_or tallies i no_tally).count) same some in grind (arith, nat_tests) in
        append-left (paths_of_rows (rows_at paths tallies n)) (paths_of_rows (rows_for paths tallies numbers)) (path_at paths k)
        (subst (λ (b : Bool). IsIn (path_at paths k) (paths_of_rows (cond b (row_by (path_at paths n) (get_or tallies n no_tally) ∷ []) []))) (sym counted)
        (inl (ap (path_at paths) same)))
    by_place (inr there) later =
        append-right (paths_of_rows (rows_at paths tallies n)) (paths_of_rows (rows_for paths tallies numbers)) (path_at paths k) (later there)

-- no two rows have the same path
apart_in : (n : ℕ) (numbers : List ℕ) → AllByRecursion (λ (k : ℕ). nat_eq n k ≡ false) numbers → (k : ℕ) → IsIn k numbers → n ≡ k → ⊥
apart_in n numbers apart k is same = let e : nat_eq n k ≡ false = each_in (λ (m : ℕ). nat_eq n m ≡ false) numbers apart k is in grind (arith, nat_tests)

none_any : (path : List ℕ) (others : List (List ℕ)) → ((z : List ℕ) → IsIn z others → path ≡ z → ⊥)
    → AllByRecursion (λ (other : List ℕ). eq_by_cmp path_cmp path other ≡ false) others
none_any path [] apart = tt
none_any path (other ∷ others) apart = (by_order (path_cmp path other) refl, none_any path others (λ z is. apart z (inr is)))
  where
    by_order : (o : Ordering) → path_cmp path other ≡ o → eq_by_cmp path_cmp path other ≡ false
    by_order Less is = ap is_eq is
    by_order Equal is = absurd (apart other (inl refl) (path_cmp_equal path other is))
    by_order Greater is = ap is_eq is

rows_distinct : (paths : List (List ℕ)) (tallies : List Tally) (pairs : List Timed) → AreSums paths tallies pairs → (numbers : List ℕ)
    → All (λ (n : ℕ). n < length paths) numbers → IsDistinct nat_eq numbers → IsDistinct (eq_by_cmp path_cmp) (paths_of_rows (rows_for paths tallies numbers))
unfolding IsDistinct
rows_distinct paths tallies pairs sums [] low apart = tt
rows_distinct paths tallies pairs sums (n ∷ numbers) low apart =
    subst (IsDistinct (eq_by_cmp path_cmp)) (sym (map-append (λ (row : PathRow). row.path) (rows_at paths tallies n) (rows_for paths tallies numbers)))
    (by_count (nat_lt 0 (get_or tallies n no_tally).count)
    (rows_distinct paths tallies pairs sums numbers (All-tail (λ (k : ℕ). k < length paths) n numbers low) apart.1))
  where
    by_count : (b : Bool) → IsDistinct (eq_by_cmp path_cmp) (paths_of_rows (rows_for paths tallies numbers))
        → IsDistinct (eq_by_cmp path_cmp) (paths_of_rows (cond b (row_by (path_at paths n) (get_or tallies n no_tally) ∷ []) []) ++ paths_of_rows (rows_for paths tallies numbers))
    by_count true after =
        IsDistinct-cons (eq_by_cmp path_cmp) (path_at paths n) (paths_of_rows (rows_for paths tallies numbers))
        (none_any (path_at paths n) (paths_of_rows (rows_for paths tallies numbers))
        (λ z is same. let there = rows-in paths tallies numbers z is in
        apart_in n numbers apart.0 there.0 there.1
        (sums.apart.apart n there.0 (All-head (λ (k : ℕ). k < length paths) n numbers low)
        (all_in (λ (k : ℕ). k < length paths) numbers (All-tail (λ (k : ℕ). k < length paths) n numbers low) there.0 there.1) (same ∙ sym there.2))))
        after
    by_count false after = after

-- ---- rows in order

pub row_order : IsStrictWeakOrder row_before
row_order = ranks_by nat_list_cmp_total (λ (row : StackRow). row.path.items)

abbrev paths_in_rows : List StackRow → List (List ℕ)
paths_in_rows rows = map (λ (row : StackRow). row.path.items) rows

sorted_after : (x : StackRow) (xs : List StackRow) → IsSortedBy row_before (x ∷ xs) → IsSortedBy row_before xs
sorted_after x xs up k d low within =
    let P : ℕ → Type 0 = λ n. row_before (get_or (x ∷ xs) n d) (get_or xs k d) ≡ false in
    let next : suc k + 1 ≡ suc (k + 1) = omega arith in
    subst P next (up (suc k) d (omega arith) (omega arith))

not_after : (x : StackRow) (xs : List StackRow) → IsSortedBy row_before (x ∷ xs) → (z : StackRow) → IsIn z xs → row_before z x ≡ false
not_after x [] up z is = absurd is
not_after x (y ∷ ys) up z (inl is) = subst (λ (w : StackRow). row_before w x ≡ false) (sym is) (up 0 x (omega arith) (omega arith))
not_after x (y ∷ ys) up z (inr is) =
    row_order.chain z y x (not_after y ys (sorted_after x (y ∷ ys) up) z is) (up 0 x (omega arith) (omega arith))

all_apart : (path : List ℕ) (others : List (List ℕ)) → AllByRecursion (λ (p : List ℕ). eq_by_cmp path_cmp path p ≡ false) others → (z : List ℕ) → IsIn z others
    → eq_by_cmp path_cmp path z ≡ false
all_apart path [] all z is = absurd is
all_apart path (p ∷ others) all z (inl is) = subst (λ (w : List ℕ). eq_by_cmp path_cmp path w ≡ false) (sym is) all.0
all_apart path (p ∷ others) all z (inr is) = all_apart path others all.1 z is

less_from : (path other : List ℕ) → is_lt (path_cmp other path) ≡ false → eq_by_cmp path_cmp path other ≡ false → path_cmp path other ≡ Less
less_from path other not_before not_same = by_order (path_cmp path other) refl
  where
    by_order : (o : Ordering) → path_cmp path other ≡ o → path_cmp path other ≡ Less
    by_order Less is = is
    by_order Equal is = let never : true ≡ false = sym (ap is_eq is) ∙ not_same in absurd (let n : ⊥ = cc in n)
    by_order Greater is =
        let back : path_cmp other path ≡ Less = nat_list_cmp_total.antisymm other path ∙ ap ordering_reverse is in
        let never : true ≡ false = sym (ap is_lt back) ∙ not_before in absurd (let n : ⊥ = cc in n)

strict_rows : (rows : List StackRow) → IsSortedBy row_before rows → IsDistinct (eq_by_cmp path_cmp) (paths_in_rows rows) → Strict path_cmp (paths_in_rows rows)
strict_rows [] up distinct = tt
strict_rows (row ∷ rows) up distinct = (
  λ z is. let there = map-in (λ (r : StackRow). r.path.items) rows z is in
      less_from row.path.items z
      (subst (λ (p : List ℕ). is_lt (path_cmp p row.path.items) ≡ false) there.2 (not_after row rows up there.0 there.1))
      (all_apart row.path.items (paths_in_rows rows) (IsDistinct-head (eq_by_cmp path_cmp) row.path.items (paths_in_rows rows) distinct) z is),
  strict_rows rows (sorted_after row rows up) (IsDistinct-tail (eq_by_cmp path_cmp) row.path.items (paths_in_rows rows) distinct),
)

-- ---- the stacks

paths_told : (rows : List StackRow) → paths_of_rows (map told rows) ≡ paths_in_rows rows
paths_told [] = refl
paths_told (row ∷ rows) = ap (λ (ps : List (List ℕ)). row.path.items ∷ ps) (paths_told rows)

by_paths : (pairs : List Timed) (rows : List PathRow) → All (λ (row : PathRow). row ≡ path_row pairs row.path) rows → rows ≡ map (path_row pairs) (paths_of_rows rows)
by_paths pairs [] all = refl
by_paths pairs (row ∷ rows) all =
    ap (λ (r : PathRow). r ∷ rows) (All-head (λ (r : PathRow). r ≡ path_row pairs r.path) row rows all)
    ∙ ap (λ (rs : List PathRow). path_row pairs row.path ∷ rs) (by_paths pairs rows (All-tail (λ (r : PathRow). r ≡ path_row pairs r.path) row rows all))

numbered-at : (paths : List (List ℕ)) (pairs : List Timed) → AllNumbered paths pairs → (z : List ℕ) → IsIn z (paths_of_pairs pairs)
    → (n : ℕ) × (n < length paths) × (path_at paths n ≡ z)
numbered-at paths [] all z is = absurd is
numbered-at paths (pair ∷ pairs) all z (inl is) = (all.0.0, all.0.1, all.0.2 ∙ sym is)
numbered-at paths (pair ∷ pairs) all z (inr is) = numbered-at paths pairs all.1 z is

pub rows_sorted : (paths : List (List ℕ)) (tallies : List Tally) (pairs : List Timed) (order : List ℕ) (made sorted : List StackRow)
    → AreSums paths tallies pairs → IsPermutation (range_with_len 0 (length paths)) order
    → map told made ≡ rows_for paths tallies order → IsPermutation made sorted → IsSortedBy row_before sorted
    → map told sorted ≡ map (path_row pairs) (each_once path_cmp (paths_of_pairs pairs))
rows_sorted paths tallies pairs order made sorted sums numbers is moved up =
    let rows = rows_for paths tallies order in
    let low : All (λ (n : ℕ). n < length paths) order = order_low (length paths) order numbers in
    let same : IsPermutation rows (map told sorted) = subst (λ (rs : List PathRow). IsPermutation rs (map told sorted)) is (IsPermutation-map told made sorted moved) in
    let own = All-permutation (λ (row : PathRow). row ≡ path_row pairs row.path) rows (map told sorted) same (rows_are paths tallies pairs sums order low) in
    let moved_paths : IsPermutation (paths_of_rows rows) (paths_of_rows (map told sorted)) = IsPermutation-map (λ (row : PathRow). row.path) rows (map told sorted) same in
    let distinct = IsDistinct-IsPermutation (eq_by_cmp path_cmp) (eq_by_cmp_equiv nat_list_cmp_total).symm (paths_of_rows rows) (paths_of_rows (map told sorted)) moved_paths
    (rows_distinct paths tallies pairs sums order low (order_distinct (length paths) order numbers)) in
    let strict : Strict path_cmp (paths_of_rows (map told sorted)) =
    subst (Strict path_cmp) (sym (paths_told sorted)) (strict_rows sorted up (subst (IsDistinct (eq_by_cmp path_cmp)) (paths_told sorted) distinct)) in
    let back = IsPermutation-sym (paths_of_rows rows) (paths_of_rows (map told sorted)) moved_paths in
    let listed : paths_of_rows (map told sorted) ≡ each_once path_cmp (paths_of_pairs pairs) =
    is_each_once path_cmp nat_list_cmp_total path_cmp_equal (paths_of_rows (map told sorted)) (paths_of_pairs pairs) strict
    (λ z there. let at = rows-in paths tallies order z (in_permutation (paths_of_rows (map told sorted)) (paths_of_rows rows) back z there) in
    counted-in z pairs
    (let tally : get_or tallies at.0 no_tally ≡ tally_of pairs z = sums.each at.0 no_tally (let within : at.0 < length paths = all_in (λ (n : ℕ). n < length paths) order low at.0 at.1 in omega (arith, sums.level)) ∙ ap (tally_of pairs) at.2 in
    omega (arith, at.3, ap {B = ℕ} (λ (t : Tally). t.count) tally)))
    (λ z there. let at = numbered-at paths pairs sums.numbered z there in
    in_permutation (paths_of_rows rows) (paths_of_rows (map told sorted)) moved_paths z
    (subst (λ (p : List ℕ). IsIn p (paths_of_rows rows)) at.2 (in-rows paths tallies order at.0 (order_all (length paths) order numbers at.0 at.1)
    (let tally : get_or tallies at.0 no_tally ≡ tally_of pairs z = sums.each at.0 no_tally (omega (arith, at.1, sums.level)) ∙ ap (tally_of pairs) at.2 in
    omega (arith, in-counted z pairs there, ap {B = ℕ} (λ (t : Tally). t.count) tally))))) in
    by_paths pairs (map told sorted) own ∙ ap (map (path_row pairs)) listed
