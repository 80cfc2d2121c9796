-- Ascending lists of numbers: there is only one with the same numbers.
use Rattle.std.proofs.Common.{◌≡◌, ◌+◌, ◌<◌, ◌≤◌, ◌∙◌, ℕ, suc, Bool, true, false, cond, List, [], ◌∷◌, length, map, count_by, refl, ap, sym, subst, arith, nat_eq, nat_lt, get_or, inl, inr}
use Rattle.std.specs.Prelude.{IsPermutation, sum, sum_by}
use Rattle.std.specs.declared.cmp.Ordering.TheVariants.{Less, Equal, Greater}
use Rattle.std.specs.Ordering.{nat_cmp, ordering_index}
use Rattle.std.specs.Cmp.{nat_cmp_total}
use Rattle.std.specs.List.{AllByRecursion, IsDistinct}
use Rattle.std.specs.List.Sorted.{IsNonDecreasingBy}
use Rattle.std.proofs.lemmas.Bool.{eqb-true, eq-eqb}
use Rattle.std.proofs.lemmas.Bool.Decides.{nat_tests}
use Rattle.std.proofs.lemmas.Cmp.{tied_itself}
use Rattle.std.proofs.lemmas.List.Sums.{sum-map, sum_by-cons}
use Rattle.std.proofs.lemmas.List.Sorted.{sum_by-IsPermutation}
use Rattle.std.proofs.lemmas.Map.Keys.{IsDistinct-head, IsDistinct-tail}
use Rattle.stack_rebuild.proofs.AscendingLists.{Strict, each_in}
use Rattle.stack_rebuild.proofs.Items.{IsIn}
use Rattle.account_report.specs.Ascending.{ascending, put_in}

-- how often a list has a number
abbrev pub count : ℕ → List ℕ → ℕ
count k xs = count_by (nat_eq k) xs

abbrev pub one_at : ℕ → ℕ → ℕ
one_at k x = cond (nat_eq k x) 1 0

pub count-cons : (k x : ℕ) (xs : List ℕ) → count k (x ∷ xs) ≡ one_at k x + count k xs
count-cons k x xs = sum_by-cons (one_at k) x xs

one_same : (k : ℕ) → one_at k k ≡ 1
one_same k = ap {B = ℕ} (λ b. cond b 1 0) (eq-eqb k k refl)

-- ---- numbers from a least one on, and ascending ones

abbrev pub AllFrom : ℕ → List ℕ → Type 0
AllFrom n [] = Unit {0}
AllFrom n (x ∷ xs) = (n ≤ x) × AllFrom n xs

abbrev pub Rises : List ℕ → Type 0
Rises [] = Unit {0}
Rises (x ∷ xs) = AllFrom x xs × Rises xs

pub all_from_less : (n m : ℕ) (xs : List ℕ) → n ≤ m → AllFrom m xs → AllFrom n xs
all_from_less n m [] below all = tt
all_from_less n m (x ∷ xs) below all = (omega (arith, all.0), all_from_less n m xs below all.1)

pub counted_from : (n k : ℕ) (xs : List ℕ) → AllFrom n xs → 0 < count k xs → n ≤ k
counted_from n k [] all some = absurd (omega arith)
counted_from n k (x ∷ xs) all some = by_first (nat_eq k x) refl (counted_from n k xs all.1)
  where
    by_first : (b : Bool) → nat_eq k x ≡ b → (0 < count k xs → n ≤ k) → n ≤ k
    by_first true is following = omega (arith, all.0, eqb-true k x is)
    by_first false is following = following (omega (arith, count-cons k x xs, ap {B = ℕ} (λ b. cond b 1 0) is, some))

first_least : (x k : ℕ) (xs : List ℕ) → AllFrom x xs → 0 < count k (x ∷ xs) → x ≤ k
first_least x k xs all some = counted_from x k (x ∷ xs) (omega arith, all) some

-- ascending lists with the same numbers are the same
pub same_rising : (xs ys : List ℕ) → Rises xs → Rises ys → ((k : ℕ) → count k xs ≡ count k ys) → xs ≡ ys
same_rising [] [] up also same = refl
same_rising [] (y ∷ ys) up also same = absurd (omega (arith, same y, count-cons y y ys, one_same y))
same_rising (x ∷ xs) [] up also same = absurd (omega (arith, same x, count-cons x x xs, one_same x))
same_rising (x ∷ xs) (y ∷ ys) up also same =
    let low : x ≤ y = first_least x y xs up.0 (omega (arith, same y, count-cons y y ys, one_same y)) in
    let high : y ≤ x = first_least y x ys also.0 (omega (arith, same x, count-cons x x xs, one_same x)) in
    let first : x ≡ y = omega arith in
    let rest : xs ≡ ys =
    same_rising xs ys up.1 also.1 (λ k. omega (arith, same k, count-cons k x xs, count-cons k y ys, ap (one_at k) first)) in
    ap (λ (n : ℕ). n ∷ xs) first ∙ ap (λ (ns : List ℕ). y ∷ ns) rest

-- a list that is sorted by a number is ascending in it
all_from_places : {X : Type 0} (n : X → ℕ) (low : ℕ) (xs : List X) → ((j : ℕ) (d : X) → j < length xs → low ≤ n (get_or xs j d)) → AllFrom low (map n xs)
all_from_places n low [] each = tt
all_from_places n low (x ∷ xs) each = (each 0 x (omega arith), all_from_places n low xs (λ j d within. each (suc j) d (omega arith)))

pub rises_from_sorted : {X : Type 0} (n : X → ℕ) (xs : List X) → IsNonDecreasingBy n xs → Rises (map n xs)
rises_from_sorted n [] up = tt
rises_from_sorted n (x ∷ xs) up = (
  all_from_places n (n x) xs (λ j d within. up 0 (suc j) d (omega arith) (omega arith)),
  rises_from_sorted n xs (λ i j d ahead within. up (suc i) (suc j) d (omega arith) (omega arith)),
)

-- ---- numbers in ascending order

pub all_from-put_in : (low x : ℕ) (xs : List ℕ) → low ≤ x → AllFrom low xs → AllFrom low (put_in nat_lt x xs)
all_from-put_in low x [] below all = (below, tt)
all_from-put_in low x (y ∷ ys) below all = by_first (nat_lt x y) (all_from-put_in low x ys below all.1)
  where
    by_first : (b : Bool) → AllFrom low (put_in nat_lt x ys) → AllFrom low (cond b (x ∷ y ∷ ys) (y ∷ put_in nat_lt x ys))
    by_first true following = (below, all)
    by_first false following = (all.0, following)

rises-put_in : (x : ℕ) (xs : List ℕ) → Rises xs → Rises (put_in nat_lt x xs)
rises-put_in x [] up = (tt, tt)
rises-put_in x (y ∷ ys) up = by_first (nat_lt x y) refl (rises-put_in x ys up.1)
  where
    by_first : (b : Bool) → nat_lt x y ≡ b → Rises (put_in nat_lt x ys) → Rises (cond b (x ∷ y ∷ ys) (y ∷ put_in nat_lt x ys))
    by_first true is following = let low : x ≤ y = grind (arith, nat_tests) in ((low, all_from_less x y ys low up.0), up)
    by_first false is following = let low : y ≤ x = grind (arith, nat_tests) in (all_from-put_in y x ys low up.0, following)

count-put_in : (k x : ℕ) (xs : List ℕ) → count k (put_in nat_lt x xs) ≡ one_at k x + count k xs
count-put_in k x [] = count-cons k x []
count-put_in k x (y ∷ ys) = by_first (nat_lt x y) (count-put_in k x ys)
  where
    by_first : (b : Bool) → count k (put_in nat_lt x ys) ≡ one_at k x + count k ys
        → count k (cond b (x ∷ y ∷ ys) (y ∷ put_in nat_lt x ys)) ≡ one_at k x + count k (y ∷ ys)
    by_first true following = count-cons k x (y ∷ ys)
    by_first false following = omega (arith, count-cons k y (put_in nat_lt x ys), count-cons k y ys, following)

pub rises-ascending : (xs : List ℕ) → Rises (ascending xs)
rises-ascending [] = tt
rises-ascending (x ∷ xs) = rises-put_in x (ascending xs) (rises-ascending xs)

pub count-ascending : (k : ℕ) (xs : List ℕ) → count k (ascending xs) ≡ count k xs
count-ascending k [] = refl
count-ascending k (x ∷ xs) = omega (arith, count-put_in k x (ascending xs), count-cons k x xs, count-ascending k xs)

length-put_in : (x : ℕ) (xs : List ℕ) → length (put_in nat_lt x xs) ≡ suc (length xs)
length-put_in x [] = refl
length-put_in x (y ∷ ys) = by_first (nat_lt x y) (length-put_in x ys)
  where
    by_first : (b : Bool) → length (put_in nat_lt x ys) ≡ suc (length ys) → length (cond b (x ∷ y ∷ ys) (y ∷ put_in nat_lt x ys)) ≡ suc (length (y ∷ ys))
    by_first true following = refl
    by_first false following = ap suc following

pub length-ascending : (xs : List ℕ) → length (ascending xs) ≡ length xs
length-ascending [] = refl
length-ascending (x ∷ xs) = length-put_in x (ascending xs) ∙ ap suc (length-ascending xs)

map_itself : (xs : List ℕ) → map (λ (x : ℕ). x) xs ≡ xs
map_itself [] = refl
map_itself (x ∷ xs) = ap (λ (ns : List ℕ). x ∷ ns) (map_itself xs)

by_items : (xs : List ℕ) → sum xs ≡ sum_by (λ x. x) xs
by_items xs = ap sum (sym (map_itself xs)) ∙ sum-map (λ x. x) xs

sum-cons : (x : ℕ) (xs : List ℕ) → sum (x ∷ xs) ≡ x + sum xs
sum-cons x xs = omega (arith, by_items (x ∷ xs), sum_by-cons (λ n. n) x xs, by_items xs)

sum-put_in : (x : ℕ) (xs : List ℕ) → sum (put_in nat_lt x xs) ≡ x + sum xs
sum-put_in x [] = sum-cons x []
sum-put_in x (y ∷ xs) = by_order (nat_lt x y) (sum-put_in x xs)
  where
    by_order : (b : Bool) → sum (put_in nat_lt x xs) ≡ x + sum xs → sum (cond b (x ∷ y ∷ xs) (y ∷ put_in nat_lt x xs)) ≡ x + sum (y ∷ xs)
    by_order true later = sum-cons x (y ∷ xs)
    by_order false later =
        let turned : sum (y ∷ put_in nat_lt x xs) ≡ x + sum (y ∷ xs) = omega (arith, later, sum-cons y (put_in nat_lt x xs), sum-cons y xs) in turned

pub sum-ascending : (xs : List ℕ) → sum (ascending xs) ≡ sum xs
sum-ascending [] = refl
sum-ascending (x ∷ xs) = omega (arith, sum-put_in x (ascending xs), sum-ascending xs, sum-cons x xs)

-- sorted numbers are the numbers in ascending order
pub ascending-sorted : (xs sorted : List ℕ) → IsPermutation xs sorted → IsNonDecreasingBy (λ (x : ℕ). x) sorted → sorted ≡ ascending xs
ascending-sorted xs sorted same up =
    same_rising sorted (ascending xs) (subst Rises (map_itself sorted) (rises_from_sorted (λ (x : ℕ). x) sorted up)) (rises-ascending xs)
    (λ k. sum_by-IsPermutation (one_at k) xs sorted same ∙ sym (count-ascending k xs))

-- ---- numbers of which none is another one

all_from_in : (n : ℕ) (xs : List ℕ) → AllFrom n xs → (z : ℕ) → IsIn z xs → n ≤ z
all_from_in n [] all z is = absurd is
all_from_in n (x ∷ xs) all z (inl is) = omega (arith, all.0, is)
all_from_in n (x ∷ xs) all z (inr is) = all_from_in n xs all.1 z is

less_from : (n m : ℕ) → n ≤ m → nat_eq n m ≡ false → nat_cmp n m ≡ Less
less_from n m low other =
    let less : nat_lt n m ≡ true = grind (arith, nat_tests) in ap (λ (b : Bool). cond b Less (cond (nat_eq n m) Equal Greater)) less

apart_from : (n m : ℕ) → nat_cmp n m ≡ Less → nat_eq n m ≡ false
apart_from n m less = by_test (nat_eq n m) refl
  where
    by_test : (b : Bool) → nat_eq n m ≡ b → nat_eq n m ≡ false
    by_test true is =
        let equal : nat_cmp n m ≡ Equal = ap (nat_cmp n) (sym (eqb-true n m is)) ∙ tied_itself nat_cmp_total n in
        let e : 0 ≡ 1 = ap ordering_index (sym less ∙ equal) in absurd (omega (arith, e))
    by_test false is = is

pub strict_from_rising : (xs : List ℕ) → Rises xs → IsDistinct nat_eq xs → Strict nat_cmp xs
strict_from_rising [] up distinct = tt
strict_from_rising (x ∷ xs) up distinct = (
  λ z is. less_from x z (all_from_in x xs up.0 z is) (each_in (λ (y : ℕ). nat_eq x y ≡ false) xs (IsDistinct-head nat_eq x xs distinct) z is),
  strict_from_rising xs up.1 (IsDistinct-tail nat_eq x xs distinct),
)

pub distinct_from_strict : (xs : List ℕ) → Strict nat_cmp xs → IsDistinct nat_eq xs
unfolding IsDistinct
distinct_from_strict [] up = tt
distinct_from_strict (x ∷ xs) up = (all_apart xs up.0, distinct_from_strict xs up.1)
  where
    all_apart : (ys : List ℕ) → ((y : ℕ) → IsIn y ys → nat_cmp x y ≡ Less) → AllByRecursion (λ y. nat_eq x y ≡ false) ys
    all_apart [] each = tt
    all_apart (y ∷ ys) each = (apart_from x y (each y (inl refl)), all_apart ys (λ z is. each z (inr is)))
