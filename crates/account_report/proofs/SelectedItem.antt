-- The item of the ascending list that a selection finds.
use Rattle.std.proofs.Common.{◌≡◌, ◌+◌, ◌<◌, ◌≤◌, ◌++◌, ◌∙◌, ◌-◌, ◌*◌, ◌/◌, ℕ, zero, suc, Bool, true, false, cond, List, [], ◌∷◌, length, refl, ap, sym, arith, nat_eq, nat_lt, get_or}
use Rattle.std.specs.Prelude.{IsPermutation, slice_index, sum}
use Rattle.std.specs.declared.cmp.Ordering.TheVariants.{Less, Equal, Greater}
use Rattle.std.specs.Ordering.{is_lt, nat_cmp}
use Rattle.std.specs.List.Sorted.{IsSplitAround}
use Rattle.std.proofs.lemmas.Bool.Decides.{nat_tests}
use Rattle.std.proofs.lemmas.List.Sorted.{sum_by-IsPermutation}
use Rattle.account_report.specs.Ascending.{ascending, put_in}
use Rattle.account_report.specs.private.Ranks.{ranks_of}
use Rattle.account_report.specs.private.Tallies.{row_with}
use Rattle.account_report.specs.declared.ranks.Ranks.{Ranks}
use Rattle.account_report.proofs.AscendingLists.{AllFrom, Rises, all_from-put_in, all_from_less, count, count-ascending, count-cons, length-ascending, one_at, rises-ascending, same_rising, sum-ascending}

-- ---- numbers up to a greatest one

abbrev AllUpTo : ℕ → List ℕ → Type 0
AllUpTo n [] = Unit {0}
AllUpTo n (x ∷ xs) = (x ≤ n) × AllUpTo n xs

up_to-put_in : (high x : ℕ) (xs : List ℕ) → x ≤ high → AllUpTo high xs → AllUpTo high (put_in nat_lt x xs)
up_to-put_in high x [] below all = (below, tt)
up_to-put_in high x (y ∷ ys) below all = by_first (nat_lt x y) (up_to-put_in high x ys below all.1)
  where
    by_first : (b : Bool) → AllUpTo high (put_in nat_lt x ys) → AllUpTo high (cond b (x ∷ y ∷ ys) (y ∷ put_in nat_lt x ys))
    by_first true following = (below, all)
    by_first false following = (all.0, following)

up_to-ascending : (high : ℕ) (xs : List ℕ) → AllUpTo high xs → AllUpTo high (ascending xs)
up_to-ascending high [] all = tt
up_to-ascending high (x ∷ xs) all = up_to-put_in high x (ascending xs) all.0 (up_to-ascending high xs all.1)

from-ascending : (low : ℕ) (xs : List ℕ) → AllFrom low xs → AllFrom low (ascending xs)
from-ascending low [] all = tt
from-ascending low (x ∷ xs) all = all_from-put_in low x (ascending xs) all.0 (from-ascending low xs all.1)

-- ---- a number between two ascending lists

from_around : (low x : ℕ) (front back : List ℕ) → AllFrom low front → low ≤ x → AllFrom x back → AllFrom low (front ++ x ∷ back)
from_around low x [] back all below above = (below, all_from_less low x back below above)
from_around low x (y ∷ ys) back all below above = (all.0, from_around low x ys back all.1 below above)

rises_around : (x : ℕ) (front back : List ℕ) → Rises front → AllUpTo x front → Rises back → AllFrom x back → Rises (front ++ x ∷ back)
rises_around x [] back up below also above = (above, also)
rises_around x (y ∷ ys) back up below also above = (from_around y x ys back up.0 below.0 above, rises_around x ys back up.1 below.1 also above)

count_around : (k x : ℕ) (front back us vs : List ℕ) → count k front ≡ count k us → count k back ≡ count k vs
    → count k (front ++ x ∷ back) ≡ count k (us ++ x ∷ vs)
count_around k x front back us vs same also = omega (arith, counts front back, counts us vs, same, also)
  where
    counts : (front back : List ℕ) → count k (front ++ x ∷ back) ≡ count k front + (one_at k x + count k back)
    counts [] back = omega (arith, count-cons k x back)
    counts (y ∷ ys) back = omega (arith, count-cons k y (ys ++ x ∷ back), count-cons k y ys, counts ys back)

index_around : (front : List ℕ) (x : ℕ) (back : List ℕ) (place : ℕ) → length front ≡ place → slice_index (front ++ x ∷ back) place ≡ x
index_around [] x back zero at = refl
index_around [] x back (suc k) at = absurd (omega (arith, at))
index_around (y ∷ ys) x back zero at = absurd (omega (arith, at))
index_around (y ∷ ys) x back (suc k) at = index_around ys x back k (omega (arith, at))

index_front : (front back : List ℕ) (k : ℕ) → k < length front → slice_index (front ++ back) k ≡ slice_index front k
index_front [] back k within = absurd (omega (arith, within))
index_front (y ∷ ys) back zero within = refl
index_front (y ∷ ys) back (suc k) within = index_front ys back k (omega (arith, within))

-- ---- what a selection leaves

not_below : (x y : ℕ) → is_lt (nat_cmp x y) ≡ false → y ≤ x
not_below x y answer = by_test (nat_lt x y) refl
  where
    by_test : (b : Bool) → nat_lt x y ≡ b → y ≤ x
    by_test true is =
        let yes : is_lt (nat_cmp x y) ≡ true = ap (λ (b : Bool). is_lt (cond b Less (cond (nat_eq x y) Equal Greater))) is in
        let e : 1 ≡ 0 = ap {B = ℕ} (λ (b : Bool). cond b 1 0) (sym yes ∙ answer) in absurd (omega (arith, e))
    by_test false is = grind (arith, nat_tests)

up_to_from_places : (x : ℕ) (xs : List ℕ) → ((k d : ℕ) → k < length xs → get_or xs k d ≤ x) → AllUpTo x xs
up_to_from_places x [] each = tt
up_to_from_places x (y ∷ ys) each = (each 0 x (omega arith), up_to_from_places x ys (λ k d within. each (suc k) d (omega arith)))

from_places : (x : ℕ) (xs : List ℕ) → ((k d : ℕ) → k < length xs → x ≤ get_or xs k d) → AllFrom x xs
from_places x [] each = tt
from_places x (y ∷ ys) each = (each 0 x (omega arith), from_places x ys (λ k d within. each (suc k) d (omega arith)))

-- the ascending list of what a selection parts
parts : (xs front : List ℕ) (x : ℕ) (back : List ℕ) → IsPermutation xs (front ++ x ∷ back) → IsSplitAround nat_cmp front x back
    → ascending front ++ x ∷ ascending back ≡ ascending xs
parts xs front x back same split =
    let low : AllUpTo x front = up_to_from_places x front (λ k d within. not_below x (get_or front k d) (split.0 k d within)) in
    let high : AllFrom x back = from_places x back (λ k d within. not_below (get_or back k d) x (split.1 k d within)) in
    let up : Rises (ascending front ++ x ∷ ascending back) =
    rises_around x (ascending front) (ascending back) (rises-ascending front) (up_to-ascending x front low) (rises-ascending back) (from-ascending x back high) in
    same_rising (ascending front ++ x ∷ ascending back) (ascending xs) up (rises-ascending xs)
    (λ k. count_around k x (ascending front) (ascending back) front back (count-ascending k front) (count-ascending k back)
    ∙ (sum_by-IsPermutation (one_at k) xs (front ++ x ∷ back) same ∙ sym (count-ascending k xs)))

-- what a selection finds stands at its place of the ascending list
pub found : (xs front : List ℕ) (x : ℕ) (back : List ℕ) (place : ℕ) → length front ≡ place
    → IsPermutation xs (front ++ x ∷ back) → IsSplitAround nat_cmp front x back → slice_index (ascending xs) place ≡ x
found xs front x back place at same split =
    ap (λ (list : List ℕ). slice_index list place) (sym (parts xs front x back same split))
    ∙ index_around (ascending front) x (ascending back) place (omega (arith, at, length-ascending front))

-- what stands before it is in the part before it
pub before : (xs front : List ℕ) (x : ℕ) (back : List ℕ) (place : ℕ) → length front ≡ place
    → IsPermutation xs (front ++ x ∷ back) → IsSplitAround nat_cmp front x back
    → (k : ℕ) → k < place → slice_index (ascending xs) k ≡ slice_index (ascending front) k
before xs front x back place at same split k below =
    ap (λ (list : List ℕ). slice_index list k) (sym (parts xs front x back same split))
    ∙ index_front (ascending front) (x ∷ ascending back) k (omega (arith, at, below, length-ascending front))

-- the items of a list, one by one
pub ranks_alike : (numbers : List ℕ) (min med p90 p99 max : ℕ)
    → min ≡ slice_index (ascending numbers) 0
    → med ≡ slice_index (ascending numbers) (length numbers / 2)
    → p90 ≡ slice_index (ascending numbers) (9 * length numbers / 10)
    → p99 ≡ slice_index (ascending numbers) (99 * length numbers / 100)
    → max ≡ slice_index (ascending numbers) (length numbers - 1)
    → record { min = min; med = med; p90 = p90; p99 = p99; max = max } ≡ ranks_of numbers
ranks_alike numbers min med p90 p99 max a b c d e = cc (a, b, c, d, e, length-ascending numbers)

-- the row of a function, by what is known of its durations
pub row_alike : (func : ℕ) (durations : List ℕ) (entries exits total lone_entries lone_exits : ℕ) (ranks : Ranks)
    → ranks ≡ ranks_of durations → total ≡ sum durations
    → lone_entries ≡ entries - length durations → lone_exits ≡ exits - length durations
    → record {
      func = func;
      count = length durations;
      min = ranks.min;
      med = ranks.med;
      p90 = ranks.p90;
      p99 = ranks.p99;
      max = ranks.max;
      sum = total;
      entries = lone_entries;
      exits = lone_exits;
    } ≡ row_with func durations entries exits
row_alike func durations entries exits total lone_entries lone_exits ranks ranked totalled entered left =
    cc (ranked, totalled, entered, left, length-ascending durations, sum-ascending durations)
