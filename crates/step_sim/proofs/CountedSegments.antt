-- Segments among the items of a queue, counted thread by thread.
use Rattle.std.proofs.Common.{◌≡◌, ◌≢◌, ℕ, zero, suc, ◌+◌, ◌-◌, ◌<◌, ◌≤◌, List, [], ◌∷◌, ◌++◌, Some, refl, ap, ◌∙◌, inl, inr, arith, length, take}
use Rattle.std.specs.Prelude.{◌==◌, if◌then◌else◌, replicate, slice_get, sum_by}
use Rattle.std.specs.List.{AllByRecursion}
use Rattle.std.proofs.lemmas.Bool.{cases_eq}
use Rattle.std.proofs.lemmas.List.Sums.{sum_by-cons}
use Rattle.traced_run.specs.Runs.{ThreadRun}
use Rattle.step_sim.specs.Pool.{Fresh, QueueItem, Segment, segments_among, serials_of}
use Rattle.step_sim.proofs.PoolLemmas.{eqb_is, eqb_not}

-- ---- sums over threads

-- the sum of what is counted for n threads, from one thread on
abbrev pub summed : (ℕ → ℕ) → ℕ → ℕ → ℕ
summed F first zero = 0
summed F first (suc n) = F first + summed F (first + 1) n

pub summed_same : (F G : ℕ → ℕ) (first n : ℕ) → ((t : ℕ) → first ≤ t → t < first + n → F t ≡ G t) → summed F first n ≡ summed G first n
summed_same F G first zero same = refl
summed_same F G first (suc n) same =
    omega (arith, same first (omega arith) (omega arith), summed_same F G (first + 1) n (λ t low high. same t (omega (arith, low)) (omega (arith, high))))

pub summed_none : (F : ℕ → ℕ) (first n : ℕ) → ((t : ℕ) → F t ≡ 0) → summed F first n ≡ 0
summed_none F first zero none = refl
summed_none F first (suc n) none = omega (arith, none first, summed_none F (first + 1) n none)

-- what is read of runs, summed
pub summed_runs : (f : ThreadRun → ℕ) (F : ℕ → ℕ) (runs : List ThreadRun) (first n : ℕ) → length runs ≡ n
    → ((j : ℕ) (run : ThreadRun) → slice_get runs j ≡ Some run → f run ≡ F (first + j)) → sum_by f runs ≡ summed F first n
summed_runs f F [] first zero count is = refl
summed_runs f F [] first (suc n) count is = absurd (omega (arith, count))
summed_runs f F (run ∷ runs) first zero count is = absurd (omega (arith, count))
summed_runs f F (run ∷ runs) first (suc n) count is =
    let here : first + zero ≡ first = omega arith in
    omega (
      arith,
      sum_by-cons f run runs,
      is zero run refl ∙ ap F here,
      summed_runs f F runs (first + 1) n (omega (arith, count)) (λ j other found. is (suc j) other found ∙ ap F (following j)),
    )
  where
    following : (j : ℕ) → first + suc j ≡ first + 1 + j
    following j = omega arith

-- ---- one thread has one more

-- one more for one thread
abbrev pub with_one : ℕ → (ℕ → ℕ) → ℕ → ℕ
with_one owner F t = if owner == t then suc (F t) else F t

with_one_own : (owner : ℕ) (F : ℕ → ℕ) (t : ℕ) → owner ≡ t → with_one owner F t ≡ suc (F t)
with_one_own owner F t e = rw (eqb_is owner t e) refl

with_one_other : (owner : ℕ) (F : ℕ → ℕ) (t : ℕ) → owner ≢ t → with_one owner F t ≡ F t
with_one_other owner F t e = rw (eqb_not owner t e) refl

summed_after : (owner : ℕ) (F : ℕ → ℕ) (first n : ℕ) → owner < first → summed (with_one owner F) first n ≡ summed F first n
summed_after owner F first n low =
    summed_same (with_one owner F) F first n (λ t above below. with_one_other owner F t (λ e. omega (arith, e, above, low)))

summed_one : (owner : ℕ) (F : ℕ → ℕ) (first n : ℕ) → first ≤ owner → owner < first + n → summed (with_one owner F) first n ≡ suc (summed F first n)
summed_one owner F first zero low high = absurd (omega (arith, low, high))
summed_one owner F first (suc n) low high = elim (cases_eq owner first) [
  | inl same ↦ omega (arith, with_one_own owner F first same, summed_after owner F (first + 1) n (omega (arith, same)))
  | inr apart ↦
      omega (arith, with_one_other owner F first apart, summed_one owner F (first + 1) n (later owner first low apart) (omega (arith, high)))
]
  where
    later : (a b : ℕ) → b ≤ a → a ≢ b → b + 1 ≤ a
    later a b low apart = elim (cases_eq a b) [ inl e ↦ absurd (apart e) | inr other ↦ omega (arith, low, other) ]

-- ---- segments among items

-- the item is a segment of one of the threads from 1 on
abbrev pub IsSegmentOf : ℕ → QueueItem → Type 0
IsSegmentOf threads Fresh = ⊥
IsSegmentOf threads (Segment thread serial) = (1 ≤ thread) × (thread ≤ threads)

-- the item isn't begun, or is such a segment
abbrev pub IsItemOf : ℕ → QueueItem → Type 0
IsItemOf threads Fresh = Unit {0}
IsItemOf threads (Segment thread serial) = (1 ≤ thread) × (thread ≤ threads)

-- how many items are segments
abbrev pub segment_items : List QueueItem → ℕ
segment_items [] = 0
segment_items (Fresh ∷ items) = segment_items items
segment_items (Segment thread serial ∷ items) = suc (segment_items items)

among_cons : (owner serial t : ℕ) (items : List QueueItem)
    → segments_among t (Segment owner serial ∷ items) ≡ with_one owner (λ k. segments_among k items) t
among_cons owner serial t items = elim (cases_eq owner t) [
  | inl same ↦ rw (eqb_is owner t same) refl
  | inr apart ↦ rw (eqb_not owner t apart) refl
]

-- the segments of all threads are all segments
pub summed_among : (threads : ℕ) (items : List QueueItem) → AllByRecursion (IsItemOf threads) items
    → summed (λ t. segments_among t items) 1 threads ≡ segment_items items
summed_among threads [] own = summed_none (λ t. segments_among t []) 1 threads (λ t. refl)
summed_among threads (Fresh ∷ items) (here, own) = summed_among threads items own
summed_among threads (Segment owner serial ∷ items) ((low, high), own) =
    summed_same (λ t. segments_among t (Segment owner serial ∷ items)) (with_one owner (λ k. segments_among k items)) 1 threads
    (λ t above below. among_cons owner serial t items)
    ∙ summed_one owner (λ k. segments_among k items) 1 threads low (omega (arith, high))
    ∙ ap suc (summed_among threads items own)

-- ---- a queue of buffers that aren't begun, and of segments

pub all_segments : (threads : ℕ) (items : List QueueItem) → AllByRecursion (IsSegmentOf threads) items → segment_items items ≡ length items
all_segments threads [] own = refl
all_segments threads (Fresh ∷ items) (here, own) = absurd here
all_segments threads (Segment thread serial ∷ items) (here, own) = ap suc (all_segments threads items own)

-- the segments among the first items: as many as come after the ones that aren't begun
pub first_segments : (threads spare n : ℕ) (pushed : List QueueItem) → AllByRecursion (IsSegmentOf threads) pushed → n ≤ spare + length pushed
    → segment_items (take n (replicate spare Fresh ++ pushed)) ≡ n - spare
first_segments threads zero zero pushed own few = refl
first_segments threads zero (suc n) [] own few = absurd (omega (arith, few))
first_segments threads zero (suc n) (Fresh ∷ pushed) (here, own) few = absurd here
first_segments threads zero (suc n) (Segment thread serial ∷ pushed) (here, own) few =
    let rest = first_segments threads zero n pushed own (omega (arith, few)) in
    omega (arith, rest)
first_segments threads (suc spare) zero pushed own few = omega arith
first_segments threads (suc spare) (suc n) pushed own few =
    first_segments threads spare n pushed own (omega (arith, few)) ∙ less n spare
  where
    less : (a b : ℕ) → a - b ≡ suc a - suc b
    less a b = omega arith

items_of : (threads : ℕ) (items : List QueueItem) → AllByRecursion (IsSegmentOf threads) items → AllByRecursion (IsItemOf threads) items
items_of threads [] own = tt
items_of threads (Fresh ∷ items) (here, own) = absurd here
items_of threads (Segment thread serial ∷ items) (here, own) = (here, items_of threads items own)

fresh_items : (threads spare : ℕ) (pushed : List QueueItem) → AllByRecursion (IsSegmentOf threads) pushed
    → AllByRecursion (IsItemOf threads) (replicate spare Fresh ++ pushed)
fresh_items threads zero pushed own = items_of threads pushed own
fresh_items threads (suc spare) pushed own = (tt, fresh_items threads spare pushed own)

take_items : (threads n : ℕ) (items : List QueueItem) → AllByRecursion (IsItemOf threads) items → AllByRecursion (IsItemOf threads) (take n items)
take_items threads zero items own = tt
take_items threads (suc n) [] own = tt
take_items threads (suc n) (item ∷ items) (here, own) = (here, take_items threads n items own)

pub pushed_items : (threads : ℕ) (pushed : List QueueItem) → AllByRecursion (IsSegmentOf threads) pushed → AllByRecursion (IsItemOf threads) pushed
pushed_items = items_of

pub front_items : (threads spare n : ℕ) (pushed : List QueueItem) → AllByRecursion (IsSegmentOf threads) pushed
    → AllByRecursion (IsItemOf threads) (take n (replicate spare Fresh ++ pushed))
front_items threads spare n pushed own = take_items threads n (replicate spare Fresh ++ pushed) (fresh_items threads spare pushed own)

-- items that aren't begun belong to no thread
pub fresh_serials : (spare thread : ℕ) (pushed : List QueueItem) → serials_of thread (replicate spare Fresh ++ pushed) ≡ serials_of thread pushed
fresh_serials zero thread pushed = refl
fresh_serials (suc spare) thread pushed = fresh_serials spare thread pushed
