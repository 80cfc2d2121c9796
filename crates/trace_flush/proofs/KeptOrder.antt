-- The buffers of a run are in the order of a flush.
use Rattle.std.proofs.Common.{◌≡◌, ◌<◌, ◌≤◌, ℕ, zero, suc, ◌+◌, List, [], ◌∷◌, ◌++◌, inl, inr, refl, sym, subst, arith, drop, map}
use Rattle.std.specs.Prelude.{AllPairs}
use Rattle.std.specs.List.{AllByRecursion, enumerate_from, flat_map}
use Rattle.std.proofs.lemmas.List.Concat.{flat_map-cons}
use Rattle.std.proofs.lemmas.List.Elements.{All-from_recursion}
use Rattle.std.proofs.lemmas.List.Kept.{AllPairs-cons}
use Rattle.fdr_record.specs.declared.event.Event.{Event}
use Rattle.fdr_buffer.specs.Filled.{Filled}
use Rattle.machine_step.specs.declared.setup.Setup.{Setup}
use Rattle.traced_run.specs.Kept.{buffer_of, kept_buffers, segments_of, stamp_of, thread_buffers}
use Rattle.traced_run.specs.Runs.{ThreadRun}
use Rattle.trace_flush.specs.Arranged.{IsBefore}

-- each of the first list comes before each of the second
abbrev AllBefore : List Filled → List Filled → Type 0
AllBefore xs ys = AllByRecursion (λ x. AllByRecursion (IsBefore x) ys) xs

-- each comes before each later one
abbrev Ordered : List Filled → Type 0
Ordered [] = Unit {0}
Ordered (x ∷ xs) = AllByRecursion (IsBefore x) xs × Ordered xs

to_pairs : (xs : List Filled) → Ordered xs → AllPairs IsBefore xs
to_pairs [] is = λ i j d ahead within. absurd (omega (arith, within))
to_pairs (x ∷ xs) (here, rest) = AllPairs-cons IsBefore x xs (All-from_recursion (IsBefore x) xs here) (to_pairs xs rest)

joined_all : (x : Filled) (xs ys : List Filled) → AllByRecursion (IsBefore x) xs → AllByRecursion (IsBefore x) ys → AllByRecursion (IsBefore x) (xs ++ ys)
joined_all x [] ys first second = second
joined_all x (z ∷ xs) ys (here, first) second = (here, joined_all x xs ys first second)

joined : (xs ys : List Filled) → Ordered xs → Ordered ys → AllBefore xs ys → Ordered (xs ++ ys)
joined [] ys first second before = second
joined (x ∷ xs) ys (here, first) second (its, before) = (joined_all x xs ys here its, joined xs ys first second before)

-- ---- of one thread

later_serials : (setup : Setup) (thread n k : ℕ) (events : List Event) (segs : List (List Event)) → n < k
    → AllByRecursion (IsBefore (buffer_of (stamp_of setup) thread (n, events))) (map (buffer_of (stamp_of setup) thread) (enumerate_from k segs))
later_serials setup thread n k events [] low = tt
later_serials setup thread n k events (next ∷ segs) low = (inr (refl, low), later_serials setup thread n (k + 1) events segs (omega (arith, low)))

serials_ordered : (setup : Setup) (thread first k : ℕ) (segs : List (List Event))
    → Ordered (map (buffer_of (stamp_of setup) thread) (drop first (enumerate_from k segs)))
serials_ordered setup thread zero k [] = tt
serials_ordered setup thread zero k (events ∷ segs) =
    (later_serials setup thread k (k + 1) events segs (omega arith), serials_ordered setup thread zero (k + 1) segs)
serials_ordered setup thread (suc first) k [] = tt
serials_ordered setup thread (suc first) k (events ∷ segs) = serials_ordered setup thread first (k + 1) segs

-- ---- of all threads

-- all are of threads from this one on
abbrev FromThread : ℕ → List Filled → Type 0
FromThread k xs = AllByRecursion (λ (b : Filled). k ≤ b.thread) xs

from_lower : (k n : ℕ) (xs : List Filled) → k ≤ n → FromThread n xs → FromThread k xs
from_lower k n [] low from = tt
from_lower k n (x ∷ xs) low (here, from) = (omega (arith, low, here), from_lower k n xs low from)

from_joined : (k : ℕ) (xs ys : List Filled) → FromThread k xs → FromThread k ys → FromThread k (xs ++ ys)
from_joined k [] ys first second = second
from_joined k (x ∷ xs) ys (here, first) second = (here, from_joined k xs ys first second)

own_from : (setup : Setup) (thread first k : ℕ) (segs : List (List Event))
    → AllByRecursion (λ (b : Filled). b.thread ≡ thread) (map (buffer_of (stamp_of setup) thread) (drop first (enumerate_from k segs)))
own_from setup thread zero k [] = tt
own_from setup thread zero k (events ∷ segs) = (refl, own_from setup thread zero (k + 1) segs)
own_from setup thread (suc first) k [] = tt
own_from setup thread (suc first) k (events ∷ segs) = own_from setup thread first (k + 1) segs

are_from : (thread : ℕ) (xs : List Filled) → AllByRecursion (λ (b : Filled). b.thread ≡ thread) xs → FromThread thread xs
are_from thread [] own = tt
are_from thread (x ∷ xs) (here, own) = (omega (arith, here), are_from thread xs own)

all_from : (setup : Setup) (k : ℕ) (runs : List ThreadRun) → FromThread k (flat_map (thread_buffers setup) (enumerate_from k runs))
all_from setup k [] = tt
all_from setup k (run ∷ runs) =
    subst (FromThread k) (sym (flat_map-cons (thread_buffers setup) (k, run) (enumerate_from (k + 1) runs)))
    (from_joined k (thread_buffers setup (k, run)) (flat_map (thread_buffers setup) (enumerate_from (k + 1) runs))
    (are_from k (thread_buffers setup (k, run)) (own_from setup k run.lost 0 (segments_of setup.size run)))
    (from_lower k (k + 1) (flat_map (thread_buffers setup) (enumerate_from (k + 1) runs)) (omega arith) (all_from setup (k + 1) runs)))

one_before : (thread : ℕ) (x : Filled) (ys : List Filled) → x.thread ≡ thread → FromThread (thread + 1) ys → AllByRecursion (IsBefore x) ys
one_before thread x [] own later = tt
one_before thread x (y ∷ ys) own (here, later) = (inl (omega (arith, own, here)), one_before thread x ys own later)

before_later : (thread : ℕ) (xs ys : List Filled) → AllByRecursion (λ (b : Filled). b.thread ≡ thread) xs → FromThread (thread + 1) ys → AllBefore xs ys
before_later thread [] ys own later = tt
before_later thread (x ∷ xs) ys (here, own) later = (one_before thread x ys here later, before_later thread xs ys own later)

all_ordered : (setup : Setup) (k : ℕ) (runs : List ThreadRun) → Ordered (flat_map (thread_buffers setup) (enumerate_from k runs))
all_ordered setup k [] = tt
all_ordered setup k (run ∷ runs) =
    let first = thread_buffers setup (k, run) in
    let rest = flat_map (thread_buffers setup) (enumerate_from (k + 1) runs) in
    subst Ordered (sym (flat_map-cons (thread_buffers setup) (k, run) (enumerate_from (k + 1) runs)))
    (joined first rest (serials_ordered setup k run.lost 0 (segments_of setup.size run)) (all_ordered setup (k + 1) runs)
    (before_later k first rest (own_from setup k run.lost 0 (segments_of setup.size run)) (all_from setup (k + 1) runs)))

pub kept_ordered : (setup : Setup) (runs : List ThreadRun) → AllPairs IsBefore (kept_buffers setup runs)
kept_ordered setup runs = to_pairs (kept_buffers setup runs) (all_ordered setup 1 runs)
