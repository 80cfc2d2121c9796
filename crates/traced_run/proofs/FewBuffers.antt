-- A run leaves at most as many buffers as its setup has, each of the setup's size.
use Rattle.std.proofs.Common.{◌≡◌, ℕ, zero, suc, ◌+◌, ◌-◌, ◌<◌, ◌≤◌, List, [], ◌∷◌, refl, sym, ap, subst, ◌∙◌, arith, drop, get_or, length, length-append, map, zero-lt-suc}
use Rattle.std.specs.Prelude.{All, sum_by}
use Rattle.std.specs.List.{enumerate_from, flat_map}
use Rattle.std.proofs.lemmas.List.{length-map}
use Rattle.std.proofs.lemmas.List.Concat.{flat_map-cons}
use Rattle.std.proofs.lemmas.List.Elements.{All-append, All-cons, All-head, All-nil, All-tail}
use Rattle.std.proofs.lemmas.List.Sums.{sum_by-cons}
use Rattle.fdr_record.specs.declared.event.Event.{Event}
use Rattle.fdr_buffer.specs.Filled.{Filled}
use Rattle.machine_step.specs.Buffers.{spare_of}
use Rattle.machine_step.specs.Setups.{IsSetup}
use Rattle.machine_step.specs.declared.setup.Setup.{Setup}
use Rattle.traced_run.specs.Kept.{buffer_of, kept_buffers, segment_count, segments_of, stamp_of, thread_buffers}
use Rattle.traced_run.specs.Losses.{AreLost, recycled_of}
use Rattle.traced_run.specs.Runs.{ThreadRun}

-- ---- how many there are

numbered_length : {X : Type 0} (k : ℕ) (xs : List X) → length (enumerate_from k xs) ≡ length xs
numbered_length k [] = refl
numbered_length k (x ∷ xs) = ap suc (numbered_length (k + 1) xs)

dropped_length : {X : Type 0} (n : ℕ) (xs : List X) → length (drop n xs) ≡ length xs - n
dropped_length zero xs = omega arith
dropped_length (suc n) [] = omega arith
dropped_length (suc n) (x ∷ xs) = let rest = dropped_length n xs in omega arith

thread_count : (setup : Setup) (thread : ℕ) (run : ThreadRun)
    → length (thread_buffers setup (thread, run)) ≡ segment_count setup.size run - run.lost
thread_count setup thread run =
    let segs = enumerate_from 0 (segments_of setup.size run) in
    length-map (drop run.lost segs) (buffer_of (stamp_of setup) thread)
    ∙ (dropped_length run.lost segs ∙ ap (λ n. n - run.lost) (numbered_length 0 (segments_of setup.size run)))

-- a thread loses no more segments than it has
abbrev IsBelow : ℕ → ThreadRun → Type 0
IsBelow size run = run.lost ≤ segment_count size run

-- what sums over all threads say
record Counted (setup : Setup) (n : ℕ) (runs : List ThreadRun) : Type 0 where
  kept : length (flat_map (thread_buffers setup) (enumerate_from n runs)) + recycled_of runs ≤ length runs + sum_by (λ run. segment_count setup.size run - 1) runs

counted : (setup : Setup) (n : ℕ) (runs : List ThreadRun) → All (IsBelow setup.size) runs → Counted setup n runs
counted setup n [] below = record { kept = omega arith }
counted setup n (run ∷ runs) below =
    let rest = counted setup (n + 1) runs (All-tail (IsBelow setup.size) run runs below) in
    let first : run.lost ≤ segment_count setup.size run = All-head (IsBelow setup.size) run runs below in
    let buffers = flat_map (thread_buffers setup) (enumerate_from (n + 1) runs) in
    let long = ap length (flat_map-cons (thread_buffers setup) (n, run) (enumerate_from (n + 1) runs)) ∙ length-append (thread_buffers setup (n, run)) buffers in
    record {
      kept = omega (
        arith,
        long,
        thread_count setup n run,
        first,
        rest.kept,
        sum_by-cons (λ (r : ThreadRun). r.lost) run runs,
        sum_by-cons (λ (r : ThreadRun). segment_count setup.size r - 1) run runs,
      );
    }

no_more : (count lost : ℕ) → (0 < count → lost < count) → (count ≡ 0 → lost ≡ 0) → lost ≤ count
no_more zero lost below none = omega (arith, none refl)
no_more (suc count) lost below none = omega (arith, below (zero-lt-suc count))

pub few_kept : (setup : Setup) (runs : List ThreadRun) → IsSetup setup → length runs ≡ setup.threads
    → AreLost setup.size (spare_of setup) runs → length (kept_buffers setup runs) ≤ setup.max
few_kept setup runs its count lost =
    let below : All (IsBelow setup.size) runs = λ k d at. no_more (segment_count setup.size (get_or runs k d)) _ (lost.few.below k d at) (lost.few.none k d at) in
    omega (arith, (counted setup 1 runs below).kept, lost.recycled, count, its.enough)

-- ---- what size they have

abbrev HasSize : Setup → Filled → Type 0
HasSize setup buffer = buffer.size ≡ setup.size

numbered_sizes : (setup : Setup) (thread k : ℕ) (segs : List (List Event)) → (n : ℕ)
    → All (HasSize setup) (map (buffer_of (stamp_of setup) thread) (drop n (enumerate_from k segs)))
numbered_sizes setup thread k [] zero = All-nil (HasSize setup)
numbered_sizes setup thread k [] (suc n) = All-nil (HasSize setup)
numbered_sizes setup thread k (s ∷ segs) zero =
    All-cons (HasSize setup) (buffer_of (stamp_of setup) thread (k, s)) (map (buffer_of (stamp_of setup) thread) (enumerate_from (k + 1) segs)) refl
    (numbered_sizes setup thread (k + 1) segs zero)
numbered_sizes setup thread k (s ∷ segs) (suc n) = numbered_sizes setup thread (k + 1) segs n

sizes_from : (setup : Setup) (n : ℕ) (runs : List ThreadRun) → All (HasSize setup) (flat_map (thread_buffers setup) (enumerate_from n runs))
sizes_from setup n [] = All-nil (HasSize setup)
sizes_from setup n (run ∷ runs) =
    subst (All (HasSize setup)) (sym (flat_map-cons (thread_buffers setup) (n, run) (enumerate_from (n + 1) runs)))
    (All-append (HasSize setup) (thread_buffers setup (n, run)) (flat_map (thread_buffers setup) (enumerate_from (n + 1) runs))
    (numbered_sizes setup n 0 (segments_of setup.size run) run.lost) (sizes_from setup (n + 1) runs))

pub kept_sizes : (setup : Setup) (runs : List ThreadRun) → All (λ buffer. buffer.size ≡ setup.size) (kept_buffers setup runs)
kept_sizes setup runs = sizes_from setup 1 runs
