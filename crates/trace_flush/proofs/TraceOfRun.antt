-- The trace of a run.
use Rattle.std.proofs.Common.{◌≡◌, ◌≢◌, ℕ, zero, suc, ◌+◌, ◌<◌, List, [], ◌∷◌, ◌++◌, true, Option, Some, inl, inr, refl, sym, subst, ap, ◌∙◌, arith, drop, map}
use Rattle.std.specs.Prelude.{All, filter, slice_get}
use Rattle.std.specs.List.{enumerate_from, flat_map}
use Rattle.std.proofs.lemmas.Bool.Decides.{eqb_tells}
use Rattle.std.proofs.lemmas.List.{append-nil, map-append}
use Rattle.std.proofs.lemmas.List.Concat.{flat_map-cons}
use Rattle.std.proofs.lemmas.List.Elements.{All-append, All-from_recursion, filter-append}
use Rattle.xray_image.specs.Program.{IsAccepted, Program}
use Rattle.fdr_record.specs.declared.event.Event.{Event}
use Rattle.fdr_buffer.specs.Filled.{Filled}
use Rattle.fdr_buffer.specs.Fits.{BufferFits}
use Rattle.fdr_file.specs.declared.header.Header.{Header}
use Rattle.fdr_file.specs.declared.trace.Block.{Block}
use Rattle.fdr_file.specs.Files.{BlockFits, HeaderFits, block_told, file_bytes, trace_told}
use Rattle.fdr_file.specs.Grammar.{IsTrace}
use Rattle.machine_step.specs.Setups.{IsSetup}
use Rattle.machine_step.specs.declared.setup.Setup.{Setup}
use Rattle.traced_run.specs.Kept.{buffer_of, kept_buffers, kept_of, segments_of, stamp_of, thread_buffers}
use Rattle.traced_run.specs.Runs.{IsRun, ThreadRun, events_of}
use Rattle.trace_flush.specs.Flush.{IsTraceOf, segment_block, run_header, is_of, thread_blocks, trace_bytes}

-- ---- the blocks of a thread

told_all : (setup : Setup) (thread k : ℕ) (segs : List (List Event))
    → map block_told (map (buffer_of (stamp_of setup) thread) (enumerate_from k segs)) ≡ map (segment_block setup thread) segs
told_all setup thread k [] = refl
told_all setup thread k (events ∷ segs) =
    ap (λ (bs : List Block). segment_block setup thread events ∷ bs) (told_all setup thread (k + 1) segs)

told_after : (setup : Setup) (thread first k : ℕ) (segs : List (List Event))
    → map block_told (map (buffer_of (stamp_of setup) thread) (drop first (enumerate_from k segs))) ≡ map (segment_block setup thread) (drop first segs)
told_after setup thread zero k segs = told_all setup thread k segs
told_after setup thread (suc first) k [] = refl
told_after setup thread (suc first) k (events ∷ segs) = told_after setup thread first (k + 1) segs

thread_told : (setup : Setup) (thread : ℕ) (run : ThreadRun) → map block_told (thread_buffers setup (thread, run)) ≡ thread_blocks setup (thread, run)
thread_told setup thread run = told_after setup thread run.lost 0 (segments_of setup.size run)

all_told : (setup : Setup) (k : ℕ) (runs : List ThreadRun)
    → map block_told (flat_map (thread_buffers setup) (enumerate_from k runs)) ≡ flat_map (thread_blocks setup) (enumerate_from k runs)
all_told setup k [] = refl
all_told setup k (run ∷ runs) =
    let rest = enumerate_from (k + 1) runs in
    ap (map block_told) (flat_map-cons (thread_buffers setup) (k, run) rest)
    ∙ map-append block_told (thread_buffers setup (k, run)) (flat_map (thread_buffers setup) rest)
    ∙ ap (λ (bs : List Block). bs ++ map block_told (flat_map (thread_buffers setup) rest)) (thread_told setup k run)
    ∙ ap (λ (bs : List Block). thread_blocks setup (k, run) ++ bs) (all_told setup (k + 1) runs)
    ∙ sym (flat_map-cons (thread_blocks setup) (k, run) rest)

-- ---- the blocks of one thread among all

own_blocks : (setup : Setup) (thread : ℕ) (segs : List (List Event)) → filter (is_of thread) (map (segment_block setup thread) segs) ≡ map (segment_block setup thread) segs
own_blocks setup thread [] = refl
own_blocks setup thread (events ∷ segs) = elim (eqb_tells thread thread) [
  | inl same ↦ rw same.0 (ap (λ (bs : List Block). segment_block setup thread events ∷ bs) (own_blocks setup thread segs))
  | inr other ↦ absurd (other.1 refl)
]

other_blocks : (setup : Setup) (thread other : ℕ) (segs : List (List Event)) → thread ≢ other → filter (is_of other) (map (segment_block setup thread) segs) ≡ []
other_blocks setup thread other [] apart = refl
other_blocks setup thread other (events ∷ segs) apart = elim (eqb_tells thread other) [
  | inl same ↦ absurd (apart same.1)
  | inr not_same ↦ rw not_same.0 (other_blocks setup thread other segs apart)
]

-- the blocks of runs, from this thread on
abbrev blocks_from : Setup → ℕ → List ThreadRun → List Block
blocks_from setup k runs = flat_map (thread_blocks setup) (enumerate_from k runs)

split_of : (setup : Setup) (k thread : ℕ) (run : ThreadRun) (runs : List ThreadRun)
    → filter (is_of thread) (blocks_from setup k (run ∷ runs))
    ≡ filter (is_of thread) (thread_blocks setup (k, run)) ++ filter (is_of thread) (blocks_from setup (k + 1) runs)
split_of setup k thread run runs =
    ap (filter (is_of thread)) (flat_map-cons (thread_blocks setup) (k, run) (enumerate_from (k + 1) runs))
    ∙ filter-append (is_of thread) (thread_blocks setup (k, run)) (blocks_from setup (k + 1) runs)

later_blocks : (setup : Setup) (k thread : ℕ) (runs : List ThreadRun) → thread < k → filter (is_of thread) (blocks_from setup k runs) ≡ []
later_blocks setup k thread [] low = refl
later_blocks setup k thread (run ∷ runs) low =
    split_of setup k thread run runs
    ∙ ap (λ (bs : List Block). bs ++ filter (is_of thread) (blocks_from setup (k + 1) runs))
    (other_blocks setup k thread (kept_of setup.size run) (λ e. omega (arith, e, low)))
    ∙ later_blocks setup (k + 1) thread runs (omega (arith, low))

some_run : (run other : ThreadRun) → ◌≡◌ {A = Option ThreadRun} (Some run) (Some other) → run ≡ other
some_run run other e = cc

blocks_at : (setup : Setup) (k i : ℕ) (runs : List ThreadRun) (run : ThreadRun) → slice_get runs i ≡ Some run
    → filter (is_of (k + i)) (blocks_from setup k runs) ≡ thread_blocks setup (k + i, run)
blocks_at setup k zero [] run found = absurd cc
blocks_at setup k (suc i) [] run found = absurd cc
blocks_at setup k zero (first ∷ runs) run found =
    let here : k + zero ≡ k = omega arith in
    ap (λ (t : ℕ). filter (is_of t) (blocks_from setup k (first ∷ runs))) here
    ∙ split_of setup k k first runs
    ∙ ap (λ (bs : List Block). bs ++ filter (is_of k) (blocks_from setup (k + 1) runs)) (own_blocks setup k (kept_of setup.size first))
    ∙ ap (λ (bs : List Block). thread_blocks setup (k, first) ++ bs) (later_blocks setup (k + 1) k runs (omega arith))
    ∙ append-nil (thread_blocks setup (k, first))
    ∙ ap (λ (r : ThreadRun). thread_blocks setup (k, r)) (some_run first run found)
    ∙ ap (λ (t : ℕ). thread_blocks setup (t, run)) (sym here)
blocks_at setup k (suc i) (first ∷ runs) run found =
    let there : k + suc i ≡ k + 1 + i = omega arith in
    split_of setup k (k + suc i) first runs
    ∙ ap (λ (bs : List Block). bs ++ filter (is_of (k + suc i)) (blocks_from setup (k + 1) runs))
    (other_blocks setup k (k + suc i) (kept_of setup.size first) (λ e. omega (arith, e)))
    ∙ ap (λ (t : ℕ). filter (is_of t) (blocks_from setup (k + 1) runs)) there
    ∙ blocks_at setup (k + 1) i runs run found
    ∙ ap (λ (t : ℕ). thread_blocks setup (t, run)) (sym there)

-- the events of a thread's blocks
block_events : (setup : Setup) (thread : ℕ) (segs : List (List Event))
    → flat_map (λ block. block.events) (map (segment_block setup thread) segs) ≡ flat_map (λ s. s) segs
block_events setup thread [] = refl
block_events setup thread (events ∷ segs) =
    flat_map-cons (λ (block : Block). block.events) (segment_block setup thread events) (map (segment_block setup thread) segs)
    ∙ ap (λ (es : List Event). events ++ es) (block_events setup thread segs)
    ∙ sym (flat_map-cons (λ (s : List Event). s) events segs)

-- ---- the buffers were begun

begun_thread : (setup : Setup) (thread first k : ℕ) (segs : List (List Event)) → All (λ (b : Filled). b.begun ≡ true) (map (buffer_of (stamp_of setup) thread) (drop first (enumerate_from k segs)))
begun_thread setup thread zero k [] = All-from_recursion (λ (b : Filled). b.begun ≡ true) [] tt
begun_thread setup thread zero k (events ∷ segs) =
    All-append (λ (b : Filled). b.begun ≡ true) (buffer_of (stamp_of setup) thread (k, events) ∷ []) (map (buffer_of (stamp_of setup) thread) (enumerate_from (k + 1) segs))
    (All-from_recursion (λ (b : Filled). b.begun ≡ true) (buffer_of (stamp_of setup) thread (k, events) ∷ []) (refl, tt))
    (begun_thread setup thread zero (k + 1) segs)
begun_thread setup thread (suc first) k [] = All-from_recursion (λ (b : Filled). b.begun ≡ true) [] tt
begun_thread setup thread (suc first) k (events ∷ segs) = begun_thread setup thread first (k + 1) segs

pub begun_all : (setup : Setup) (k : ℕ) (runs : List ThreadRun) → All (λ (b : Filled). b.begun ≡ true) (flat_map (thread_buffers setup) (enumerate_from k runs))
begun_all setup k [] = All-from_recursion (λ (b : Filled). b.begun ≡ true) [] tt
begun_all setup k (run ∷ runs) =
    subst (All (λ (b : Filled). b.begun ≡ true)) (sym (flat_map-cons (thread_buffers setup) (k, run) (enumerate_from (k + 1) runs)))
    (All-append (λ (b : Filled). b.begun ≡ true) (thread_buffers setup (k, run)) (flat_map (thread_buffers setup) (enumerate_from (k + 1) runs))
    (begun_thread setup k run.lost 0 (segments_of setup.size run)) (begun_all setup (k + 1) runs))

-- ---- the whole

-- the laws of the crates below
abbrev pub ReadsBack : Type 0
ReadsBack = (header : Header) (buffers : List Filled) → HeaderFits header → All BlockFits buffers → IsTrace (file_bytes header buffers) (trace_told header buffers)

abbrev pub RunsFit : Type 0
RunsFit =
    (bytes : List ℕ) (program : Program) (setup : Setup) (runs : List ThreadRun) → IsAccepted bytes program → IsSetup setup
    → IsRun program setup runs → All BufferFits (kept_buffers setup runs)

abbrev pub AreWhole : Type 0
AreWhole = (size : ℕ) (run : ThreadRun) → run.lost ≡ 0 → flat_map (λ s. s) (kept_of size run) ≡ events_of run

pub run_is_traced : ReadsBack → RunsFit → AreWhole → (bytes : List ℕ) (program : Program) (setup : Setup) (runs : List ThreadRun)
    → IsAccepted bytes program → IsSetup setup → IsRun program setup runs → IsTraceOf setup runs (trace_bytes setup runs)
run_is_traced back fit whole bytes program setup runs accepted fits is = record {
  trace = trace_told (run_header setup) buffers;
  reads = back (run_header setup) buffers (record { version = refl; frequency = fits.frequency; size = omega (arith, fits.most) })
      (λ k d below. record { begun = begun_all setup 1 runs k d below; fits = fit bytes program setup runs accepted fits is k d below });
  header = refl;
  blocks = blocks;
  whole = λ i run found none.
      ap (flat_map (λ (block : Block). block.events)) (blocks i run found) ∙ block_events setup (i + 1) (kept_of setup.size run)
      ∙ whole setup.size run none;
  order = order;
}
  where
    buffers : List Filled
    buffers = kept_buffers setup runs

    order : map block_told buffers ≡ blocks_from setup 1 runs
    order = all_told setup 1 runs

    blocks : (i : ℕ) (run : ThreadRun) → slice_get runs i ≡ Some run → filter (is_of (i + 1)) (map block_told buffers) ≡ thread_blocks setup (i + 1, run)
    blocks i run found =
        let flipped : i + 1 ≡ 1 + i = omega arith in
        ap (filter (is_of (i + 1))) order ∙ ap (λ (t : ℕ). filter (is_of t) (blocks_from setup 1 runs)) flipped
        ∙ blocks_at setup 1 i runs run found ∙ ap (λ (t : ℕ). thread_blocks setup (t, run)) (sym flipped)
