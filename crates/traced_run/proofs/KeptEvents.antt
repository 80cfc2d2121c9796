-- The buffers that a run leaves hold events.
use Rattle.std.proofs.Common.{◌≡◌, ◌≢◌, ◌<◌, ℕ, zero, suc, ◌+◌, List, [], ◌∷◌, ◌++◌, refl, sym, ap, ◌∙◌, arith, length, drop, map, lt-ltb, subst}
use Rattle.std.specs.Prelude.{All, IsPermutation, filter}
use Rattle.std.specs.List.{AllByRecursion, enumerate_from, flat_map}
use Rattle.std.proofs.lemmas.List.Concat.{flat_map-cons}
use Rattle.std.proofs.lemmas.List.Elements.{recursion_from_All, filter-append}
use Rattle.std.proofs.lemmas.List.Sorted.{IsPermutation-refl}
use Rattle.fdr_record.specs.declared.event.Event.{Event}
use Rattle.fdr_buffer.specs.Filled.{Filled, has_event}
use Rattle.fdr_buffer.specs.Segments.{segments}
use Rattle.machine_step.specs.declared.setup.Setup.{Setup}
use Rattle.machine_step.specs.Traced.{Traced}
use Rattle.traced_run.specs.Kept.{buffer_of, kept_buffers, segments_of, stamp_of, thread_buffers}
use Rattle.traced_run.specs.Left.{Leaves, LeavesInAnyOrder}
use Rattle.traced_run.specs.Runs.{ThreadRun, events_of}

-- the law that segments have events
abbrev pub HaveEvents : Type 0
HaveEvents = (size : ℕ) (events : List Event) → All (λ s. s ≢ []) (segments size events)

some_events : (events : List Event) → events ≢ [] → 0 < length events
some_events [] none = absurd (none refl)
some_events (e ∷ es) none = omega arith

thread_filled : (setup : Setup) (thread first k : ℕ) (segs : List (List Event)) → AllByRecursion (λ s. s ≢ []) segs
    → filter has_event (map (buffer_of (stamp_of setup) thread) (drop first (enumerate_from k segs)))
    ≡ map (buffer_of (stamp_of setup) thread) (drop first (enumerate_from k segs))
thread_filled setup thread zero k [] some = refl
thread_filled setup thread zero k (events ∷ segs) (here, some) =
    let test = lt-ltb 0 (length events) (some_events events here) in
    rw test (ap (λ (bs : List Filled). buffer_of (stamp_of setup) thread (k, events) ∷ bs) (thread_filled setup thread zero (k + 1) segs some))
thread_filled setup thread (suc first) k [] some = refl
thread_filled setup thread (suc first) k (events ∷ segs) (here, some) = thread_filled setup thread first (k + 1) segs some

pub one_filled : HaveEvents → (setup : Setup) (thread : ℕ) (run : ThreadRun)
    → filter has_event (thread_buffers setup (thread, run)) ≡ thread_buffers setup (thread, run)
one_filled have setup thread run =
    thread_filled setup thread run.lost 0 (segments_of setup.size run)
    (recursion_from_All (λ s. s ≢ []) (segments_of setup.size run) (have setup.size (events_of run)))

all_filled : HaveEvents → (setup : Setup) (k : ℕ) (runs : List ThreadRun)
    → filter has_event (flat_map (thread_buffers setup) (enumerate_from k runs)) ≡ flat_map (thread_buffers setup) (enumerate_from k runs)
all_filled have setup k [] = refl
all_filled have setup k (run ∷ runs) =
    let first = thread_buffers setup (k, run) in
    let rest = flat_map (thread_buffers setup) (enumerate_from (k + 1) runs) in
    ap (filter has_event) (flat_map-cons (thread_buffers setup) (k, run) (enumerate_from (k + 1) runs))
    ∙ filter-append has_event first rest
    ∙ ap (λ (bs : List Filled). bs ++ filter has_event rest) (one_filled have setup k run)
    ∙ ap (λ (bs : List Filled). first ++ bs) (all_filled have setup (k + 1) runs)
    ∙ sym (flat_map-cons (thread_buffers setup) (k, run) (enumerate_from (k + 1) runs))

pub kept_filled : HaveEvents → (setup : Setup) (runs : List ThreadRun) → filter has_event (kept_buffers setup runs) ≡ kept_buffers setup runs
kept_filled have setup runs = all_filled have setup 1 runs

-- what a run leaves in order, it leaves in any order
pub in_any_order : HaveEvents → (setup : Setup) (runs : List ThreadRun) (cpus : List Traced) (segments first : List ℕ) (buffers : List Filled)
    → Leaves setup runs cpus segments first buffers → LeavesInAnyOrder setup runs cpus segments first buffers
in_any_order have setup runs cpus segments first buffers leaves =
    let kept = kept_buffers setup runs in
    record {
      leaves = subst (Leaves setup runs cpus segments first) leaves.buffers_are leaves;
      buffers_are =
          subst (λ (bs : List Filled). IsPermutation (filter has_event bs) kept) (sym leaves.buffers_are)
          (subst (λ (bs : List Filled). IsPermutation bs kept) (sym (kept_filled have setup runs)) (IsPermutation-refl kept));
    }
