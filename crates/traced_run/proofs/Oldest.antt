-- The segments that are lost, and those that are left.
use Rattle.std.proofs.Common.{◌≡◌, ℕ, zero, suc, List, [], ◌∷◌, ◌++◌, Some, sym, ap, ◌∙◌, arith, take, drop}
use Rattle.std.specs.Prelude.{slice_get}
use Rattle.std.specs.List.{flat_map}
use Rattle.std.proofs.lemmas.List.{take-append-drop}
use Rattle.std.proofs.lemmas.List.Concat.{flat_map-append}
use Rattle.std.proofs.lemmas.List.Sums.{sum_by-cons}
use Rattle.fdr_record.specs.declared.event.Event.{Event}
use Rattle.fdr_buffer.specs.Segments.{segments}
use Rattle.traced_run.specs.Runs.{EachThread, ThreadRun, events_of}
use Rattle.traced_run.specs.Kept.{kept_of, segments_of}
use Rattle.traced_run.specs.Losses.{recycled_of}

-- the segments of events hold all of them
abbrev pub HoldAll : Type 0
HoldAll = (size : ℕ) (events : List Event) → flat_map (λ s. s) (segments size events) ≡ events

pub lost_then_kept : HoldAll → (size : ℕ) (run : ThreadRun)
    → flat_map (λ s. s) (take run.lost (segments_of size run)) ++ flat_map (λ s. s) (kept_of size run) ≡ events_of run
lost_then_kept hold size run =
    let segs = segments_of size run in
    sym (flat_map-append (λ (s : List Event). s) (take run.lost segs) (drop run.lost segs))
    ∙ ap (flat_map (λ (s : List Event). s)) (take-append-drop run.lost segs) ∙ hold size (events_of run)

pub none_lost : (runs : List ThreadRun) (i : ℕ) (run : ThreadRun) → recycled_of runs ≡ 0 → slice_get runs i ≡ Some run → run.lost ≡ 0
none_lost [] zero run none found = absurd cc
none_lost [] (suc i) run none found = absurd cc
none_lost (first ∷ runs) zero run none found =
    let same : first ≡ run = cc in
    let here : first.lost ≡ 0 = omega (arith, none, sum_by-cons (λ (r : ThreadRun). r.lost) first runs) in
    ap (λ (r : ThreadRun). r.lost) (sym same) ∙ here
none_lost (first ∷ runs) (suc i) run none found =
    none_lost runs i run (omega (arith, none, sum_by-cons (λ (r : ThreadRun). r.lost) first runs)) found

pub all_kept : (size : ℕ) (runs : List ThreadRun) → recycled_of runs ≡ 0
    → EachThread runs (λ number run. kept_of size run ≡ segments_of size run)
all_kept size runs none i run found = ap (λ (n : ℕ). drop n (segments_of size run)) (none_lost runs i run none found)

pub all_events : HoldAll → (size : ℕ) (runs : List ThreadRun) → recycled_of runs ≡ 0
    → EachThread runs (λ number run. flat_map (λ s. s) (kept_of size run) ≡ events_of run)
all_events hold size runs none i run found =
    ap (flat_map (λ (s : List Event). s)) (all_kept size runs none i run found) ∙ hold size (events_of run)

pub own_events : HoldAll → (size : ℕ) (run : ThreadRun) → run.lost ≡ 0 → flat_map (λ s. s) (kept_of size run) ≡ events_of run
own_events hold size run none =
    ap (λ (n : ℕ). flat_map (λ (s : List Event). s) (drop n (segments_of size run))) none ∙ hold size (events_of run)
