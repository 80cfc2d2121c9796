-- The replay of the order of a run has the marks of the run.
use Rattle.std.proofs.Common.{◌≡◌, ℕ, zero, suc, ◌+◌, ◌-◌, ◌<◌, ◌≤◌, List, [], ◌∷◌, Option, Some, None, refl, sym, ap, subst, ◌∙◌, arith, length, map}
use Rattle.std.specs.Prelude.{option_map, slice_get}
use Rattle.std.proofs.lemmas.List.{length-map}
use Rattle.std.proofs.lemmas.Option.{slice_get-map}
use Rattle.xray_image.specs.Program.{Program}
use Rattle.patch_script.specs.declared.command.PatchCommand.{PatchCommand}
use Rattle.patch_script.specs.Bounds.{bound_of}
use Rattle.patch_script.specs.CodeAt.{code_at}
use Rattle.patch_script.specs.Micros.{hold_of, start_of, total_of}
use Rattle.machine_step.specs.Loads.{Load, marks_of}
use Rattle.machine_step.specs.Traced.{sleds_passed}
use Rattle.traced_run.specs.Runs.{ThreadRun}
use Rattle.step_sim.specs.Replay.{Cast, Replay, marks_at, of_thread}
use Rattle.step_sim.specs.Replayed.{cast_with, passed_of}
use Rattle.run_order.specs.FreeScripts.{free_commands, free_place}
use Rattle.run_order.specs.private.Ordered.{ordered}
use Rattle.run_order.specs.Placed.{ArePlaced}
use Rattle.audit_check.specs.Places.{load_places}
use Rattle.run_order.specs.Places.{free_places}
use Rattle.run_order.proofs.FreeMicros.{AllRelease, free_start, free_total, places_rise}
use Rattle.run_order.proofs.LoadsOfAll.{gather, marks_are_at}
use Rattle.run_order.proofs.ReplayAlongPlaces.{of_thread_at, replay_of_places}
use Rattle.audit_check.proofs.SearchResults.{was_made}
use Rattle.run_order.proofs.ThreadLoads.{Exist, thread_placed}

pub none_there : {X : Type 0} (xs : List X) (i : ℕ) → i < length xs → slice_get xs i ≡ None → ⊥
none_there [] i low e = omega (arith, low)
none_there (x ∷ xs) zero low e = cc
none_there (x ∷ xs) (suc i) low e = none_there xs i (omega (arith, low)) e

some_same : (a b : ThreadRun) → ◌≡◌ {A = Option ThreadRun} (Some a) (Some b) → a ≡ b
some_same a b e = cc

-- the sleds that each thread of a run passes
abbrev pub passings_of : List ThreadRun → List (List ℕ)
passings_of runs = map sleds_passed (passed_of runs)

pub passings_count : (runs : List ThreadRun) → length (passings_of runs) ≡ length runs
passings_count runs = length-map (passed_of runs) sleds_passed ∙ length-map runs (λ (run : ThreadRun). run.passed)

pub passings_at : (runs : List ThreadRun) (i : ℕ) (run : ThreadRun) → slice_get runs i ≡ Some run
    → slice_get (passings_of runs) i ≡ Some (sleds_passed run.passed)
passings_at runs i run e =
    slice_get-map sleds_passed (passed_of runs) i
    ∙ ap (option_map sleds_passed) (slice_get-map (λ (run : ThreadRun). run.passed) runs i ∙ ap (option_map (λ (run : ThreadRun). run.passed)) e)

-- each thread passes sleds that exist, and its loads have these places in the script without waits
pub record HavePlaces (program : Program) (script : List PatchCommand) (runs : List ThreadRun) (places : List (List ℕ)) : Type 0 where
  pub count : length places ≡ length runs
  pub exist : (i : ℕ) (run : ThreadRun) → slice_get runs i ≡ Some run
      → Exist program (length (passings_of runs)) (code_at program (length (passings_of runs)) script) (i + 1) (sleds_passed run.passed)
  pub places_are : (i : ℕ) (run : ThreadRun) (own : List ℕ) → slice_get runs i ≡ Some run → slice_get places i ≡ Some own
      → free_places program (length (passings_of runs)) script (i + 1) (sleds_passed run.passed) run.marks ≡ Some own

module _ (program : Program) (script : List PatchCommand) (runs : List ThreadRun) (releases : AllRelease (length (passings_of runs)) script)
    (bounds : (thread passing : ℕ) → bound_of program (length (passings_of runs)) script thread passing ≤ total_of program (length (passings_of runs)) script)
    (starts : start_of program (length (passings_of runs)) script ≤ total_of program (length (passings_of runs)) script)
    (places : List (List ℕ)) (have : HavePlaces program script runs places)
  where
    thread_in : (i : ℕ) → i < length places → (loads : List Load) × (
        ArePlaced (cast_with program (free_commands script) runs) (i + 1) (of_thread places (i + 1)) loads
        × ((run : ThreadRun) → slice_get runs i ≡ Some run
        → marks_of program (length (passings_of runs)) (i + 1) (hold_of (i + 1) (free_commands script)) (of_thread (passings_of runs) (i + 1)) loads ≡ run.marks)
        )
    thread_in i low = some_run (slice_get runs i) refl (slice_get places i) refl
      where
        some_run : (r : Option ThreadRun) → slice_get runs i ≡ r → (p : Option (List ℕ)) → slice_get places i ≡ p → (loads : List Load) × (
            ArePlaced (cast_with program (free_commands script) runs) (i + 1) (of_thread places (i + 1)) loads
            × ((run : ThreadRun) → slice_get runs i ≡ Some run
            → marks_of program (length (passings_of runs)) (i + 1) (hold_of (i + 1) (free_commands script)) (of_thread (passings_of runs) (i + 1)) loads ≡ run.marks)
            )
        some_run None e p f = absurd (none_there runs i (omega (arith, low, have.count)) e)
        some_run (Some run) e None f = absurd (none_there places i low f)
        some_run (Some run) e (Some own) f =
            let number : 1 + i ≡ i + 1 = omega arith in
            let sleds : of_thread (passings_of runs) (i + 1) ≡ sleds_passed run.passed =
            ap (of_thread (passings_of runs)) (sym number) ∙ of_thread_at (passings_of runs) i (sleds_passed run.passed) (passings_at runs i run e) in
            let own_places : of_thread places (i + 1) ≡ own = ap (of_thread places) (sym number) ∙ of_thread_at places i own f in
            let made = was_made (map (free_place program (length (passings_of runs)) script))
            (load_places program (length (passings_of runs)) script (i + 1) (sleds_passed run.passed) run.marks) own (have.places_are i run own e f) in
            let placed = thread_placed program script (passings_of runs) releases bounds (i + 1) (sleds_passed run.passed) run.marks made.value sleds (have.exist i run e) made.given_is in (
              placed.loads,
              (
                subst (λ (ps : List ℕ). ArePlaced (cast_with program (free_commands script) runs) (i + 1) ps placed.loads) (made.makes ∙ sym own_places) placed.placed,
                λ other again.
                    let same : run ≡ other = some_same run other (sym e ∙ again) in
                    placed.marks_are ∙ ap (λ (r : ThreadRun). r.marks) same,
              ),
            )

    -- the order is a schedule whose replay, beside the script without waits, has the marks of the run
    pub order_replays : Replay (cast_with program (free_commands script) runs)
        (ordered (start_of program (length (passings_of runs)) (free_commands script)) (total_of program (length (passings_of runs)) (free_commands script)) places)
        (map (λ run. run.marks) runs)
    order_replays =
        let n : ℕ = length (passings_of runs) in
        let cast : Cast = cast_with program (free_commands script) runs in
        let all = gather (length places)
        (λ i loads. ArePlaced cast (i + 1) (of_thread places (i + 1)) loads
        × ((run : ThreadRun) → slice_get runs i ≡ Some run
        → marks_of program n (i + 1) (hold_of (i + 1) (free_commands script)) (of_thread (passings_of runs) (i + 1)) loads ≡ run.marks)) thread_in in
        let count : length places ≡ n = have.count ∙ sym (passings_count runs) in
        let own : (thread : ℕ) → 0 < thread → thread - 1 + 1 ≡ thread = λ thread some. omega (arith, some) in
        let placed : (thread : ℕ) → 0 < thread → thread ≤ n → ArePlaced cast thread (of_thread places thread) (of_thread all.0 thread) = λ thread some high.
        let its = all.2 (thread - 1) (omega (arith, some, high, count)) in
        subst (λ (t : ℕ). ArePlaced cast t (of_thread places t) (of_thread all.0 thread)) (own thread some) its.0 in
        let within : start_of program n (free_commands script) ≤ total_of program n (free_commands script) =
        omega (arith, free_start program n script releases, free_total program n script releases, places_rise program n script (start_of program n script) (total_of program n script) starts) in
        let out = replay_of_places cast places all.0 placed count within in
        let marks : marks_at cast out.0 ≡ map (λ (run : ThreadRun). run.marks) runs =
        marks_are_at cast out.0 (map (λ (run : ThreadRun). run.marks) runs) (length-map runs (λ (run : ThreadRun). run.marks) ∙ sym (passings_count runs))
        (λ thread ms some high found.
        let its = all.2 (thread - 1) (omega (arith, some, high, count)) in
        let there = was_made (λ (run : ThreadRun). run.marks) (slice_get runs (thread - 1)) ms (sym (slice_get-map (λ (run : ThreadRun). run.marks) runs (thread - 1)) ∙ found) in
        ap (λ (ls : List Load). marks_of program n thread (hold_of thread (free_commands script)) (of_thread (passings_of runs) thread) ls) (out.2 thread some high)
        ∙ subst (λ (t : ℕ). marks_of program n t (hold_of t (free_commands script)) (of_thread (passings_of runs) t) (of_thread all.0 thread) ≡ there.value.marks) (own thread some)
        (its.1 there.value there.given_is)
        ∙ there.makes) in
        (out.0, out.1, sym marks)
