-- The loads of all threads, and their marks.
use Rattle.std.proofs.Common.{◌≡◌, ℕ, zero, suc, ◌+◌, ◌-◌, ◌<◌, ◌≤◌, List, [], ◌∷◌, Some, refl, sym, ap, subst, ◌∙◌, arith, length, map}
use Rattle.std.specs.Prelude.{slice_get, unwrap_or}
use Rattle.std.specs.List.{enumerate_from}
use Rattle.std.proofs.lemmas.Option.{slice_get_within}
use Rattle.handler_word.specs.declared.mark.Mark.{Mark}
use Rattle.patch_script.specs.Micros.{hold_of}
use Rattle.machine_step.specs.Loads.{Load, marks_of}
use Rattle.step_sim.specs.Replay.{Cast, Moment, marks_at, of_thread, thread_count}
use Rattle.run_order.proofs.ReplayAlongPlaces.{of_thread_at}

-- one list for each index below n
pub gather : (n : ℕ) (Holds : ℕ → List Load → Type 0) → ((i : ℕ) → i < n → (loads : List Load) × Holds i loads)
    → (all : List (List Load)) × (length all ≡ n) × ((i : ℕ) → i < n → Holds i (unwrap_or (slice_get all i) []))
gather zero Holds each = ([], refl, λ i low. absurd (omega (arith, low)))
gather (suc n) Holds each =
    let first = each 0 (omega arith) in
    let rest = gather n (λ i loads. Holds (suc i) loads) (λ i low. each (suc i) (omega (arith, low))) in
    let count : length (first.0 ∷ rest.0) ≡ suc n = omega (arith, rest.1) in
    (first.0 ∷ rest.0, count, at first.0 first.1 rest.0 rest.2)
  where
    at : (own : List Load) → Holds 0 own → (others : List (List Load)) → ((i : ℕ) → i < n → Holds (suc i) (unwrap_or (slice_get others i) []))
        → (i : ℕ) → i < suc n → Holds i (unwrap_or (slice_get (own ∷ others) i) [])
    at own holds others each zero low = holds
    at own holds others each (suc i) low = each i (omega (arith, low))

-- the marks of the threads at a moment, thread by thread
pub marks_are_at : (cast : Cast) (m : Moment) (marks : List (List Mark)) → length marks ≡ length cast.passings
    → ((thread : ℕ) (own : List Mark) → 0 < thread → thread ≤ length cast.passings → slice_get marks (thread - 1) ≡ Some own
    → marks_of cast.program (thread_count cast) thread (hold_of thread cast.script) (of_thread cast.passings thread) (of_thread m.loads thread) ≡ own)
    → marks_at cast m ≡ marks
marks_are_at cast m marks count each = from_number 1 cast.passings marks count (λ i sleds own found there.
    let back : 1 + i - 1 ≡ i = omega arith in
    let within = slice_get_within cast.passings i sleds found in
    ap (λ (ss : List ℕ). marks_of cast.program (thread_count cast) (1 + i) (hold_of (1 + i) cast.script) ss (of_thread m.loads (1 + i)))
    (sym (of_thread_at cast.passings i sleds found))
    ∙ each (1 + i) own (omega arith) (omega (arith, within)) (ap (slice_get marks) back ∙ there))
  where
    from_number : (number : ℕ) (passings : List (List ℕ)) (marks : List (List Mark)) → length marks ≡ length passings
        → ((i : ℕ) (sleds : List ℕ) (own : List Mark) → slice_get passings i ≡ Some sleds → slice_get marks i ≡ Some own
        → marks_of cast.program (thread_count cast) (number + i) (hold_of (number + i) cast.script) sleds (of_thread m.loads (number + i)) ≡ own)
        → map (λ (own : ℕ × List ℕ). marks_of cast.program (thread_count cast) own.0 (hold_of own.0 cast.script) own.1 (of_thread m.loads own.0))
        (enumerate_from number passings) ≡ marks
    from_number number [] [] count each = refl
    from_number number [] (own ∷ marks) count each = absurd (omega (arith, count))
    from_number number (sleds ∷ passings) [] count each = absurd (omega (arith, count))
    from_number number (sleds ∷ passings) (own ∷ marks) count each =
        let here : number + 0 ≡ number = omega arith in
        let first : marks_of cast.program (thread_count cast) number (hold_of number cast.script) sleds (of_thread m.loads number) ≡ own =
        subst (λ (t : ℕ). marks_of cast.program (thread_count cast) t (hold_of t cast.script) sleds (of_thread m.loads t) ≡ own) here (each 0 sleds own refl refl) in
        let rest = from_number (number + 1) passings marks (omega (arith, count)) (λ i ss ms found there.
        let e : number + suc i ≡ number + 1 + i = omega arith in
        subst (λ (t : ℕ). marks_of cast.program (thread_count cast) t (hold_of t cast.script) ss (of_thread m.loads t) ≡ ms) e (each (suc i) ss ms found there)) in
        ap (λ (ms : List Mark). ms ∷ map (λ (own : ℕ × List ℕ). marks_of cast.program (thread_count cast) own.0 (hold_of own.0 cast.script) own.1 (of_thread m.loads own.0)) (enumerate_from (number + 1) passings)) first
        ∙ ap (λ (all : List (List Mark)). own ∷ all) rest
