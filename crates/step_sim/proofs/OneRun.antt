-- A schedule leaves only one list of runs.
use Rattle.std.proofs.Common.{◌≡◌, ℕ, zero, suc, ◌+◌, List, [], ◌∷◌, Some, refl, sym, subst, ap, ◌∙◌, arith, length, map}
use Rattle.std.specs.Prelude.{slice_get}
use Rattle.xray_image.specs.Program.{IsAccepted, Program}
use Rattle.patch_script.specs.declared.command.PatchCommand.{PatchCommand}
use Rattle.handler_word.specs.declared.mark.Mark.{Mark}
use Rattle.machine_step.specs.declared.end.End.{End}
use Rattle.machine_step.specs.declared.limits.Limits.{Limits}
use Rattle.machine_step.specs.declared.setup.Setup.{Setup}
use Rattle.machine_step.specs.PlainStep.{Passing, PlainRun, State}
use Rattle.machine_step.specs.Traced.{sleds_passed}
use Rattle.traced_run.specs.Runs.{IsRun, ThreadRun}
use Rattle.step_sim.specs.declared.turns.Turns.{Turns}
use Rattle.step_sim.specs.Pool.{Pooled, PooledReplay, segments_among}
use Rattle.step_sim.specs.Recorded.{numbers_from, pooling_of}
use Rattle.step_sim.specs.Replay.{marks_at}
use Rattle.step_sim.specs.Replayed.{IsReplayOf, cast_of, cast_with, passed_of, pooling_with}
use Rattle.machine_step.specs.Buffers.{spare_of}
use Rattle.step_sim.proofs.Bounds.{OneEnd}
use Rattle.step_sim.proofs.PooledReplay.{same_queue}

-- from a thread on, each runs as its plain run does
abbrev ArePlain : Program → Limits → ℕ → List ThreadRun → Type 0
ArePlain program limits k runs =
    (i : ℕ) (run : ThreadRun) → slice_get runs i ≡ Some run → PlainRun program limits (k + i) run.passed run.end run.last

plain_from_1 : (program : Program) (setup : Setup) (runs : List ThreadRun) → IsRun program setup runs → ArePlain program setup.limits 1 runs
plain_from_1 program setup runs is i run found =
    let flipped : i + 1 ≡ 1 + i = omega arith in
    subst (λ (n : ℕ). PlainRun program setup.limits n run.passed run.end run.last) flipped (is.plain i run found)

first_plain : (program : Program) (limits : Limits) (k : ℕ) (run : ThreadRun) (runs : List ThreadRun) → ArePlain program limits k (run ∷ runs)
    → PlainRun program limits k run.passed run.end run.last
first_plain program limits k run runs plain =
    let here : k + zero ≡ k = omega arith in
    subst (λ (n : ℕ). PlainRun program limits n run.passed run.end run.last) here (plain zero run refl)

rest_plain : (program : Program) (limits : Limits) (k : ℕ) (run : ThreadRun) (runs : List ThreadRun) → ArePlain program limits k (run ∷ runs)
    → ArePlain program limits (k + 1) runs
rest_plain program limits k run runs plain i other found =
    let following : k + suc i ≡ k + 1 + i = omega arith in
    subst (λ (n : ℕ). PlainRun program limits n other.passed other.end other.last) following (plain (suc i) other found)

passed_same : OneEnd → (bytes : List ℕ) (program : Program) (limits : Limits) (k : ℕ) (runs others : List ThreadRun) → IsAccepted bytes program
    → length runs ≡ length others → ArePlain program limits k runs → ArePlain program limits k others → passed_of runs ≡ passed_of others
passed_same one bytes program limits k [] [] accepted same plain plain' = refl
passed_same one bytes program limits k [] (other ∷ others) accepted same plain plain' = absurd (omega (arith, same))
passed_same one bytes program limits k (run ∷ runs) [] accepted same plain plain' = absurd (omega (arith, same))
passed_same one bytes program limits k (run ∷ runs) (other ∷ others) accepted same plain plain' =
    let here = one bytes program limits k run.passed other.passed run.end other.end run.last other.last accepted
    (first_plain program limits k run runs plain) (first_plain program limits k other others plain') in
    ap (λ (ps : List Passing). ps ∷ passed_of runs) here.0
    ∙ ap (λ (all : List (List Passing)). other.passed ∷ all)
    (passed_same one bytes program limits (k + 1) runs others accepted (omega (arith, same))
    (rest_plain program limits k run runs plain) (rest_plain program limits k other others plain'))

-- a run of these parts
abbrev made_of : List Passing → End → State → List Mark → ℕ → ThreadRun
made_of passed end last marks lost = record { passed = passed; end = end; last = last; marks = marks; lost = lost }

same_run : (run other : ThreadRun) → run.passed ≡ other.passed → run.end ≡ other.end → run.last ≡ other.last → run.marks ≡ other.marks
    → run.lost ≡ other.lost → run ≡ other
same_run run other a b c d e =
    ap (λ (x : List Passing). made_of x run.end run.last run.marks run.lost) a
    ∙ ap (λ (x : End). made_of other.passed x run.last run.marks run.lost) b
    ∙ ap (λ (x : State). made_of other.passed other.end x run.marks run.lost) c
    ∙ ap (λ (x : List Mark). made_of other.passed other.end other.last x run.lost) d
    ∙ ap (λ (x : ℕ). made_of other.passed other.end other.last other.marks x) e

runs_same : OneEnd → (bytes : List ℕ) (program : Program) (limits : Limits) (k : ℕ) (runs others : List ThreadRun) → IsAccepted bytes program
    → length runs ≡ length others → ArePlain program limits k runs → ArePlain program limits k others
    → map (λ run. run.marks) runs ≡ map (λ run. run.marks) others → map (λ run. run.lost) runs ≡ map (λ run. run.lost) others → runs ≡ others
runs_same one bytes program limits k [] [] accepted same plain plain' marks lost = refl
runs_same one bytes program limits k [] (other ∷ others) accepted same plain plain' marks lost = absurd (omega (arith, same))
runs_same one bytes program limits k (run ∷ runs) [] accepted same plain plain' marks lost = absurd (omega (arith, same))
runs_same one bytes program limits k (run ∷ runs) (other ∷ others) accepted same plain plain' marks lost =
    let here = one bytes program limits k run.passed other.passed run.end other.end run.last other.last accepted
    (first_plain program limits k run runs plain) (first_plain program limits k other others plain') in
    let its_marks : run.marks ≡ other.marks = cc in
    let its_lost : run.lost ≡ other.lost = cc in
    let later_marks : map (λ (r : ThreadRun). r.marks) runs ≡ map (λ (r : ThreadRun). r.marks) others = cc in
    let later_lost : map (λ (r : ThreadRun). r.lost) runs ≡ map (λ (r : ThreadRun). r.lost) others = cc in
    ap (λ (r : ThreadRun). r ∷ runs) (same_run run other here.0 here.1 here.2 its_marks its_lost)
    ∙ ap (λ (rs : List ThreadRun). other ∷ rs)
    (runs_same one bytes program limits (k + 1) runs others accepted (omega (arith, same))
    (rest_plain program limits k run runs plain) (rest_plain program limits k other others plain') later_marks later_lost)

pub one_run_of : OneEnd → (bytes : List ℕ) (program : Program) (script : List PatchCommand) (schedule : List Turns) (setup : Setup)
    (runs others : List ThreadRun) → IsAccepted bytes program → IsReplayOf program script schedule setup runs
    → IsReplayOf program script schedule setup others → runs ≡ others
one_run_of one bytes program script schedule setup runs others accepted is other =
    runs_same one bytes program setup.limits 1 runs others accepted count plain plain' marks lost
  where
    count : length runs ≡ length others
    count = is.run.count ∙ sym other.run.count

    plain : ArePlain program setup.limits 1 runs
    plain = plain_from_1 program setup runs is.run

    plain' : ArePlain program setup.limits 1 others
    plain' = plain_from_1 program setup others other.run

    passed : passed_of runs ≡ passed_of others
    passed = passed_same one bytes program setup.limits 1 runs others accepted count plain plain'

    there : PooledReplay (cast_with program script others) (pooling_with program script setup others) schedule is.last
    there = subst (λ (ps : List (List Passing)). PooledReplay (cast_of program script (map sleds_passed ps))
        (pooling_of (cast_of program script (map sleds_passed ps)) ps setup.size (spare_of setup)) schedule is.last) passed is.replay

    last : is.last ≡ other.last
    last = same_queue (cast_with program script others) (pooling_with program script setup others) schedule is.last other.last there other.replay

    marks : map (λ run. run.marks) runs ≡ map (λ run. run.marks) others
    marks =
        is.marks ∙ ap (λ (ps : List (List Passing)). marks_at (cast_of program script (map sleds_passed ps)) is.last.moment) passed
        ∙ ap (λ (p : Pooled). marks_at (cast_with program script others) p.moment) last ∙ sym other.marks

    lost : map (λ run. run.lost) runs ≡ map (λ run. run.lost) others
    lost =
        is.lost ∙ ap (λ (p : Pooled). map (λ (thread : ℕ). segments_among thread p.stock.taken) (numbers_from 1 setup.threads)) last ∙ sym other.lost
