-- A schedule leaves runs.
use Rattle.std.proofs.Common.{◌≡◌, ℕ, zero, suc, ◌+◌, List, [], ◌∷◌, Option, Some, None, refl, sym, subst, ap, ◌∙◌, arith, length, map}
use Rattle.std.specs.Prelude.{slice_get}
use Rattle.std.proofs.lemmas.List.{length-map}
use Rattle.std.proofs.lemmas.List.FromFn.{length-enumerate_from}
use Rattle.xray_image.specs.Program.{IsAccepted, Program}
use Rattle.patch_script.specs.declared.command.PatchCommand.{PatchCommand}
use Rattle.patch_script.specs.Micros.{hold_of}
use Rattle.handler_word.specs.declared.mark.Mark.{Mark}
use Rattle.machine_step.specs.declared.end.End.{End}
use Rattle.machine_step.specs.declared.limits.Limits.{Limits}
use Rattle.machine_step.specs.declared.setup.Setup.{Setup}
use Rattle.machine_step.specs.PlainStep.{Passing, PlainRun, State}
use Rattle.machine_step.specs.Traced.{sleds_passed}
use Rattle.traced_run.specs.Runs.{ThreadRun}
use Rattle.step_sim.specs.declared.turns.Turns.{Turns}
use Rattle.step_sim.specs.Pool.{Pooled, PooledReplay, Pooling, segments_among}
use Rattle.step_sim.specs.Recorded.{numbers_from, pooling_of}
use Rattle.step_sim.specs.Replay.{Cast, Replay, marks_at}
use Rattle.step_sim.specs.Replayed.{IsReplayOf, cast_of, cast_with, passed_of}
use Rattle.machine_step.specs.Buffers.{spare_of}
use Rattle.step_sim.proofs.PooledReplay.{has_buffers}

-- ---- the laws below

-- a thread of an accepted image reaches an end
abbrev pub SomeEnd : Type 0
SomeEnd =
    (bytes : List ℕ) (program : Program) (limits : Limits) (thread : ℕ) → IsAccepted bytes program
    → (passed : List Passing) × (end : End) × (last : State) × PlainRun program limits thread passed end last

-- a schedule leaves marks if the script holds no thread
abbrev pub SomeMarks : Type 0
SomeMarks = (cast : Cast) (schedule : List Turns) → ((thread : ℕ) → hold_of thread cast.script ≡ None) → (marks : List (List Mark)) × Replay cast schedule marks

-- ---- plain runs

-- n runs from a thread on, without marks
record Bases (program : Program) (limits : Limits) (k n : ℕ) : Type 0 where
  runs : List ThreadRun
  count : length runs ≡ n
  plain : (i : ℕ) (run : ThreadRun) → slice_get runs i ≡ Some run → PlainRun program limits (k + i) run.passed run.end run.last

some_alike : (a b : ThreadRun) → ◌≡◌ {A = Option ThreadRun} (Some a) (Some b) → a ≡ b
some_alike a b e = cc

none_there : (i : ℕ) (run : ThreadRun) → slice_get [] i ≡ Some run → ⊥
none_there zero run e = cc
none_there (suc i) run e = cc

bases : SomeEnd → (bytes : List ℕ) (program : Program) (limits : Limits) (k n : ℕ) → IsAccepted bytes program → Bases program limits k n
bases ends bytes program limits k zero accepted = record { runs = []; count = refl; plain = λ i run e. absurd (none_there i run e) }
bases ends bytes program limits k (suc n) accepted =
    more (ends bytes program limits k accepted) (bases ends bytes program limits (k + 1) n accepted)
  where
    by_place : (first : ThreadRun) → PlainRun program limits k first.passed first.end first.last → (runs : List ThreadRun)
        → ((i : ℕ) (run : ThreadRun) → slice_get runs i ≡ Some run → PlainRun program limits (k + 1 + i) run.passed run.end run.last)
        → (i : ℕ) (run : ThreadRun) → slice_get (first ∷ runs) i ≡ Some run → PlainRun program limits (k + i) run.passed run.end run.last
    by_place first own runs plain zero run e =
        let here : k ≡ k + zero = omega arith in
        subst (λ (t : ℕ). PlainRun program limits t run.passed run.end run.last) here
        (subst (λ (r : ThreadRun). PlainRun program limits k r.passed r.end r.last) (some_alike first run e) own)
    by_place first own runs plain (suc i) run e =
        let there : k + 1 + i ≡ k + suc i = omega arith in
        subst (λ (t : ℕ). PlainRun program limits t run.passed run.end run.last) there (plain i run e)

    more : (passed : List Passing) × (end : End) × (last : State) × PlainRun program limits k passed end last → Bases program limits (k + 1) n
        → Bases program limits k (suc n)
    more (passed, end, last, own) rest =
        let first : ThreadRun = record { passed = passed; end = end; last = last; marks = []; lost = 0 } in
        record { runs = first ∷ rest.runs; count = ap suc rest.count; plain = by_place first own rest.runs rest.plain }

-- ---- with marks and losses

abbrev filled_in : ThreadRun → List Mark → ℕ → ThreadRun
filled_in run marks lost = record { passed = run.passed; end = run.end; last = run.last; marks = marks; lost = lost }

-- runs with these marks and losses
record Filled (program : Program) (limits : Limits) (k : ℕ) (runs : List ThreadRun) (marks : List (List Mark)) (lost : List ℕ) : Type 0 where
  all : List ThreadRun
  count : length all ≡ length runs
  passed : passed_of all ≡ passed_of runs
  marks_are : map (λ run. run.marks) all ≡ marks
  lost_are : map (λ run. run.lost) all ≡ lost
  plain : (i : ℕ) (run : ThreadRun) → slice_get all i ≡ Some run → PlainRun program limits (k + i) run.passed run.end run.last

filled : (program : Program) (limits : Limits) (k : ℕ) (runs : List ThreadRun) (marks : List (List Mark)) (lost : List ℕ)
    → length marks ≡ length runs → length lost ≡ length runs
    → ((i : ℕ) (run : ThreadRun) → slice_get runs i ≡ Some run → PlainRun program limits (k + i) run.passed run.end run.last)
    → Filled program limits k runs marks lost
filled program limits k [] [] [] same_marks same_lost plain =
    record { all = []; count = refl; passed = refl; marks_are = refl; lost_are = refl; plain = λ i run e. absurd (none_there i run e) }
filled program limits k [] (m ∷ marks) lost same_marks same_lost plain = absurd (omega (arith, same_marks))
filled program limits k [] [] (l ∷ lost) same_marks same_lost plain = absurd (omega (arith, same_lost))
filled program limits k (run ∷ runs) [] lost same_marks same_lost plain = absurd (omega (arith, same_marks))
filled program limits k (run ∷ runs) (m ∷ marks) [] same_marks same_lost plain = absurd (omega (arith, same_lost))
filled program limits k (run ∷ runs) (m ∷ marks) (l ∷ lost) same_marks same_lost plain =
    more (filled program limits (k + 1) runs marks lost (omega (arith, same_marks)) (omega (arith, same_lost)) (λ i other e.
    subst (λ (t : ℕ). PlainRun program limits t other.passed other.end other.last) (there i) (plain (suc i) other e)))
  where
    there : (i : ℕ) → k + suc i ≡ k + 1 + i
    there i = omega arith

    by_place : (rest : List ThreadRun)
        → ((i : ℕ) (other : ThreadRun) → slice_get rest i ≡ Some other → PlainRun program limits (k + 1 + i) other.passed other.end other.last)
        → (i : ℕ) (other : ThreadRun) → slice_get (filled_in run m l ∷ rest) i ≡ Some other
        → PlainRun program limits (k + i) other.passed other.end other.last
    by_place rest own zero other e =
        subst (λ (r : ThreadRun). PlainRun program limits (k + zero) r.passed r.end r.last) (some_alike (filled_in run m l) other e) (plain zero run refl)
    by_place rest own (suc i) other e =
        subst (λ (t : ℕ). PlainRun program limits t other.passed other.end other.last) (sym (there i)) (own i other e)

    more : Filled program limits (k + 1) runs marks lost → Filled program limits k (run ∷ runs) (m ∷ marks) (l ∷ lost)
    more rest = record {
      all = filled_in run m l ∷ rest.all;
      count = ap suc rest.count;
      passed = ap (λ (ps : List (List Passing)). run.passed ∷ ps) rest.passed;
      marks_are = ap (λ (ms : List (List Mark)). m ∷ ms) rest.marks_are;
      lost_are = ap (λ (ls : List ℕ). l ∷ ls) rest.lost_are;
      plain = by_place rest.all rest.plain;
    }

-- ---- the whole

length-numbers_from : (first n : ℕ) → length (numbers_from first n) ≡ n
length-numbers_from first zero = refl
length-numbers_from first (suc n) = ap suc (length-numbers_from (first + 1) n)

pub some_run_of : SomeEnd → SomeMarks → (bytes : List ℕ) (program : Program) (script : List PatchCommand) (schedule : List Turns) (setup : Setup)
    → IsAccepted bytes program → ((thread : ℕ) → hold_of thread script ≡ None) → (runs : List ThreadRun) × IsReplayOf program script schedule setup runs
some_run_of ends some bytes program script schedule setup accepted free = (
  made.all,
  record {
    run = record {
      count = made.count ∙ base.count;
      plain = λ i run e.
          let flipped : 1 + i ≡ i + 1 = omega arith in
          subst (λ (t : ℕ). PlainRun program setup.limits t run.passed run.end run.last) flipped (made.plain i run e);
    };
    last = last;
    replay = subst (λ (ps : List (List Passing)). PooledReplay (cast_of program script (map sleds_passed ps))
        (pooling_of (cast_of program script (map sleds_passed ps)) ps setup.size (spare_of setup)) schedule last) (sym made.passed) there.1;
    marks = made.marks_are
        ∙ ap (λ (ps : List (List Passing)). marks_at (cast_of program script (map sleds_passed ps)) last.moment) (sym made.passed);
    lost = made.lost_are;
  },
)
  where
    base : Bases program setup.limits 1 setup.threads
    base = bases ends bytes program setup.limits 1 setup.threads accepted

    cast : Cast
    cast = cast_with program script base.runs

    replay : (marks : List (List Mark)) × Replay cast schedule marks
    replay = some cast schedule free

    pooling : Pooling
    pooling = pooling_of cast (passed_of base.runs) setup.size (spare_of setup)

    there : (last : Pooled) × PooledReplay cast pooling schedule last × (replay.0 ≡ marks_at cast last.moment)
    there = has_buffers cast pooling schedule replay.0 replay.1

    last : Pooled
    last = there.0

    lost : List ℕ
    lost = map (λ thread. segments_among thread last.stock.taken) (numbers_from 1 setup.threads)

    marks_count : length (marks_at cast last.moment) ≡ length base.runs
    marks_count =
        length-map _ _ ∙ length-enumerate_from 1 cast.passings ∙ length-map (passed_of base.runs) sleds_passed
        ∙ length-map base.runs (λ (run : ThreadRun). run.passed)

    lost_count : length lost ≡ length base.runs
    lost_count =
        length-map (numbers_from 1 setup.threads) (λ (thread : ℕ). segments_among thread last.stock.taken)
        ∙ length-numbers_from 1 setup.threads ∙ sym base.count

    made : Filled program setup.limits 1 base.runs (marks_at cast last.moment) lost
    made = filled program setup.limits 1 base.runs (marks_at cast last.moment) lost marks_count lost_count base.plain
