-- The runs of threads that have ended.
use Rattle.std.proofs.Common.{◌≡◌, ℕ, zero, suc, ◌+◌, ◌-◌, ◌<◌, ◌≤◌, List, [], ◌∷◌, ◌++◌, Option, Some, refl, sym, subst, ap, ◌∙◌, arith, length, map}
use Rattle.std.specs.Prelude.{slice_get, unwrap_or}
use Rattle.std.specs.List.{enumerate_from, flat_map}
use Rattle.xray_image.specs.Program.{IsAccepted}
use Rattle.patch_script.specs.Micros.{hold_of}
use Rattle.handler_word.specs.declared.mark.Mark.{Mark}
use Rattle.fdr_buffer.specs.Filled.{Filled}
use Rattle.machine_step.specs.declared.end.End.{End}
use Rattle.machine_step.specs.Ended.{EndsAsPlain}
use Rattle.machine_step.specs.Loads.{Load, marks_of}
use Rattle.machine_step.specs.PlainStep.{Passing, PlainRun, State}
use Rattle.machine_step.specs.Traced.{HasLoaded, IsDone, StandsAs, Traced, sleds_passed}
use Rattle.traced_run.specs.Left.{HasRun}
use Rattle.traced_run.specs.Runs.{ThreadRun}
use Rattle.step_sim.specs.declared.patcher.Patcher.{Patcher}
use Rattle.step_sim.specs.declared.pool.Pool.{Pool}
use Rattle.step_sim.specs.Pool.{Pooled, segments_among}
use Rattle.step_sim.specs.Recorded.{numbers_from}
use Rattle.step_sim.specs.private.Recording.{AllRecordAt, Recording}
use Rattle.step_sim.specs.Replay.{of_thread, thread_count}
use Rattle.step_sim.specs.private.Standing.{Rests}
use Rattle.step_sim.proofs.Bounds.{marks_alike, run_alike}

-- the law that a traced thread ends as its plain run does
abbrev pub EndsSo : Type 0
EndsSo = (bytes : List ℕ) (t : Traced) (own passed : List Passing) (loads : List Load) (end : End) (last : State)
    → IsAccepted bytes t.program → HasLoaded t own loads → IsDone t.want → StandsAs t t.want
    → PlainRun t.program t.limits t.thread passed end last → EndsAsPlain t passed end last loads

-- ---- one thread

-- the marks of a thread where a replay is
abbrev pub marks_in : Recording → Pooled → ℕ → List Mark
marks_in r last thread =
    marks_of r.cast.program (thread_count r.cast) thread (hold_of thread r.cast.script) (of_thread r.cast.passings thread) (of_thread last.moment.loads thread)

-- the run of a thread, with what it has marked and lost
pub record IsRunOf (r : Recording) (last : Pooled) (ts : List Traced) (thread : ℕ) (run : ThreadRun) : Type 0 where
  pub passed : run.passed ≡ of_thread r.passed thread
  pub marks : run.marks ≡ marks_in r last thread
  pub lost : run.lost ≡ segments_among thread last.stock.taken
  pub plain : PlainRun r.cast.program r.limits thread run.passed run.end run.last
  pub has : (t : Traced) → slice_get ts (thread - 1) ≡ Some t → HasRun thread run t

some_traced : (t u : Traced) → ◌≡◌ {A = Option Traced} (Some t) (Some u) → t ≡ u
some_traced t u e = cc

run_of : (r : Recording) (last : Pooled) (p : Patcher) (ts : List Traced) (pool : Pool) (i : ℕ) (t : Traced) → EndsSo
    → (bytes : List ℕ) × IsAccepted bytes r.cast.program → AllRecordAt r last p ts pool → i < r.threads → slice_get ts i ≡ Some t → Rests t
    → (run : ThreadRun) × IsRunOf r last ts (i + 1) run
run_of r last p ts pool i t so (bytes, accepted) at within found rests =
    let number : ℕ = i + 1 in
    let is = at.stands.thread i t found in
    let its = at.stands.each i t found in
    let some : 0 < number = omega arith in
    let among : number ≤ r.threads = omega (arith, within) in
    let passed : List Passing = of_thread r.passed number in
    let plain = at.traced.run number some among in
    let own : PlainRun t.program t.limits t.thread passed plain.0 plain.1 =
    run_alike r.cast.program t.program r.limits t.limits number t.thread passed plain.0 plain.1
    (sym is.program_is) (sym is.limits_are) (sym is.thread_is) plain.2 in
    let loads : List Load = of_thread last.moment.loads t.thread in
    let ends : EndsAsPlain t passed plain.0 plain.1 loads =
    so bytes t its.passed passed loads plain.0 plain.1 (subst (IsAccepted bytes) (sym is.program_is) accepted) its.loaded
    (subst IsDone (sym rests.wants) tt) rests.stands own in
    let run : ThreadRun = record {
      passed = passed;
      end = plain.0;
      last = plain.1;
      marks = t.marks;
      lost = segments_among number last.stock.taken;
    } in
    let back : i + 1 - 1 ≡ i = omega arith in
    let has_own : HasRun number run t = record { thread = is.thread_is; loads = loads; ends = ends; marks = refl } in (
      run,
      record {
        passed = refl;
        marks = ends.marks
            ∙ marks_alike t.program r.cast.program t.threads (thread_count r.cast) t.thread number t.hold (hold_of number r.cast.script) (sleds_passed passed)
            (of_thread r.cast.passings number) loads (of_thread last.moment.loads number)
            is.program_is its.threads_are is.thread_is (its.free ∙ sym (at.stands.no_hold number)) (sym (at.traced.sleds number some among))
            (ap (of_thread last.moment.loads) is.thread_is);
        lost = refl;
        plain = plain.2;
        has = λ u there.
            let here : slice_get ts i ≡ Some u = ap (slice_get ts) (sym back) ∙ there in
            subst (HasRun number run) (some_traced t u (sym found ∙ here)) has_own;
      },
    )

-- ---- all threads

-- the runs of n threads, from one thread on
pub record AllRuns (r : Recording) (last : Pooled) (ts : List Traced) (first n : ℕ) : Type 0 where
  pub runs : List ThreadRun
  pub count : length runs ≡ n
  pub each : (j : ℕ) (run : ThreadRun) → slice_get runs j ≡ Some run → IsRunOf r last ts (first + j) run

pub some_run : (run other : ThreadRun) → ◌≡◌ {A = Option ThreadRun} (Some run) (Some other) → run ≡ other
some_run run other e = cc

pub no_run : (j : ℕ) (run : ThreadRun) → slice_get [] j ≡ Some run → ⊥
no_run zero run e = cc
no_run (suc j) run e = cc

gather : (r : Recording) (last : Pooled) (ts : List Traced) (first n : ℕ)
    → ((thread : ℕ) → first ≤ thread → thread < first + n → (run : ThreadRun) × IsRunOf r last ts thread run) → AllRuns r last ts first n
gather r last ts first zero own = record { runs = []; count = refl; each = λ j run e. absurd (no_run j run e) }
gather r last ts first (suc n) own =
    let one = own first (omega arith) (omega arith) in
    let rest = gather r last ts (first + 1) n (λ thread low high. own thread (omega (arith, low)) (omega (arith, high))) in
    record {
      runs = one.0 ∷ rest.runs;
      count = ap suc rest.count;
      each = λ j run e. by_place one.0 one.1 rest.runs rest.each j run e;
    }
  where
    by_place : (head : ThreadRun) → IsRunOf r last ts first head → (runs : List ThreadRun)
        → ((j : ℕ) (run : ThreadRun) → slice_get runs j ≡ Some run → IsRunOf r last ts (first + 1 + j) run)
        → (j : ℕ) (run : ThreadRun) → slice_get (head ∷ runs) j ≡ Some run → IsRunOf r last ts (first + j) run
    by_place head is runs each zero run e =
        let here : first ≡ first + zero = omega arith in
        subst (λ (k : ℕ). IsRunOf r last ts k run) here (subst (IsRunOf r last ts first) (some_run head run e) is)
    by_place head is runs each (suc j) run e =
        let there : first + 1 + j ≡ first + suc j = omega arith in
        subst (λ (k : ℕ). IsRunOf r last ts k run) there (each j run e)

there_is : (ts : List Traced) (i : ℕ) → i < length ts → (t : Traced) × (slice_get ts i ≡ Some t)
there_is [] i within = absurd (omega (arith, within))
there_is (t ∷ ts) zero within = (t, refl)
there_is (t ∷ ts) (suc i) within = there_is ts i (omega (arith, within))

pub all_runs : (r : Recording) (last : Pooled) (p : Patcher) (ts : List Traced) (pool : Pool) → EndsSo
    → (bytes : List ℕ) × IsAccepted bytes r.cast.program → AllRecordAt r last p ts pool
    → ((i : ℕ) (t : Traced) → slice_get ts i ≡ Some t → Rests t) → AllRuns r last ts 1 r.threads
all_runs r last p ts pool so accepted at rests =
    gather r last ts 1 r.threads (λ thread low high.
    let found = there_is ts (thread - 1) (omega (arith, low, high, at.stands.count)) in
    let back : thread - 1 + 1 ≡ thread = omega (arith, low) in
    subst (λ (k : ℕ). (run : ThreadRun) × IsRunOf r last ts k run) back
    (run_of r last p ts pool (thread - 1) found.0 so accepted at (omega (arith, low, high)) found.1 (rests (thread - 1) found.0 found.1)))

-- ---- lists by the numbers of threads

-- what is read of each run of a list
pub runs_map : {Y : Type 0} (f : ThreadRun → Y) (F : ℕ → Y) (runs : List ThreadRun) (first n : ℕ) → length runs ≡ n
    → ((j : ℕ) (run : ThreadRun) → slice_get runs j ≡ Some run → f run ≡ F (first + j)) → map f runs ≡ map F (numbers_from first n)
runs_map f F [] first zero count is = refl
runs_map f F [] first (suc n) count is = absurd (omega (arith, count))
runs_map f F (run ∷ runs) first zero count is = absurd (omega (arith, count))
runs_map {Y = Y} f F (run ∷ runs) first (suc n) count is =
    let here : first + zero ≡ first = omega arith in
    ap (λ (y : Y). y ∷ map f runs) (is zero run refl ∙ ap F here)
    ∙ ap (λ (ys : List Y). F first ∷ ys)
    (runs_map f F runs (first + 1) n (omega (arith, count)) (λ j other found. is (suc j) other found ∙ ap F (following j)))
  where
    following : (j : ℕ) → first + suc j ≡ first + 1 + j
    following j = omega arith

-- what is made of each item of a list with its number
pub enumerated_map : {X Y : Type 0} (f : ℕ × X → Y) (F : ℕ → Y) (xs : List X) (first n : ℕ) → length xs ≡ n
    → ((j : ℕ) (x : X) → slice_get xs j ≡ Some x → f (first + j, x) ≡ F (first + j)) → map f (enumerate_from first xs) ≡ map F (numbers_from first n)
enumerated_map f F [] first zero count is = refl
enumerated_map f F [] first (suc n) count is = absurd (omega (arith, count))
enumerated_map f F (x ∷ xs) first zero count is = absurd (omega (arith, count))
enumerated_map {X = X} {Y = Y} f F (x ∷ xs) first (suc n) count is =
    let here : first + zero ≡ first = omega arith in
    ap (λ (y : Y). y ∷ map f (enumerate_from (first + 1) xs))
    (ap (λ (k : ℕ). f (k, x)) (sym here) ∙ is zero x refl ∙ ap F here)
    ∙ ap (λ (ys : List Y). F first ∷ ys)
    (enumerated_map f F xs (first + 1) n (omega (arith, count))
    (λ j y found. ap (λ (k : ℕ). f (k, y)) (sym (following j)) ∙ is (suc j) y found ∙ ap F (following j)))
  where
    following : (j : ℕ) → first + suc j ≡ first + 1 + j
    following j = omega arith

-- the buffers that are made of each run with its number
pub enumerated_buffers : (F : ℕ → List Filled) (f : ℕ × ThreadRun → List Filled) (runs : List ThreadRun) (first n : ℕ) → length runs ≡ n
    → ((j : ℕ) (run : ThreadRun) → slice_get runs j ≡ Some run → F (first + j) ≡ f (first + j, run))
    → flat_map F (numbers_from first n) ≡ flat_map f (enumerate_from first runs)
enumerated_buffers F f [] first zero count is = refl
enumerated_buffers F f [] first (suc n) count is = absurd (omega (arith, count))
enumerated_buffers F f (run ∷ runs) first zero count is = absurd (omega (arith, count))
enumerated_buffers F f (run ∷ runs) first (suc n) count is =
    let here : first + zero ≡ first = omega arith in
    ap (λ (bs : List Filled). bs ++ flat_map F (numbers_from (first + 1) n))
    (ap F (sym here) ∙ is zero run refl ∙ ap (λ (k : ℕ). f (k, run)) here)
    ∙ ap (λ (bs : List Filled). f (first, run) ++ bs)
    (enumerated_buffers F f runs (first + 1) n (omega (arith, count))
    (λ j other found. ap F (sym (following j)) ∙ is (suc j) other found ∙ ap (λ (k : ℕ). f (k, other)) (following j)))
  where
    following : (j : ℕ) → first + suc j ≡ first + 1 + j
    following j = omega arith

-- the item of a thread is that at its place
pub of_thread_at : {X : Type 0} (lists : List (List X)) (j : ℕ) (xs : List X) → slice_get lists j ≡ Some xs → of_thread lists (1 + j) ≡ xs
of_thread_at {X = X} lists j xs found =
    let back : 1 + j - 1 ≡ j = omega arith in
    let none : List X = [] in
    ap (λ (k : ℕ). unwrap_or (slice_get lists k) none) back ∙ ap (λ (o : Option (List X)). unwrap_or o none) found
