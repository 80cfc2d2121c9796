-- There are lawful runs beside each script that is read.
use Rattle.std.proofs.Common.{◌≡◌, ℕ, zero, suc, ◌+◌, ◌<◌, ◌≤◌, List, [], ◌∷◌, length, Option, Some, None, Ok, refl, sym, ap, subst, ◌∙◌, arith}
use Rattle.std.specs.Prelude.{option_map, slice_get}
use Rattle.std.proofs.lemmas.List.{length-map}
use Rattle.std.proofs.lemmas.Option.{slice_get-map}
use Rattle.xray_image.specs.Program.{IsAccepted, Program}
use Rattle.sled_words.specs.ChangingCode.{LetsEnd}
use Rattle.patch_script.specs.declared.command.PatchCommand.{PatchCommand}
use Rattle.patch_script.specs.Bounds.{bound_of}
use Rattle.patch_script.specs.CodeAt.{code_at}
use Rattle.patch_script.specs.Micros.{hold_of, start_of, total_of}
use Rattle.patch_script.specs.Plans.{Plan, plan_of}
use Rattle.patch_script.specs.Refusals.{commands_of}
use Rattle.handler_word.specs.declared.mark.Mark.{Mark}
use Rattle.machine_step.specs.declared.end.End.{End}
use Rattle.machine_step.specs.declared.limits.Limits.{Limits}
use Rattle.machine_step.specs.declared.setup.Setup.{Setup}
use Rattle.machine_step.specs.Follows.{MarksFollow}
use Rattle.machine_step.specs.PlainStep.{Passing, PlainRun, State}
use Rattle.machine_step.specs.Traced.{sleds_passed}
use Rattle.traced_run.specs.Losses.{AreLost, without_loss, without_losses}
use Rattle.traced_run.specs.Runs.{IsRun, ThreadRun}
use Rattle.traced_run.specs.Following.{AllMarksFollow, MarksFollowScript}
use Rattle.machine_step.specs.Buffers.{spare_of}
use Rattle.xray_program.proofs.PlainLaws.{SomeEnd}

-- ---- what the crates below say

-- each script that is read lets its threads come to their ends
abbrev pub ScriptLetsEnd : Type 0
ScriptLetsEnd = (program : Program) (threads : ℕ) (text : List ℕ) (plan : Plan) (thread : ℕ) → 0 < thread → plan_of program threads text ≡ Ok plan
    → LetsEnd program thread (hold_of thread (commands_of plan.lines)) (code_at program threads (commands_of plan.lines))
    (start_of program threads (commands_of plan.lines)) (total_of program threads (commands_of plan.lines)) (bound_of program threads (commands_of plan.lines) thread)

-- a thread that comes to its end has marks
abbrev pub SomeMarks : Type 0
SomeMarks = (program : Program) (limits : Limits) (threads thread : ℕ) (passed : List Passing) (end : End) (last : State) (code : ℕ → ℕ → ℕ)
    (start total : ℕ) (bound : ℕ → ℕ) (hold : Option ℕ) → 0 < thread → thread ≤ threads → PlainRun program limits thread passed end last
    → LetsEnd program thread hold code start total bound
    → (marks : List Mark) × MarksFollow program threads code start bound thread hold (sleds_passed passed) marks total

-- some losses of runs are those of one queue
abbrev pub SomeLosses : Type 0
SomeLosses = (size spare : ℕ) (runs : List ThreadRun)
    → (others : List ThreadRun) × (without_losses others ≡ without_losses runs) × AreLost size spare others

-- each script that is read has lawful runs
abbrev pub SomeRuns : Type 0
SomeRuns = (bytes text : List ℕ) (program : Program) (plan : Plan) (setup : Setup) → IsAccepted bytes program
    → plan_of program setup.threads text ≡ Ok plan → (runs : List ThreadRun) × IsRun program setup runs
    × AllMarksFollow program setup.threads (commands_of plan.lines) runs × AreLost setup.size (spare_of setup) runs

-- ---- one thread

record IsBeside (program : Program) (script : List PatchCommand) (setup : Setup) (thread : ℕ) (run : ThreadRun) : Type 0 where
  plain : PlainRun program setup.limits thread run.passed run.end run.last
  follow : MarksFollowScript program setup.threads script thread (sleds_passed run.passed) run.marks

one_beside : SomeEnd → ScriptLetsEnd → SomeMarks → (bytes text : List ℕ) (program : Program) (plan : Plan) (setup : Setup) (thread : ℕ)
    → IsAccepted bytes program → plan_of program setup.threads text ≡ Ok plan → 0 < thread → thread ≤ setup.threads
    → (run : ThreadRun) × IsBeside program (commands_of plan.lines) setup thread run
one_beside ends lets marks bytes text program plan setup thread accepted reads some known =
    let plain = ends bytes program setup.limits thread accepted in
    let script = commands_of plan.lines in
    let marked = marks program setup.limits setup.threads thread plain.0 plain.1 plain.2 (code_at program setup.threads script) (start_of program setup.threads script)
    (total_of program setup.threads script) (bound_of program setup.threads script thread) (hold_of thread script) some known plain.3
    (lets program setup.threads text plan thread some reads) in (
      record { passed = plain.0; end = plain.1; last = plain.2; marks = marked.0; lost = 0 },
      record { plain = plain.3; follow = marked.1 },
    )

-- ---- all threads

-- the threads from a number on
abbrev AreBeside : Program → List PatchCommand → Setup → ℕ → List ThreadRun → Type 0
AreBeside program script setup number runs =
    (i : ℕ) (run : ThreadRun) → slice_get runs i ≡ Some run → IsBeside program script setup (number + i) run

no_run : (i : ℕ) (run : ThreadRun) → slice_get [] i ≡ Some run → ⊥
no_run zero run found = cc
no_run (suc i) run found = cc

same_run : (one other : ThreadRun) → ◌≡◌ {A = Option ThreadRun} (Some one) (Some other) → one ≡ other
same_run one other same = cc

one_before : (program : Program) (script : List PatchCommand) (setup : Setup) (number : ℕ) (first : ThreadRun) (runs : List ThreadRun)
    → IsBeside program script setup number first → AreBeside program script setup (number + 1) runs
    → AreBeside program script setup number (first ∷ runs)
one_before program script setup number first runs is are zero run found =
    let here : number ≡ number + zero = omega arith in
    subst (λ (t : ℕ). IsBeside program script setup t run) here (subst (IsBeside program script setup number) (same_run first run found) is)
one_before program script setup number first runs is are (suc i) run found =
    let there : number + 1 + i ≡ number + suc i = omega arith in
    subst (λ (t : ℕ). IsBeside program script setup t run) there (are i run found)

all_beside : (program : Program) (script : List PatchCommand) (setup : Setup) (number n : ℕ) → 0 < number → number + n ≤ setup.threads + 1
    → ((thread : ℕ) → 0 < thread → thread ≤ setup.threads → (run : ThreadRun) × IsBeside program script setup thread run)
    → (runs : List ThreadRun) × (length runs ≡ n) × AreBeside program script setup number runs
all_beside program script setup number zero some known one = ([], refl, λ i run found. absurd (no_run i run found))
all_beside program script setup number (suc n) some known one =
    let first = one number some (omega (arith, known)) in
    let rest = all_beside program script setup (number + 1) n (omega arith) (omega (arith, known)) one in
    (first.0 ∷ rest.0, ap suc rest.1, one_before program script setup number first.0 rest.0 first.1 rest.2)

-- ---- losses

-- whatever the threads lose, they run so
but_for_losses : (program : Program) (script : List PatchCommand) (setup : Setup) (runs others : List ThreadRun)
    → without_losses others ≡ without_losses runs → AreBeside program script setup 1 runs → AreBeside program script setup 1 others
but_for_losses program script setup runs others same are i other found =
    by_run (slice_get runs i) refl
    (sym (slice_get-map without_loss runs i)
    ∙ (ap (λ (all : List ThreadRun). slice_get all i) (sym same) ∙ (slice_get-map without_loss others i ∙ ap (option_map without_loss) found)))
  where
    by_run : (run : Option ThreadRun) → slice_get runs i ≡ run → option_map without_loss run ≡ Some (without_loss other)
        → IsBeside program script setup (1 + i) other
    by_run None there is = absurd cc
    by_run (Some run) there is =
        let own = are i run there in
        let kept : IsBeside program script setup (1 + i) (without_loss run) = record { plain = own.plain; follow = own.follow } in
        let here = subst (IsBeside program script setup (1 + i)) (same_run (without_loss run) (without_loss other) is) kept in
        record { plain = here.plain; follow = here.follow }

same_count : (runs others : List ThreadRun) → without_losses others ≡ without_losses runs → length others ≡ length runs
same_count runs others same = sym (length-map others without_loss) ∙ (ap length same ∙ length-map runs without_loss)

-- ---- the whole

pub some_runs : SomeEnd → ScriptLetsEnd → SomeMarks → SomeLosses → SomeRuns
some_runs ends lets marks losses bytes text program plan setup accepted reads =
    let script = commands_of plan.lines in
    let made = all_beside program script setup 1 setup.threads (omega arith) (omega arith)
    (λ thread some known. one_beside ends lets marks bytes text program plan setup thread accepted reads some known) in
    let lost = losses setup.size (spare_of setup) made.0 in
    let are = but_for_losses program script setup made.0 lost.0 lost.1 made.2 in (
      lost.0,
      record { count = same_count made.0 lost.0 lost.1 ∙ made.1; plain = λ i run found. (at script lost.0 are i run found).plain },
      λ i run found. (at script lost.0 are i run found).follow,
      lost.2,
    )
  where
    at : (script : List PatchCommand) (runs : List ThreadRun) → AreBeside program script setup 1 runs → (i : ℕ) (run : ThreadRun)
        → slice_get runs i ≡ Some run → IsBeside program script setup (i + 1) run
    at script runs are i run found =
        let next : 1 + i ≡ i + 1 = omega arith in
        subst (λ (t : ℕ). IsBeside program script setup t run) next (are i run found)
