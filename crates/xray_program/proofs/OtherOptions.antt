-- What the stamps of passings and the buffers don't change: the text that is printed, and the ends and marks of an audit.
use Rattle.std.proofs.Common.{◌≡◌, ◌∙◌, ℕ, zero, suc, ◌+◌, List, [], ◌∷◌, ◌++◌, length, Option, Some, None, Ok, map, refl, sym, ap, subst, arith, codes}
use Rattle.std.specs.Prelude.{option_map, slice_get}
use Rattle.std.specs.List.{enumerate_from}
use Rattle.std.proofs.lemmas.List.{length-map}
use Rattle.handler_word.specs.declared.mark.Mark.{Mark}
use Rattle.machine_step.specs.declared.end.End.{End}
use Rattle.machine_step.specs.declared.limits.Limits.{Limits}
use Rattle.machine_step.specs.declared.setup.Setup.{Setup}
use Rattle.machine_step.specs.Buffers.{spare_of}
use Rattle.machine_step.specs.PlainStep.{Passing, PlainRun, State}
use Rattle.machine_step.specs.Texts.{state_text}
use Rattle.machine_step.specs.Traced.{sleds_passed}
use Rattle.patch_script.specs.declared.command.PatchCommand.{PatchCommand}
use Rattle.patch_script.specs.Plans.{Plan, waiting_line}
use Rattle.patch_script.specs.Refusals.{commands_of}
use Rattle.step_sim.specs.declared.turns.Turns.{Turns}
use Rattle.step_sim.specs.FaultWords.{waits_words}
use Rattle.step_sim.specs.Pool.{Pooled, PooledReplay, Pooling}
use Rattle.step_sim.specs.Replay.{Cast, Replay, marks_at}
use Rattle.step_sim.specs.Replayed.{IsReplayOf, cast_of, cast_with, passed_of, pooling_with}
use Rattle.trace_flush.specs.Lines.{audit_of, audits_of}
use Rattle.traced_run.specs.Following.{AllMarksFollow, MarksFollowScript}
use Rattle.traced_run.specs.Losses.{AreLost, without_loss, without_losses}
use Rattle.traced_run.specs.Runs.{EachThread, ThreadRun}
use Rattle.xray_image.specs.Program.{IsAccepted, Program}
use Rattle.xray_io.specs.Desk.{Entry}
use Rattle.xray_program.specs.Inputs.{image_form, schedule_form, script_form}
use Rattle.xray_program.specs.OrderReplays.{stated_of}
use Rattle.xray_program.specs.OtherOptions.{LeavesAlike}
use Rattle.xray_program.specs.Outcomes.{Outcome, Done}
use Rattle.xray_program.specs.Run.{RanBeside, left_of_runs}
use Rattle.xray_program.specs.Sim.{RanReplayed, left_of_replay}
use Rattle.xray_program.specs.Doings.{Finds, Leaves, Leaving, MayLeave}
use Rattle.xray_program.specs.Taking.{IsAcceptedAs, RefuseIf, Take}
use Rattle.xray_program.specs.Traced.{IsTraced, state_texts, written_of}
use Rattle.xray_program.specs.private.CallLaws.{CallLaws}
use Rattle.xray_program.proofs.CheckYes.{taken, unrefused}
use Rattle.xray_program.proofs.Turns.{again}
use Rattle.xray_program.proofs.LawfulRuns.{marks_follow, ran_beside, ran_replayed}
use Rattle.xray_program.proofs.PlainLaws.{SomeEnd}
use Rattle.xray_program.proofs.RunExists.{SomeLosses}
use Rattle.xray_program.proofs.SimLaws.{StillRun}

-- ---- what the crates below say

-- stamps change neither the end, nor the last state, nor the sleds that are passed
abbrev pub StampsChangeNone : Type 0
StampsChangeNone = (bytes : List ℕ) (program : Program) (limits other : Limits) (thread : ℕ) (passed passed' : List Passing) (end end' : End)
    (last last' : State) → IsAccepted bytes program → limits.fuel ≡ other.fuel → limits.passings ≡ other.passings
    → PlainRun program limits thread passed end last → PlainRun program other thread passed' end' last'
    → (end ≡ end') × (last ≡ last') × (sleds_passed passed ≡ sleds_passed passed')

-- a replay with buffers leaves the marks of one without
abbrev pub BuffersChangeNone : Type 0
BuffersChangeNone = (cast : Cast) (pooling : Pooling) (schedule : List Turns) (last : Pooled) → PooledReplay cast pooling schedule last
    → Replay cast schedule (marks_at cast last.moment)

-- a schedule leaves one list of marks
abbrev pub OneReplay : Type 0
OneReplay = (cast : Cast) (schedule : List Turns) (marks others : List (List Mark)) → Replay cast schedule marks → Replay cast schedule others → marks ≡ others

-- setups whose threads go alike
pub record GoAlike (setup other : Setup) : Type 0 where
  pub threads : setup.threads ≡ other.threads
  pub fuel : setup.limits.fuel ≡ other.limits.fuel
  pub passings : setup.limits.passings ≡ other.limits.passings

-- ---- what a thread does, whatever its stamps and its losses are

abbrev Core : Type 0
Core = End × State × List ℕ

abbrev core : ThreadRun → Core
core run = (run.end, run.last, sleds_passed run.passed)

abbrev Shown : Type 0
Shown = Core × List Mark

abbrev shown : ThreadRun → Shown
shown run = (core run, run.marks)

texts_shown : (n : ℕ) (runs others : List ThreadRun) → map shown runs ≡ map shown others → state_texts n runs ≡ state_texts n others
texts_shown n [] [] same = refl
texts_shown n [] (other ∷ others) same = absurd cc
texts_shown n (run ∷ runs) [] same = absurd cc
texts_shown n (run ∷ runs) (other ∷ others) same =
    let first : shown run ≡ shown other = cc in
    let later : map shown runs ≡ map shown others = cc in
    ap (λ (s : Shown). state_text n s.0.0 s.0.1 s.1 ++ state_texts (n + 1) runs) first
    ∙ ap (λ (rest : List ℕ). state_text n other.end other.last other.marks ++ rest) (texts_shown (n + 1) runs others later)

abbrev outline : Shown → End × ℕ × List Mark
outline s = (s.0.0, length s.1, s.1)

stated_shown : (setup : Setup) (n : ℕ) (runs : List ThreadRun) → map stated_of (map (audit_of setup) (enumerate_from n runs)) ≡ map outline (map shown runs)
stated_shown setup n [] = refl
stated_shown setup n (run ∷ runs) = ap (λ (os : List (End × ℕ × List Mark)). outline (shown run) ∷ os) (stated_shown setup (n + 1) runs)

stated_alike : (setup other : Setup) (runs others : List ThreadRun) → map shown others ≡ map shown runs
    → map stated_of (audits_of other others) ≡ map stated_of (audits_of setup runs)
stated_alike setup other runs others alike = stated_shown other 1 others ∙ (ap (map outline) alike ∙ sym (stated_shown setup 1 runs))

shown_without : (runs : List ThreadRun) → map shown (without_losses runs) ≡ map shown runs
shown_without [] = refl
shown_without (run ∷ runs) = ap (λ (ss : List Shown). shown run ∷ ss) (shown_without runs)

same_length : {X : Type 0} (f : ThreadRun → X) (runs others : List ThreadRun) → map f others ≡ map f runs → length others ≡ length runs
same_length f runs others same = sym (length-map others f) ∙ (ap length same ∙ length-map runs f)

-- ---- each thread, by its number

abbrev AllFrom : (ℕ → ThreadRun → Type 0) → ℕ → List ThreadRun → Type 0
AllFrom P n [] = Unit {0}
AllFrom P n (run ∷ runs) = P n run × AllFrom P (n + 1) runs

all_from : (P : ℕ → ThreadRun → Type 0) (n : ℕ) (runs : List ThreadRun) → ((i : ℕ) (run : ThreadRun) → slice_get runs i ≡ Some run → P (n + i) run)
    → AllFrom P n runs
all_from P n [] each = tt
all_from P n (run ∷ runs) each =
    let first : n + 0 ≡ n = omega arith in (
      subst (λ (m : ℕ). P m run) first (each 0 run refl),
      all_from P (n + 1) runs (λ i r at. let next : n + suc i ≡ n + 1 + i = omega arith in subst (λ (m : ℕ). P m r) next (each (suc i) r at)),
    )

each_from : (P : ℕ → ThreadRun → Type 0) (n : ℕ) (runs : List ThreadRun) → AllFrom P n runs → (i : ℕ) (run : ThreadRun) → slice_get runs i ≡ Some run → P (n + i) run
each_from P n [] all i run at = absurd (none i at)
  where
    none : (i : ℕ) → slice_get [] i ≡ Some run → ⊥
    none zero at = cc
    none (suc i) at = cc
each_from P n (first ∷ runs) all zero run at =
    let is : first ≡ run = cc in
    let here : n ≡ n + 0 = omega arith in
    subst (λ (m : ℕ). P m run) here (subst (P n) is all.0)
each_from P n (first ∷ runs) all (suc i) run at =
    let there : n + 1 + i ≡ n + suc i = omega arith in
    subst (λ (m : ℕ). P m run) there (each_from P (n + 1) runs all.1 i run at)

-- with numbers from 1, as threads have them
of_each : (P : ℕ → ThreadRun → Type 0) (runs : List ThreadRun) → EachThread runs P → AllFrom P 1 runs
of_each P runs each = all_from P 1 runs (λ i run at. let same : i + 1 ≡ 1 + i = omega arith in subst (λ (m : ℕ). P m run) same (each i run at))

to_each : (P : ℕ → ThreadRun → Type 0) (runs : List ThreadRun) → AllFrom P 1 runs → EachThread runs P
to_each P runs all i run at = let same : 1 + i ≡ i + 1 = omega arith in subst (λ (m : ℕ). P m run) same (each_from P 1 runs all i run at)

-- what holds whatever is lost
but_losses : (P : ℕ → ThreadRun → Type 0) → ((n : ℕ) (run : ThreadRun) → P n run → P n (without_loss run)) → ((n : ℕ) (run : ThreadRun) → P n (without_loss run) → P n run)
    → (n : ℕ) (runs others : List ThreadRun) → without_losses others ≡ without_losses runs → AllFrom P n runs → AllFrom P n others
but_losses P less more n [] [] same all = tt
but_losses P less more n [] (other ∷ others) same all = absurd cc
but_losses P less more n (run ∷ runs) [] same all = absurd cc
but_losses P less more n (run ∷ runs) (other ∷ others) same all =
    let first : without_loss run ≡ without_loss other = cc in
    let later : without_losses others ≡ without_losses runs = cc in
    (more n other (subst (P n) first (less n run all.0)), but_losses P less more (n + 1) runs others later all.1)

-- ---- plain runs with other stamps

abbrev Plain : Program → Limits → ℕ → ThreadRun → Type 0
Plain program limits n run = PlainRun program limits n run.passed run.end run.last

abbrev Goes : Program → ℕ → List PatchCommand → Limits → ℕ → ThreadRun → Type 0
Goes program threads script limits n run =
    Plain program limits n run × MarksFollowScript program threads script n (sleds_passed run.passed) run.marks

cores_alike : StampsChangeNone → (bytes : List ℕ) (program : Program) (limits limits' : Limits) → IsAccepted bytes program
    → limits.fuel ≡ limits'.fuel → limits.passings ≡ limits'.passings → (n : ℕ) (runs others : List ThreadRun) → length others ≡ length runs
    → AllFrom (Plain program limits) n runs → AllFrom (Plain program limits') n others → map core runs ≡ map core others
cores_alike stamps bytes program limits limits' accepted fuel passings n [] [] count all all' = refl
cores_alike stamps bytes program limits limits' accepted fuel passings n [] (other ∷ others) count all all' = absurd (omega (arith, count))
cores_alike stamps bytes program limits limits' accepted fuel passings n (run ∷ runs) [] count all all' = absurd (omega (arith, count))
cores_alike stamps bytes program limits limits' accepted fuel passings n (run ∷ runs) (other ∷ others) count all all' =
    let same = stamps bytes program limits limits' n run.passed other.passed run.end other.end run.last other.last accepted fuel passings all.0 all'.0 in
    let first : core run ≡ core other =
    ap (λ (e : End). (e, run.last, sleds_passed run.passed)) same.0
    ∙ (ap (λ (l : State). (other.end, l, sleds_passed run.passed)) same.1 ∙ ap (λ (ss : List ℕ). (other.end, other.last, ss)) same.2) in
    ap (λ (c : Core). c ∷ map core runs) first
    ∙ ap (λ (cs : List Core). core other ∷ cs)
    (cores_alike stamps bytes program limits limits' accepted fuel passings (n + 1) runs others (omega (arith, count)) all.1 all'.1)

-- runs with other stamps
restamped : StampsChangeNone → SomeEnd → (bytes : List ℕ) (program : Program) (threads : ℕ) (script : List PatchCommand) (limits limits' : Limits)
    → IsAccepted bytes program → limits.fuel ≡ limits'.fuel → limits.passings ≡ limits'.passings → (n : ℕ) (runs : List ThreadRun)
    → AllFrom (Goes program threads script limits) n runs
    → (others : List ThreadRun) × (map shown others ≡ map shown runs) × AllFrom (Goes program threads script limits') n others
restamped stamps ends bytes program threads script limits limits' accepted fuel passings n [] all = ([], refl, tt)
restamped stamps ends bytes program threads script limits limits' accepted fuel passings n (run ∷ runs) all =
    let rest = restamped stamps ends bytes program threads script limits limits' accepted fuel passings (n + 1) runs all.1 in
    let plain = ends bytes program limits' n accepted in
    let other : ThreadRun = record { passed = plain.0; end = plain.1; last = plain.2; marks = run.marks; lost = 0 } in
    let same = stamps bytes program limits limits' n run.passed other.passed run.end other.end run.last other.last accepted fuel passings all.0.0 plain.3 in
    let first : shown run ≡ shown other =
    ap (λ (e : End). ((e, run.last, sleds_passed run.passed), run.marks)) same.0
    ∙ (ap (λ (l : State). ((other.end, l, sleds_passed run.passed), run.marks)) same.1
    ∙ ap (λ (ss : List ℕ). ((other.end, other.last, ss), run.marks)) same.2) in
    let goes : Goes program threads script limits' n other =
    (plain.3, subst (λ (ss : List ℕ). MarksFollowScript program threads script n ss run.marks) same.2 all.0.1) in (
      other ∷ rest.0,
      ap (λ (s : Shown). s ∷ map shown rest.0) (sym first) ∙ ap (λ (ss : List Shown). shown run ∷ ss) rest.1,
      (goes, rest.2),
    )

done_same : (x y : List (List ℕ × List ℕ)) (u v : List ℕ) → Done x u ≡ Done y v → (x ≡ y) × (u ≡ v)
done_same x y u v e =
    let one : x ≡ y = cc in
    let two : u ≡ v = cc in
    (one, two)

-- ---- `run`

abbrev RunAfterImage : (List ℕ → Entry) → (s t a : List ℕ) → Setup → Program → Outcome → Type 0
RunAfterImage held s t a setup program = Take (script_form program setup.threads) held s (λ plan. MayLeave (left_of_runs t a setup program plan))

pub run_alike : CallLaws → SomeEnd → StampsChangeNone → SomeLosses → (held : List ℕ → Entry) (i s t a u b : List ℕ) (setup other : Setup)
    → GoAlike setup other → (outputs : List (List ℕ × List ℕ)) (text : List ℕ) → Take image_form held i (RunAfterImage held s t a setup) (Done outputs text)
    → LeavesAlike setup other t a u b outputs text (Take image_form held i (RunAfterImage held s u b other))
run_alike laws ends stamps losses held i s t a u b setup other same outputs text comes =
    let one = taken image_form held i (RunAfterImage held s t a setup) outputs text comes in
    let program : Program = one.0 in
    let two = taken (script_form program setup.threads) held s (λ plan. MayLeave (left_of_runs t a setup program plan)) outputs text one.2 in
    let plan : Plan = two.0 in
    let script : List PatchCommand = commands_of plan.lines in
    let traced : IsTraced (RanBeside program script setup.threads setup.limits) setup t a two.2.0.0 two.2.0.1 = two.2.1 in
    let both = done_same outputs two.2.0.0 text two.2.0.1 two.2.2 in
    let bytes : List ℕ = one.1.bytes in
    let runs : List ThreadRun = traced.runs in
    let follow = marks_follow program script setup.threads setup.limits runs traced.ran in
    let go : AllFrom (Goes program setup.threads script setup.limits) 1 runs =
    of_each (Goes program setup.threads script setup.limits) runs (λ k run at. (traced.ran.plain k run at, follow k run at)) in
    let made = restamped stamps ends bytes program setup.threads script setup.limits other.limits one.1.reads same.fuel same.passings 1 runs go in
    let lost = losses other.size (spare_of other) made.0 in
    let others : List ThreadRun = lost.0 in
    let alike : map shown others ≡ map shown runs =
    sym (shown_without others) ∙ (ap (map shown) lost.1 ∙ (shown_without made.0 ∙ made.1)) in
    let all : AllFrom (Goes program setup.threads script other.limits) 1 others =
    but_losses (Goes program setup.threads script other.limits) (λ n run goes. goes) (λ n run goes. goes) 1 made.0 others lost.1 made.2 in
    let each = to_each (Goes program setup.threads script other.limits) others all in
    let count : length others ≡ other.threads = same_length shown runs others alike ∙ (traced.ran.count ∙ same.threads) in
    let marks : AllMarksFollow program other.threads script others =
    subst (λ (n : ℕ). AllMarksFollow program n script others) same.threads (λ k run at. (each k run at).1) in
    let printed : text ≡ state_texts 1 others = both.1 ∙ (traced.text_is ∙ texts_shown 1 runs others (sym alike)) in
    let left : List (List ℕ × List ℕ) = written_of u b other others in
    record {
      runs = runs;
      outputs_are = both.0 ∙ traced.outputs_are;
      text_is = both.1 ∙ traced.text_is;
      others = others;
      also = again image_form held i (RunAfterImage held s u b other) program (Done left text) one.1
          (again (script_form program other.threads) held s (λ p. MayLeave (left_of_runs u b other program p)) plan (Done left text)
          (subst (λ (n : ℕ). IsAcceptedAs (script_form program n) (held s) plan) same.threads two.1) (
            (left, text),
            record {
              runs = others;
              ran = ran_beside laws bytes program script other.threads other.limits others one.1.reads count (λ k run at. (each k run at).0) marks;
              losses = lost.2;
              outputs_are = refl;
              text_is = printed;
            },
            refl,
          ));
      stated = stated_alike setup other runs others alike;
    }

-- ---- `sim`

sleds_of_cores : (runs : List ThreadRun) → map sleds_passed (passed_of runs) ≡ map (λ (c : Core). c.2) (map core runs)
sleds_of_cores [] = refl
sleds_of_cores (run ∷ runs) = ap (λ (ss : List (List ℕ)). sleds_passed run.passed ∷ ss) (sleds_of_cores runs)

shown_by : (runs others : List ThreadRun) → map core runs ≡ map core others → map (λ (run : ThreadRun). run.marks) runs ≡ map (λ (run : ThreadRun). run.marks) others
    → map shown others ≡ map shown runs
shown_by [] [] cores marks = refl
shown_by [] (other ∷ others) cores marks = absurd cc
shown_by (run ∷ runs) [] cores marks = absurd cc
shown_by (run ∷ runs) (other ∷ others) cores marks =
    let one : core run ≡ core other = cc in
    let mark : run.marks ≡ other.marks = cc in
    let later : map core runs ≡ map core others = cc in
    let later_marks : map (λ (r : ThreadRun). r.marks) runs ≡ map (λ (r : ThreadRun). r.marks) others = cc in
    let first : shown other ≡ shown run =
    ap (λ (c : Core). (c, other.marks)) (sym one) ∙ ap (λ (ms : List Mark). (core run, ms)) (sym mark) in
    ap (λ (s : Shown). s ∷ map shown others) first
    ∙ ap (λ (ss : List Shown). shown run ∷ ss) (shown_by runs others later later_marks)

replays_alike : StampsChangeNone → BuffersChangeNone → OneReplay → (bytes : List ℕ) (program : Program) (script : List PatchCommand) (turns : List Turns)
    (setup other : Setup) → GoAlike setup other → (runs others : List ThreadRun) → IsAccepted bytes program
    → IsReplayOf program script turns setup runs → IsReplayOf program script turns other others → map shown others ≡ map shown runs
replays_alike stamps buffers one bytes program script turns setup other same runs others accepted replay replay' =
    let marks_in : ThreadRun → List Mark = λ run. run.marks in
    let count : length others ≡ length runs = replay'.run.count ∙ (sym same.threads ∙ sym replay.run.count) in
    let cores = cores_alike stamps bytes program setup.limits other.limits accepted same.fuel same.passings 1 runs others count
    (of_each (Plain program setup.limits) runs replay.run.plain) (of_each (Plain program other.limits) others replay'.run.plain) in
    let sleds : map sleds_passed (passed_of runs) ≡ map sleds_passed (passed_of others) =
    sleds_of_cores runs ∙ (ap (map (λ (c : Core). c.2)) cores ∙ sym (sleds_of_cores others)) in
    let casts : cast_with program script runs ≡ cast_with program script others = ap (λ (ss : List (List ℕ)). cast_of program script ss) sleds in
    let mine : Replay (cast_with program script runs) turns (map marks_in runs) =
    subst (λ (ms : List (List Mark)). Replay (cast_with program script runs) turns ms) (sym replay.marks)
    (buffers (cast_with program script runs) (pooling_with program script setup runs) turns replay.last replay.replay) in
    let theirs : Replay (cast_with program script others) turns (map marks_in others) =
    subst (λ (ms : List (List Mark)). Replay (cast_with program script others) turns ms) (sym replay'.marks)
    (buffers (cast_with program script others) (pooling_with program script other others) turns replay'.last replay'.replay) in
    shown_by runs others cores
    (one (cast_with program script runs) turns (map marks_in runs) (map marks_in others) mine
    (subst (λ (c : Cast). Replay c turns (map marks_in others)) (sym casts) theirs))

-- what is left of a replay that isn't refused
abbrev left_replayed : (trace audit : List ℕ) → Setup → Program → Plan → List Turns → Leaving
left_replayed trace audit setup program plan turns =
    Finds (λ (written : List (List ℕ × List ℕ) × List ℕ). IsTraced (RanReplayed program plan turns setup) setup trace audit written.0 written.1)
    (λ (outputs, text). Leaves (Done outputs text))

abbrev SimAfterScript : (List ℕ → Entry) → (s c t a : List ℕ) → Setup → Program → Plan → Outcome → Type 0
SimAfterScript held s c t a setup program plan = Take (schedule_form setup.threads) held c (λ turns. MayLeave (left_of_replay s t a setup program plan turns))

abbrev SimAfterImage : (List ℕ → Entry) → (s c t a : List ℕ) → Setup → Program → Outcome → Type 0
SimAfterImage held s c t a setup program = Take (script_form program setup.threads) held s (λ plan. SimAfterScript held s c t a setup program plan)

pub sim_alike : CallLaws → StillRun → StampsChangeNone → BuffersChangeNone → OneReplay → (held : List ℕ → Entry) (i s c t a u b : List ℕ) (setup other : Setup)
    → GoAlike setup other → (outputs : List (List ℕ × List ℕ)) (text : List ℕ) → Take image_form held i (SimAfterImage held s c t a setup) (Done outputs text)
    → LeavesAlike setup other t a u b outputs text (Take image_form held i (SimAfterImage held s c u b other))
sim_alike laws some stamps buffers one_replay held i s c t a u b setup other same outputs text comes =
    let one = taken image_form held i (SimAfterImage held s c t a setup) outputs text comes in
    let program : Program = one.0 in
    let two = taken (script_form program setup.threads) held s (λ plan. SimAfterScript held s c t a setup program plan) outputs text one.2 in
    let plan : Plan = two.0 in
    let script : List PatchCommand = commands_of plan.lines in
    let three = taken (schedule_form setup.threads) held c (λ turns. MayLeave (left_of_replay s t a setup program plan turns)) outputs text two.2 in
    let turns : List Turns = three.0 in
    let unrefused_ = unrefused (waiting_line plan.lines) s (codes "script") (MayLeave (left_replayed t a setup program plan turns)) outputs text three.2 in
    let left_ = unrefused_.1 in
    let traced : IsTraced (RanReplayed program plan turns setup) setup t a left_.0.0 left_.0.1 = left_.1 in
    let both = done_same outputs left_.0.0 text left_.0.1 left_.2 in
    let bytes : List ℕ = one.1.bytes in
    let runs : List ThreadRun = traced.runs in
    let made = some bytes program script turns other plan.lines one.1.reads refl unrefused_.0 in
    let others : List ThreadRun = made.0 in
    let alike = replays_alike stamps buffers one_replay bytes program script turns setup other same runs others one.1.reads traced.ran.lawful.replay made.1 in
    let schedule : IsAcceptedAs (schedule_form other.threads) (held c) turns =
    subst (λ (n : ℕ). IsAcceptedAs (schedule_form n) (held c) turns) same.threads three.1 in
    let printed : text ≡ state_texts 1 others = both.1 ∙ (traced.text_is ∙ texts_shown 1 runs others (sym alike)) in
    let left : List (List ℕ × List ℕ) = written_of u b other others in
    let leaves : MayLeave (left_replayed u b other program plan turns) (Done left text) = (
      (left, text),
      record {
        runs = others;
        ran = ran_replayed laws bytes program plan schedule.bytes turns other others one.1.reads schedule.reads made.1;
        losses = laws.loses program script schedule.bytes turns other others schedule.reads made.1;
        outputs_are = refl;
        text_is = printed;
      },
      refl,
    ) in
    record {
      runs = runs;
      outputs_are = both.0 ∙ traced.outputs_are;
      text_is = both.1 ∙ traced.text_is;
      others = others;
      also = again image_form held i (SimAfterImage held s c u b other) program (Done left text) one.1
          (again (script_form program other.threads) held s (λ p. SimAfterScript held s c u b other program p) plan (Done left text)
          (subst (λ (n : ℕ). IsAcceptedAs (script_form program n) (held s) plan) same.threads two.1)
          (again (schedule_form other.threads) held c (λ ts. MayLeave (left_of_replay s u b other program plan ts)) turns (Done left text) schedule
          (subst (λ (o : Option ℕ). RefuseIf (option_map waits_words o) s (codes "script") (MayLeave (left_replayed u b other program plan turns)) (Done left text))
          (sym unrefused_.0) leaves)));
      stated = stated_alike setup other runs others alike;
    }
