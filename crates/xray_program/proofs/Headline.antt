-- The headline of `sim`, `run` and `profile`, from what they mean.
use Rattle.std.proofs.Common.{◌≡◌, ◌∙◌, ℕ, List, Option, Some, None, option_map, inl, inr, sym, ap, subst, codes}
use Rattle.machine_step.specs.declared.setup.Setup.{Setup}
use Rattle.command_words.specs.declared.profile_options.ProfileOptions.{ProfileOptions}
use Rattle.patch_script.specs.declared.command.PatchCommand.{PatchCommand}
use Rattle.patch_script.specs.Plans.{Plan, waiting_line}
use Rattle.patch_script.specs.Refusals.{commands_of}
use Rattle.step_sim.specs.FaultWords.{waits_words}
use Rattle.step_sim.specs.Replayed.{cast_with, pooling_with}
use Rattle.step_sim.specs.declared.turns.Turns.{Turns}
use Rattle.traced_run.specs.Runs.{ThreadRun}
use Rattle.xray_image.specs.Program.{Program, IsAccepted}
use Rattle.xray_io.specs.Desk.{Entry, Holds}
use Rattle.xray_program.specs.Answers.{MakesSetup}
use Rattle.xray_program.specs.Commands.{Means, doing_of}
use Rattle.xray_program.specs.Doings.{Comes, MayLeave}
use Rattle.xray_program.specs.Headline.{IsHeadline, ProfileIsTraced, RanBySchedule, RunIsTraced, SimIsTraced}
use Rattle.xray_program.specs.Inputs.{image_form, script_form, schedule_form}
use Rattle.xray_program.specs.Outcomes.{Done, Outcome, written_by}
use Rattle.xray_program.specs.Profile.{AreProfiled, profile_of}
use Rattle.xray_program.specs.Run.{RanBeside, left_of_runs}
use Rattle.xray_program.specs.Sim.{RanReplayed, left_of_replay}
use Rattle.xray_program.specs.Setups.{setup_of}
use Rattle.xray_program.specs.Spoken.{commands_said, turns_given}
use Rattle.xray_program.specs.Taking.{Form, RefuseIf, Take}
use Rattle.xray_program.specs.Traced.{IsTraced}
use Rattle.command_words.specs.Words.{Command, Profile, Run, Sim}
use Rattle.command_words.specs.declared.run_options.RunOptions.{RunOptions}
use Rattle.xray_program.specs.private.CallLaws.{MovesAlike}
use Rattle.xray_program.specs.private.Works.{SaidHasRanges}
use Rattle.xray_program.proofs.SimLaws.{AfterReplayScript}
use Rattle.xray_program.proofs.RunSetups.{options_make_a_setup}
use Rattle.xray_program.proofs.SpokenLines.{schedule_gives, script_says}

-- something is written
abbrev Writes : Outcome → Type 0
Writes outcome = (outputs : List (List ℕ × List ℕ)) × (text : List ℕ) × (written_by outcome ≡ Some (outputs, text))

-- if something is written, an input that is held reads as a value, and the rest is done with it
record Read {X : Type 0} (Reads : List ℕ → X → Type 0) (bytes : List ℕ) (Next : X → Type 0) : Type 0 where
  value : X
  reads : Reads bytes value
  next : Next value

read_on : {X : Type 0} (form : Form X) (held : List ℕ → Entry) (name : List ℕ) (next : X → Outcome → Type 0)
    (outcome : Outcome) (content : List ℕ) → Writes outcome → held name ≡ Holds content
    → Take form held name next outcome → Read form.Reads content (λ value. next value outcome)
read_on form held name next outcome content writes holds (inl (failed, is)) = absurd (let never = rw is at writes.2 in cc)
read_on form held name next outcome content writes holds (inr (bytes, may, inl (long, is))) = absurd (let never = rw is at writes.2 in cc)
read_on form held name next outcome content writes holds (inr (bytes, may, inr (within, inl (refusal, refuses, is)))) =
    absurd (let never = rw is at writes.2 in cc)
read_on form held name next outcome content writes holds (inr (bytes, may, inr (within, inr (value, reads, comes)))) =
    let same : bytes ≡ content = rw holds at may in
    record { value = value; reads = subst (λ b. form.Reads b value) same reads; next = comes }

-- so there was no reason to refuse
unrefused : (line : Option ℕ) (name kind : List ℕ) (next : Outcome → Type 0) (outcome : Outcome) → Writes outcome
    → RefuseIf (option_map waits_words line) name kind next outcome → next outcome
unrefused None name kind next outcome writes comes = comes
unrefused (Some n) name kind next outcome writes is = absurd (let never = rw is at writes.2 in cc)

-- what is left is what is written
left_alike : (Are : List (List ℕ × List ℕ) → List ℕ → Type 0) (outcome : Outcome) (writes : Writes outcome)
    → (written : List (List ℕ × List ℕ) × List ℕ) × Are written.0 written.1 × (outcome ≡ Done written.0 written.1) → Are writes.0 writes.1
left_alike Are outcome (outputs, text, writes) ((o, t), are, is) =
    let both = same_pair (o, t) (outputs, text) (ap written_by (sym is) ∙ writes) in
    let same_o = ap (λ (p : List (List ℕ × List ℕ) × List ℕ). p.0) both in
    let same_t = ap (λ (p : List (List ℕ × List ℕ) × List ℕ). p.1) both in
    subst (λ x. Are outputs x) same_t (subst (λ x. Are x t) same_o are)
  where
    same_pair : (p q : List (List ℕ × List ℕ) × List ℕ) → ◌≡◌ {A = Option (List (List ℕ × List ℕ) × List ℕ)} (Some p) (Some q) → p ≡ q
    same_pair p q e = cc

-- what is left of runs is left of them if they have also run in another way
traced_as : (Ran Also : List ThreadRun → Type 0) (setup : Setup) (trace audit : List ℕ) (outputs : List (List ℕ × List ℕ)) (text : List ℕ)
    → ((runs : List ThreadRun) → Ran runs → Also runs) → IsTraced Ran setup trace audit outputs text → IsTraced Also setup trace audit outputs text
traced_as Ran Also setup trace audit outputs text also is =
    record { runs = is.runs; ran = also is.runs is.ran; losses = is.losses; outputs_are = is.outputs_are; text_is = is.text_is }

-- ---- `sim`

by_schedule : MovesAlike → (program : Program) (plan : Plan) (turns : List Turns) (setup : Setup) (script schedule : List ℕ)
    → commands_of plan.lines ≡ commands_said script → turns ≡ turns_given schedule → (runs : List ThreadRun)
    → RanReplayed program plan turns setup runs → RanBySchedule (turns_given schedule) program (commands_said script) setup runs
by_schedule moves program plan turns setup script schedule said given runs ran =
    let commands = commands_of plan.lines in
    let replay = ran.lawful.replay in
    let own : RanBySchedule turns program commands setup runs = record {
      count = ran.count;
      plain = ran.plain;
      loads = ran.loads;
      lawful = record {
        last = replay.last.moment;
        played = moves (cast_with program commands runs) (pooling_with program commands setup runs) turns replay.last replay.replay;
        loads_are = ran.lawful.loads_are;
      };
      whole = ran.whole;
      executes = ran.executes;
    } in
    subst (λ (cs : List PatchCommand). RanBySchedule (turns_given schedule) program cs setup runs) said
    (subst (λ (ts : List Turns). RanBySchedule ts program commands setup runs) given own)

simulated_by : MovesAlike → (held : List ℕ → Entry) (i s c t a image script schedule : List ℕ) (options : RunOptions) (outcome : Outcome)
    (writes : Writes outcome) → held i ≡ Holds image → held s ≡ Holds script → held c ≡ Holds schedule
    → Comes (doing_of (Sim i s c t a options)) held outcome
    → (program : Program) × IsAccepted image program
    × IsTraced (RanBySchedule (turns_given schedule) program (commands_said script) (setup_of options)) (setup_of options) t a writes.0 writes.1
simulated_by moves held i s c t a image script schedule options outcome writes image_held script_held schedule_held comes =
    let setup : Setup = setup_of options in
    let first = read_on image_form held i (λ p. Take (script_form p setup.threads) held s (AfterReplayScript held s c t a setup p)) outcome image writes image_held
    comes in
    let program : Program = first.value in
    let second = read_on (script_form program setup.threads) held s (AfterReplayScript held s c t a setup program) outcome script writes script_held first.next in
    let plan : Plan = second.value in
    let third = read_on (schedule_form setup.threads) held c (λ turns. MayLeave (left_of_replay s t a setup program plan turns)) outcome schedule writes
    schedule_held second.next in
    let turns : List Turns = third.value in
    let Are = IsTraced (RanReplayed program plan turns setup) setup t a in
    let traced = left_alike Are outcome writes (unrefused (waiting_line plan.lines) s (codes "script") _ outcome writes third.next) in (
      program,
      first.reads,
      traced_as (RanReplayed program plan turns setup) (RanBySchedule (turns_given schedule) program (commands_said script) setup) setup t a writes.0 writes.1
          (by_schedule moves program plan turns setup script schedule (script_says program setup.threads script plan second.reads)
          (schedule_gives setup.threads schedule turns third.reads))
          traced,
    )

sim_is_traced : MovesAlike → (said : Option Command) (held : List ℕ → Entry) (outcome : Outcome) (writes : Writes outcome)
    → Means said held outcome → SimIsTraced said held writes.0 writes.1
sim_is_traced moves said held outcome writes meant i s c t a image script schedule options says image_held script_held schedule_held =
    simulated_by moves held i s c t a image script schedule options outcome writes image_held script_held schedule_held (rw says at meant)

-- ---- `run`

beside_by : (held : List ℕ → Entry) (i s t a image script : List ℕ) (options : RunOptions) (outcome : Outcome) (writes : Writes outcome)
    → held i ≡ Holds image → held s ≡ Holds script → Comes (doing_of (Run i s t a options)) held outcome
    → (program : Program) × IsAccepted image program
    × IsTraced (RanBeside program (commands_said script) (setup_of options).threads (setup_of options).limits) (setup_of options) t a writes.0 writes.1
beside_by held i s t a image script options outcome writes image_held script_held comes =
    let setup : Setup = setup_of options in
    let first = read_on image_form held i (λ p. Take (script_form p setup.threads) held s (λ plan. MayLeave (left_of_runs t a setup p plan))) outcome image writes
    image_held comes in
    let program : Program = first.value in
    let second = read_on (script_form program setup.threads) held s (λ plan. MayLeave (left_of_runs t a setup program plan)) outcome script writes script_held
    first.next in
    let plan : Plan = second.value in
    let Ran : List PatchCommand → List ThreadRun → Type 0 = λ cs. RanBeside program cs setup.threads setup.limits in (
      program,
      first.reads,
      subst (λ (cs : List PatchCommand). IsTraced (Ran cs) setup t a writes.0 writes.1) (script_says program setup.threads script plan second.reads)
          (left_alike (IsTraced (Ran (commands_of plan.lines)) setup t a) outcome writes second.next),
    )

run_is_traced : (said : Option Command) (held : List ℕ → Entry) (outcome : Outcome) (writes : Writes outcome)
    → Means said held outcome → RunIsTraced said held writes.0 writes.1
run_is_traced said held outcome writes meant i s t a image script options says image_held script_held =
    beside_by held i s t a image script options outcome writes image_held script_held (rw says at meant)

-- ---- `profile`

profiled_by : (held : List ℕ → Entry) (i s image script : List ℕ) (options : ProfileOptions) (outcome : Outcome) → Writes outcome
    → held i ≡ Holds image → held s ≡ Holds script → Comes (doing_of (Profile i s options)) held outcome
    → (program : Program) × IsAccepted image program
    × (runs : List ThreadRun) × AreProfiled options program (commands_said script) runs × (outcome ≡ profile_of options program runs)
profiled_by held i s image script options outcome writes image_held script_held comes =
    let threads : ℕ = options.bounds.threads in
    let first = read_on image_form held i (λ p. Take (script_form p threads) held s (λ plan. MayLeave ((doing_of (Profile i s options)).leaves (p, plan)))) outcome
    image writes image_held comes in
    let program : Program = first.value in
    let second = read_on (script_form program threads) held s (λ plan. MayLeave ((doing_of (Profile i s options)).leaves (program, plan))) outcome script writes
    script_held first.next in
    let plan : Plan = second.value in
    let runs : List ThreadRun = second.next.0 in (
      program,
      first.reads,
      runs,
      subst (λ (cs : List PatchCommand). AreProfiled options program cs runs) (script_says program threads script plan second.reads) second.next.1,
      second.next.2,
    )

profile_is_traced : (said : Option Command) (held : List ℕ → Entry) (outcome : Outcome) → Writes outcome → Means said held outcome
    → ProfileIsTraced said held outcome
profile_is_traced said held outcome writes meant i s image script options says image_held script_held =
    profiled_by held i s image script options outcome writes image_held script_held (rw says at meant)

-- ---- all three

pub is_headline : MovesAlike → (said : Option Command) (held : List ℕ → Entry) (outcome : Outcome) (outputs : List (List ℕ × List ℕ)) (text : List ℕ)
    → written_by outcome ≡ Some (outputs, text) → Means said held outcome → IsHeadline said held outcome outputs text
is_headline moves said held outcome outputs text writes meant =
    let of : Writes outcome = (outputs, text, writes) in
    (sim_is_traced moves said held outcome of meant, run_is_traced said held outcome of meant, profile_is_traced said held outcome of meant)

-- ---- their options

pub makes_setup : (said : Option Command) → SaidHasRanges said → MakesSetup said
makes_setup said ranges i s c t a options (inl says) = options_make_a_setup options (subst SaidHasRanges says ranges).0
makes_setup said ranges i s c t a options (inr says) = options_make_a_setup options (subst SaidHasRanges says ranges).0
