-- `sim`: what a replay leaves is there, and is only one thing.
use Rattle.std.proofs.Common.{◌≡◌, ◌∙◌, ℕ, List, Option, Some, None, Ok, option_map, refl, sym, ap}
use Rattle.machine_step.specs.declared.setup.Setup.{Setup}
use Rattle.patch_script.specs.declared.command.PatchCommand.{PatchCommand}
use Rattle.patch_script.specs.Plans.{Plan, waiting_line}
use Rattle.patch_script.specs.Refusals.{Lines, commands_of}
use Rattle.step_sim.specs.declared.turns.Turns.{Turns}
use Rattle.step_sim.specs.FaultWords.{waits_words}
use Rattle.step_sim.specs.Replayed.{IsReplayOf}
use Rattle.step_sim.specs.Schedules.{schedule_of}
use Rattle.traced_run.specs.Runs.{ThreadRun}
use Rattle.xray_image.specs.Program.{Program, IsAccepted}
use Rattle.xray_io.specs.Desk.{Entry}
use Rattle.xray_program.specs.Doings.{MayLeave}
use Rattle.xray_program.specs.Inputs.{schedule_form}
use Rattle.xray_program.specs.Outcomes.{Outcome}
use Rattle.xray_program.specs.Sim.{RanReplayed, left_of_replay}
use Rattle.xray_program.specs.Taking.{Take}
use Rattle.xray_program.specs.Traced.{IsTraced, state_texts, written_of}
use Rattle.xray_program.specs.private.CallLaws.{CallLaws}
use Rattle.xray_program.proofs.LawfulRuns.{ran_replayed}

-- what replays say: a schedule leaves only one list of runs, and it leaves runs if nothing waits
abbrev pub OneRun : Type 0
OneRun = (bytes : List ℕ) (program : Program) (script : List PatchCommand) (schedule : List Turns) (setup : Setup) (runs others : List ThreadRun)
    → IsAccepted bytes program → IsReplayOf program script schedule setup runs → IsReplayOf program script schedule setup others → runs ≡ others

abbrev pub StillRun : Type 0
StillRun = (bytes : List ℕ) (program : Program) (script : List PatchCommand) (schedule : List Turns) (setup : Setup) (lines : Lines)
    → IsAccepted bytes program → script ≡ commands_of lines → waiting_line lines ≡ None
    → (runs : List ThreadRun) × IsReplayOf program script schedule setup runs

-- outputs and a text
abbrev pub Written : Type 0
Written = List (List ℕ × List ℕ) × List ℕ

pub one_replayed : OneRun → (bytes : List ℕ) (program : Program) (plan : Plan) (turns : List Turns) (setup : Setup) (trace audit : List ℕ) (one other : Written)
    → IsAccepted bytes program → IsTraced (RanReplayed program plan turns setup) setup trace audit one.0 one.1
    → IsTraced (RanReplayed program plan turns setup) setup trace audit other.0 other.1 → one ≡ other
one_replayed law bytes program plan turns setup trace audit (o, t) (p, u) accepted x y =
    let same = law bytes program (commands_of plan.lines) turns setup x.runs y.runs accepted x.ran.lawful.replay y.ran.lawful.replay in
    let outputs : o ≡ p = x.outputs_are ∙ ap (written_of trace audit setup) same ∙ sym y.outputs_are in
    let texts : t ≡ u = x.text_is ∙ ap (state_texts 1) same ∙ sym y.text_is in
    rw (outputs, texts) refl

-- what comes of the script of a replay
abbrev pub AfterReplayScript : (held : List ℕ → Entry) (s c t a : List ℕ) → Setup → Program → Plan → Outcome → Type 0
AfterReplayScript held s c t a setup program plan =
    Take (schedule_form setup.threads) held c (λ turns. MayLeave (left_of_replay s t a setup program plan turns))

-- if there was no reason, nothing waits
nobody : (line : Option ℕ) → option_map waits_words line ≡ None → line ≡ None
nobody None e = refl
nobody (Some line) e = absurd (none e)
  where
    none : Some (waits_words line) ≡ None → ⊥
    none e = cc

pub some_replayed : CallLaws → StillRun → (bytes text : List ℕ) (program : Program) (plan : Plan) (turns : List Turns) (setup : Setup) (trace audit : List ℕ)
    → IsAccepted bytes program → schedule_of setup.threads text ≡ Ok turns → option_map waits_words (waiting_line plan.lines) ≡ None
    → (written : Written) × IsTraced (RanReplayed program plan turns setup) setup trace audit written.0 written.1
some_replayed laws some bytes text program plan turns setup trace audit accepted reads none =
    let runs = some bytes program (commands_of plan.lines) turns setup plan.lines accepted refl (nobody (waiting_line plan.lines) none) in (
      (written_of trace audit setup runs.0, state_texts 1 runs.0),
      record {
        runs = runs.0;
        ran = ran_replayed laws bytes program plan text turns setup runs.0 accepted reads runs.1;
        losses = laws.loses program (commands_of plan.lines) text turns setup runs.0 reads runs.1;
        outputs_are = refl;
        text_is = refl;
      },
    )
