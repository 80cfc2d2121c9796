-- `sim`: the replay of a schedule over an image and a script.
use Rattle.std.specs.Prelude.{◌≡◌, ℕ, List, codes, option_map}
use Rattle.xray_image.specs.Program.{Program}
use Rattle.patch_script.specs.Plans.{Plan, waiting_line}
use Rattle.patch_script.specs.Refusals.{commands_of}
use Rattle.machine_step.specs.declared.setup.Setup.{Setup}
use Rattle.machine_step.specs.Loads.{Load}
use Rattle.step_sim.specs.declared.turns.Turns.{Turns}
use Rattle.step_sim.specs.FaultWords.{waits_words}
use Rattle.step_sim.specs.Replay.{of_thread}
use Rattle.step_sim.specs.Replayed.{IsReplayOf}
use Rattle.traced_run.specs.Runs.{ThreadRun}
use Rattle.xray_program.specs.Doings.{Finds, Leaves, Leaving, RefusesIf}
use Rattle.xray_program.specs.Outcomes.{Done}
use Rattle.xray_program.specs.Traced.{IsTraced, RanLawfully}

-- runs are lawful if a replay of these turns leaves them
abbrev pub Replayed : Program → Plan → List Turns → Setup → List ThreadRun → Type 0
Replayed program plan turns setup = IsReplayOf program (commands_of plan.lines) turns setup

-- The law of `sim`. A replay of the turns leaves the runs, and the loads of each thread are those that it has made at the
-- end of this replay.
pub record LoadsAreReplayed (program : Program) (plan : Plan) (turns : List Turns) (setup : Setup) (runs : List ThreadRun) (loads : ℕ → List Load)
    : Type 0 where
  pub replay : Replayed program plan turns setup runs
  pub loads_are : (number : ℕ) → loads number ≡ of_thread replay.last.moment.loads number

-- the threads of a setup have run by this law
abbrev pub RanReplayed : Program → Plan → List Turns → Setup → List ThreadRun → Type 0
RanReplayed program plan turns setup =
    RanLawfully (LoadsAreReplayed program plan turns setup) program (commands_of plan.lines) setup.threads setup.limits

-- What is left of the judged inputs. If a thread or the patcher may wait in the script, it is refused for the first such
-- line. Otherwise the turns are replayed, and what is left of their runs is written.
abbrev pub left_of_replay : (script trace audit : List ℕ) → Setup → Program → Plan → List Turns → Leaving
left_of_replay script trace audit setup program plan turns =
    RefusesIf (option_map waits_words (waiting_line plan.lines)) script (codes "script")
    (Finds (λ (written : List (List ℕ × List ℕ) × List ℕ). IsTraced (RanReplayed program plan turns setup) setup trace audit written.0 written.1)
    (λ (outputs, text). Leaves (Done outputs text)))
