-- The headline: what is done by `sim`, `run` and `profile`, said of the bytes of their inputs. It is a law, and follows from
-- what these commands mean.
use Rattle.std.specs.Prelude.{◌≡◌, ℕ, List, Option, Some}
use Rattle.command_words.specs.Words.{Command, Profile, Run, Sim}
use Rattle.command_words.specs.declared.profile_options.ProfileOptions.{ProfileOptions}
use Rattle.command_words.specs.declared.run_options.RunOptions.{RunOptions}
use Rattle.machine_step.specs.Loads.{Load}
use Rattle.machine_step.specs.declared.setup.Setup.{Setup}
use Rattle.patch_script.specs.declared.command.PatchCommand.{PatchCommand}
use Rattle.step_sim.specs.declared.turns.Turns.{Turns}
use Rattle.step_sim.specs.Plays.{Plays}
use Rattle.step_sim.specs.Replay.{Cast, Moment, first_moment, moment_rules, of_thread, thread_count}
use Rattle.step_sim.specs.Replayed.{cast_with}
use Rattle.traced_run.specs.Runs.{ThreadRun}
use Rattle.xray_image.specs.Program.{IsAccepted, Program}
use Rattle.xray_io.specs.Desk.{Entry, Holds}
use Rattle.xray_program.specs.Commands.{Means}
use Rattle.xray_program.specs.Outcomes.{Outcome, written_by}
use Rattle.xray_program.specs.Profile.{AreProfiled, profile_of}
use Rattle.xray_program.specs.Run.{RanBeside}
use Rattle.xray_program.specs.Setups.{setup_of}
use Rattle.xray_program.specs.Spoken.{commands_said, turns_given}
use Rattle.xray_program.specs.Traced.{IsTraced, RanLawfully}

-- The turns of a schedule bring its threads and its script from the start to a moment at which each thread has ended.
abbrev pub ComesTo : Cast → List Turns → Moment → Type 0
ComesTo cast schedule last = Plays (moment_rules cast) (thread_count cast) (first_moment cast) schedule last

-- The turns of a schedule are played, without buffers, and the loads of each thread are those that it has made at the end.
pub record FollowsSchedule (turns : List Turns) (program : Program) (script : List PatchCommand) (runs : List ThreadRun) (loads : ℕ → List Load)
    : Type 0 where
  pub last : Moment
  pub played : ComesTo (cast_with program script runs) turns last
  pub loads_are : (number : ℕ) → loads number ≡ of_thread last.loads number

-- the threads of a setup have run so
abbrev pub RanBySchedule : List Turns → Program → List PatchCommand → Setup → List ThreadRun → Type 0
RanBySchedule turns program script setup =
    RanLawfully (FollowsSchedule turns program script) program script setup.threads setup.limits

-- if `sim` was said, with inputs that the desk held, then what is written is left of runs by the schedule
abbrev pub SimIsTraced : Option Command → (held : List ℕ → Entry) → (outputs : List (List ℕ × List ℕ)) → (text : List ℕ) → Type 0
SimIsTraced said held outputs text =
    (i s c t a image script schedule : List ℕ) (options : RunOptions) → said ≡ Some (Sim i s c t a options)
    → held i ≡ Holds image → held s ≡ Holds script → held c ≡ Holds schedule
    → (program : Program) × IsAccepted image program
    × IsTraced (RanBySchedule (turns_given schedule) program (commands_said script) (setup_of options)) (setup_of options) t a outputs text

-- if `run` was said, with inputs that the desk held, then what is written is left of threads that ran beside the script
abbrev pub RunIsTraced : Option Command → (held : List ℕ → Entry) → (outputs : List (List ℕ × List ℕ)) → (text : List ℕ) → Type 0
RunIsTraced said held outputs text =
    (i s t a image script : List ℕ) (options : RunOptions) → said ≡ Some (Run i s t a options)
    → held i ≡ Holds image → held s ≡ Holds script
    → (program : Program) × IsAccepted image program
    × IsTraced (RanBeside program (commands_said script) (setup_of options).threads (setup_of options).limits) (setup_of options) t a outputs text

-- if `profile` was said, with inputs that the desk held, then what is printed is of threads that ran beside the script
abbrev pub ProfileIsTraced : Option Command → (held : List ℕ → Entry) → Outcome → Type 0
ProfileIsTraced said held outcome =
    (i s image script : List ℕ) (options : ProfileOptions) → said ≡ Some (Profile i s options)
    → held i ≡ Holds image → held s ≡ Holds script
    → (program : Program) × IsAccepted image program
    × (runs : List ThreadRun) × AreProfiled options program (commands_said script) runs × (outcome ≡ profile_of options program runs)

-- The headline: all of this, of an outcome that writes these outputs and this text.
abbrev pub IsHeadline : Option Command → (held : List ℕ → Entry) → Outcome → (outputs : List (List ℕ × List ℕ)) → (text : List ℕ) → Type 0
IsHeadline said held outcome outputs text = SimIsTraced said held outputs text × RunIsTraced said held outputs text × ProfileIsTraced said held outcome

-- what is meant and written has it
abbrev pub HaveHeadline : Type 0
HaveHeadline = (said : Option Command) (held : List ℕ → Entry) (outcome : Outcome) (outputs : List (List ℕ × List ℕ)) (text : List ℕ)
    → written_by outcome ≡ Some (outputs, text) → Means said held outcome → IsHeadline said held outcome outputs text
