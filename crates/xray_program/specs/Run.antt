-- `run`: threads that run over an image while a script patches their sleds.
use Rattle.std.specs.Prelude.{◌≡◌, ◌≢◌, ℕ, List, All}
use Rattle.xray_image.specs.Program.{Program}
use Rattle.sled_words.specs.Words.{release_word}
use Rattle.patch_script.specs.Micros.{total_of}
use Rattle.patch_script.specs.declared.command.PatchCommand.{PatchCommand}
use Rattle.patch_script.specs.Plans.{Plan}
use Rattle.patch_script.specs.Refusals.{commands_of}
use Rattle.machine_step.specs.declared.limits.Limits.{Limits}
use Rattle.machine_step.specs.declared.setup.Setup.{Setup}
use Rattle.machine_step.specs.Loads.{Load}
use Rattle.machine_step.specs.Traced.{sleds_passed}
use Rattle.traced_run.specs.Following.{LoadsFollow}
use Rattle.traced_run.specs.Runs.{EachThread, ThreadRun}
use Rattle.xray_program.specs.Doings.{Chooses, Leaves, Leaving}
use Rattle.xray_program.specs.Outcomes.{Done}
use Rattle.xray_program.specs.Traced.{IsTraced, RanLawfully}

-- The law of threads that run beside a script. The loads of each thread follow the script to its end, and none of them is
-- of a release word that still held the thread.
pub record LoadsFollowPlan (program : Program) (threads : ℕ) (script : List PatchCommand) (runs : List ThreadRun) (loads : ℕ → List Load) : Type 0 where
  pub follow : EachThread runs (λ number run.
      LoadsFollow program threads script number (sleds_passed run.passed) (loads number) (total_of program threads script))
  pub released : EachThread runs (λ number run. All (λ load. load.word ≡ release_word program number → load.value ≢ 0) (loads number))

-- so many threads with these limits have run by this law
abbrev pub RanBeside : Program → List PatchCommand → (threads : ℕ) → Limits → List ThreadRun → Type 0
RanBeside program script threads limits = RanLawfully (LoadsFollowPlan program threads script) program script threads limits

-- What is left of the judged inputs: what is left of some runs of these threads. Whose segments are lost isn't fixed.
abbrev pub left_of_runs : (trace audit : List ℕ) → Setup → Program → Plan → Leaving
left_of_runs trace audit setup program plan =
    Chooses (λ (written : List (List ℕ × List ℕ) × List ℕ).
    IsTraced (RanBeside program (commands_of plan.lines) setup.threads setup.limits) setup trace audit written.0 written.1)
    (λ (outputs, text). Leaves (Done outputs text))
