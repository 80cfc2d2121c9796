-- Threads that have run lawfully: those of a replay, and those whose marks follow a script.
use Rattle.std.proofs.Common.{◌≡◌, ◌+◌, ◌∙◌, ℕ, List, Ok, length, refl, sym}
use Rattle.std.proofs.lemmas.List.{length-map}
use Rattle.machine_step.specs.Loads.{Load}
use Rattle.machine_step.specs.declared.limits.Limits.{Limits}
use Rattle.machine_step.specs.declared.setup.Setup.{Setup}
use Rattle.machine_step.specs.PlainStep.{Passing, PlainRun}
use Rattle.patch_script.specs.Micros.{hold_of}
use Rattle.patch_script.specs.declared.command.PatchCommand.{PatchCommand}
use Rattle.patch_script.specs.Plans.{Plan}
use Rattle.patch_script.specs.Refusals.{commands_of}
use Rattle.step_sim.specs.Replay.{of_thread}
use Rattle.step_sim.specs.Schedules.{schedule_of}
use Rattle.step_sim.specs.declared.turns.Turns.{Turns}
use Rattle.traced_run.specs.Decoded.{DecodesWhole}
use Rattle.traced_run.specs.Following.{AllMarksFollow}
use Rattle.traced_run.specs.Runs.{EachThread, IsRun, ThreadRun}
use Rattle.xray_image.specs.Program.{IsAccepted, Program}
use Rattle.xray_program.specs.Run.{LoadsFollowPlan, RanBeside}
use Rattle.xray_program.specs.Sim.{LoadsAreReplayed, RanReplayed, Replayed}
use Rattle.xray_program.specs.Traced.{RanLawfully}
use Rattle.xray_program.specs.private.CallLaws.{CallLaws}
use Rattle.xray_program.proofs.RunLoads.{leave_all}

-- the threads that a setup says are a run
pub is_run : (Lawful : List ThreadRun → (ℕ → List Load) → Type 0) (program : Program) (script : List PatchCommand) (setup : Setup) (runs : List ThreadRun)
    → RanLawfully Lawful program script setup.threads setup.limits runs → IsRun program setup runs
is_run Lawful program script setup runs ran = record { count = ran.count; plain = ran.plain }

-- by loads that tear no sled, threads that have run as their plain runs do execute to their ends
ran_by : CallLaws → (Lawful : List ThreadRun → (ℕ → List Load) → Type 0) (image : List ℕ) (program : Program) (script : List PatchCommand) (threads : ℕ)
    (limits : Limits) (runs : List ThreadRun) → IsAccepted image program → length runs ≡ threads
    → EachThread runs (λ number run. PlainRun program limits number run.passed run.end run.last) → (loads : ℕ → List Load) → Lawful runs loads
    → EachThread runs (λ number run. DecodesWhole program threads number (hold_of number script) run (loads number))
    → RanLawfully Lawful program script threads limits runs
ran_by laws Lawful image program script threads limits runs accepted count plain loads lawful whole = record {
  count = count;
  plain = plain;
  loads = loads;
  lawful = lawful;
  whole = whole;
  executes = λ i run found.
      laws.executes image program limits threads (i + 1) (hold_of (i + 1) script) run (loads (i + 1)) accepted (plain i run found) (whole i run found);
}

-- what a replay leaves
pub ran_replayed : CallLaws → (image : List ℕ) (program : Program) (plan : Plan) (text : List ℕ) (turns : List Turns) (setup : Setup) (runs : List ThreadRun)
    → IsAccepted image program → schedule_of setup.threads text ≡ Ok turns → Replayed program plan turns setup runs
    → RanReplayed program plan turns setup runs
ran_replayed laws image program plan text turns setup runs accepted reads replay =
    ran_by laws (LoadsAreReplayed program plan turns setup) image program (commands_of plan.lines) setup.threads setup.limits runs accepted replay.run.count
    replay.run.plain (λ number. of_thread replay.last.moment.loads number)
    (record { replay = replay; loads_are = λ number. refl })
    (laws.tears program (commands_of plan.lines) text turns setup runs reads replay)

-- threads whose marks follow a script
pub ran_beside : CallLaws → (image : List ℕ) (program : Program) (script : List PatchCommand) (threads : ℕ) (limits : Limits) (runs : List ThreadRun)
    → IsAccepted image program → length runs ≡ threads → EachThread runs (λ number run. PlainRun program limits number run.passed run.end run.last)
    → AllMarksFollow program threads script runs → RanBeside program script threads limits runs
ran_beside laws image program script threads limits runs accepted count plain follow =
    let made = leave_all program threads script runs follow in
    ran_by laws (LoadsFollowPlan program threads script) image program script threads limits runs accepted count plain made.loads
    (record {
      follow = λ i run found. (made.are i run found).follow;
      released = λ i run found. (made.are i run found).released;
    })
    (λ i run found. record {
      wanted = laws.wanted program threads _ _ _ (i + 1) _ _ _ _ (made.are i run found).follow;
      each = (made.are i run found).each ∙ length-map run.passed (λ (p : Passing). p.sled);
      marks = (made.are i run found).leave;
      whole = laws.follows program threads _ _ _ (i + 1) _ _ _ _ (laws.keeps program threads script (i + 1)) (made.are i run found).follow;
    })

-- their marks follow it
pub marks_follow : (program : Program) (script : List PatchCommand) (threads : ℕ) (limits : Limits) (runs : List ThreadRun)
    → RanBeside program script threads limits runs → AllMarksFollow program threads script runs
marks_follow program script threads limits runs ran i run found = record {
  loads = ran.loads (i + 1);
  follow = ran.lawful.follow i run found;
  leave = (ran.whole i run found).marks;
  released = ran.lawful.released i run found;
  each = (ran.whole i run found).each ∙ sym (length-map run.passed (λ (p : Passing). p.sled));
}
