-- What the crates below say of runs, and the contract of a call rests on.
use Rattle.std.specs.Prelude.{◌≡◌, ℕ, List, Option, Ok, length}
use Rattle.xray_image.specs.Program.{IsAccepted, Program}
use Rattle.sled_words.specs.ChangingCode.{KeepsSleds}
use Rattle.patch_script.specs.CodeAt.{code_at}
use Rattle.patch_script.specs.Micros.{hold_of}
use Rattle.patch_script.specs.declared.command.PatchCommand.{PatchCommand as PatchCommand}
use Rattle.machine_step.specs.declared.setup.Setup.{Setup}
use Rattle.machine_step.specs.Buffers.{spare_of}
use Rattle.machine_step.specs.Follows.{Follows}
use Rattle.machine_step.specs.Loads.{AreWanted, Load}
use Rattle.machine_step.specs.Whole.{AreWhole as PassingsAreWhole}
use Rattle.machine_step.specs.declared.limits.Limits.{Limits}
use Rattle.machine_step.specs.PlainStep.{PlainRun}
use Rattle.traced_run.specs.Decoded.{DecodesWhole}
use Rattle.traced_run.specs.Executed.{Executes}
use Rattle.traced_run.specs.Losses.{AreLost}
use Rattle.traced_run.specs.Runs.{EachThread, ThreadRun}
use Rattle.step_sim.specs.Plays.{Plays}
use Rattle.step_sim.specs.Pool.{Pooled, PooledReplay, Pooling}
use Rattle.step_sim.specs.Replay.{Cast, first_moment, moment_rules, of_thread}
use Rattle.step_sim.specs.Replayed.{IsReplayOf}
use Rattle.step_sim.specs.Schedules.{schedule_of}
use Rattle.step_sim.specs.declared.turns.Turns.{Turns}

-- a replay tears no sled
abbrev pub TearsNone : Type 0
TearsNone = (program : Program) (script : List PatchCommand) (text : List ℕ) (schedule : List Turns) (setup : Setup) (runs : List ThreadRun)
    → schedule_of setup.threads text ≡ Ok schedule → (replay : IsReplayOf program script schedule setup runs)
    → EachThread runs (λ number run. DecodesWhole program setup.threads number (hold_of number script) run (of_thread replay.last.moment.loads number))

-- without its buffers, a replay comes to the same moment
abbrev pub MovesAlike : Type 0
MovesAlike = (cast : Cast) (pooling : Pooling) (schedule : List Turns) (last : Pooled) → PooledReplay cast pooling schedule last
    → Plays (moment_rules cast) (length cast.passings) (first_moment cast) schedule last.moment

-- the stores of any script keep sleds whole
abbrev pub ScriptsKeep : Type 0
ScriptsKeep = (program : Program) (threads : ℕ) (script : List PatchCommand) (thread : ℕ)
    → KeepsSleds program threads thread (code_at program threads script)

-- loads that follow changing code are of the words that are wanted
abbrev pub FollowsWanted : Type 0
FollowsWanted = (program : Program) (threads : ℕ) (code : ℕ → ℕ → ℕ) (start : ℕ) (bound : ℕ → ℕ) (thread : ℕ) (hold : Option ℕ) (sleds : List ℕ)
    (loads : List Load) (place : ℕ) → Follows program threads code start bound thread hold sleds loads place → AreWanted program threads thread hold sleds loads

-- loads that follow code which keeps sleds whole tear none
abbrev pub FollowsWhole : Type 0
FollowsWhole = (program : Program) (threads : ℕ) (code : ℕ → ℕ → ℕ) (start : ℕ) (bound : ℕ → ℕ) (thread : ℕ) (hold : Option ℕ) (sleds : List ℕ)
    (loads : List Load) (place : ℕ) → KeepsSleds program threads thread code → Follows program threads code start bound thread hold sleds loads place
    → PassingsAreWhole program threads thread hold sleds loads

-- a thread that executes the code with the bytes that it loaded always comes to the end of its plain run, if it tears no
-- sled
abbrev pub ExecutesRuns : Type 0
ExecutesRuns = (bytes : List ℕ) (program : Program) (limits : Limits) (threads number : ℕ) (hold : Option ℕ) (run : ThreadRun) (loads : List Load)
    → IsAccepted bytes program → PlainRun program limits number run.passed run.end run.last → DecodesWhole program threads number hold run loads
    → Executes program limits threads number hold run loads

-- as many segments are lost as the queue has no buffers for
abbrev pub LosesAsQueued : Type 0
LosesAsQueued = (program : Program) (script : List PatchCommand) (text : List ℕ) (schedule : List Turns) (setup : Setup) (runs : List ThreadRun)
    → schedule_of setup.threads text ≡ Ok schedule → IsReplayOf program script schedule setup runs → AreLost setup.size (spare_of setup) runs

-- all of it
pub record CallLaws : Type 0 where
  pub tears : TearsNone
  pub loses : LosesAsQueued
  pub moves : MovesAlike
  pub keeps : ScriptsKeep
  pub wanted : FollowsWanted
  pub follows : FollowsWhole
  pub executes : ExecutesRuns
