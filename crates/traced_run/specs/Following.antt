-- The loads and the marks of a thread that runs while a script is patched.
use Rattle.std.specs.Prelude.{ℕ, List}
use Rattle.xray_image.specs.Program.{Program}
use Rattle.patch_script.specs.declared.command.PatchCommand.{PatchCommand}
use Rattle.patch_script.specs.Bounds.{bound_of}
use Rattle.patch_script.specs.CodeAt.{code_at}
use Rattle.patch_script.specs.Micros.{hold_of, start_of, total_of}
use Rattle.handler_word.specs.declared.mark.Mark.{Mark}
use Rattle.machine_step.specs.Follows.{Follows, MarksFollow}
use Rattle.machine_step.specs.Loads.{Load}
use Rattle.machine_step.specs.PlainStep.{Passing}
use Rattle.machine_step.specs.Traced.{HasLoaded, Traced, sleds_passed}
use Rattle.traced_run.specs.Runs.{EachThread, ThreadRun}

-- The loads that a thread, of this many, which passes these sleds can have made when a script is at a place. Each is of
-- a word that it wanted, with the word's value at a place. That place isn't before those of its earlier loads, and isn't
-- after the first await of its passing.
abbrev pub LoadsFollow : Program → ℕ → List PatchCommand → ℕ → List ℕ → List Load → ℕ → Type 0
LoadsFollow program threads script thread sleds loads place =
    Follows program threads (code_at program threads script) (start_of program threads script) (bound_of program threads script thread)
    thread (hold_of thread script) sleds loads place

-- the marks of such a thread follow the whole script
abbrev pub MarksFollowScript : Program → ℕ → List PatchCommand → ℕ → List ℕ → List Mark → Type 0
MarksFollowScript program threads script thread sleds marks =
    MarksFollow program threads (code_at program threads script) (start_of program threads script) (bound_of program threads script thread)
    thread (hold_of thread script) sleds marks (total_of program threads script)

-- the marks of each thread of a run follow the whole script
abbrev pub AllMarksFollow : Program → ℕ → List PatchCommand → List ThreadRun → Type 0
AllMarksFollow program threads script runs =
    EachThread runs (λ number run. MarksFollowScript program threads script number (sleds_passed run.passed) run.marks)

-- a thread was given these loads, and they follow the script up to a place
pub record HasFollowed (program : Program) (threads : ℕ) (script : List PatchCommand) (t : Traced) (passed : List Passing) (place : ℕ) (loads : List Load)
    : Type 0 where
  pub loaded : HasLoaded t passed loads
  pub follow : LoadsFollow program threads script t.thread (sleds_passed passed) loads place
