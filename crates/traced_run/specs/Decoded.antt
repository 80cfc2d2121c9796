-- What a thread of a run decodes.
use Rattle.std.specs.Prelude.{◌≡◌, ℕ, List, Option, length}
use Rattle.xray_image.specs.Program.{Program}
use Rattle.machine_step.specs.Loads.{AreWanted, Load, marks_of}
use Rattle.machine_step.specs.Traced.{sleds_passed}
use Rattle.machine_step.specs.Whole.{AreWhole}
use Rattle.traced_run.specs.Runs.{ThreadRun}

-- With these loads a thread decodes no torn sled. Each load is of the word that the thread wanted next. Each of its
-- passings has its mark, and the marks are those of these loads. With them each passing found its sled unpatched, or all
-- of it patched. `hold` is the passing before which the script holds the thread, if it does.
pub record DecodesWhole (program : Program) (threads number : ℕ) (hold : Option ℕ) (run : ThreadRun) (loads : List Load) : Type 0 where
  pub wanted : AreWanted program threads number hold (sleds_passed run.passed) loads
  pub each : length run.marks ≡ length run.passed
  pub marks : run.marks ≡ marks_of program threads number hold (sleds_passed run.passed) loads
  pub whole : AreWhole program threads number hold (sleds_passed run.passed) loads
