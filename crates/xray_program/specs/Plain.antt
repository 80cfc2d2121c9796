-- `plain`: the plain texts of the threads.
use Rattle.std.specs.Prelude.{◌≡◌, ◌+◌, ℕ, List, length, Some, slice_get}
use Rattle.std.specs.List.{flat_map}
use Rattle.xray_image.specs.Program.{Program}
use Rattle.machine_step.specs.declared.end.End.{End}
use Rattle.machine_step.specs.declared.limits.Limits.{Limits}
use Rattle.machine_step.specs.PlainStep.{State, Passing, PlainRun}
use Rattle.machine_step.specs.Texts.{plain_text}
use Rattle.xray_program.specs.Setups.{plain_limits}
use Rattle.command_words.specs.declared.run_options.Bounds.{Bounds}

-- the text of a thread, with the end, the counts, the registers and the output of its plain run
pub record IsPlainText (program : Program) (limits : Limits) (thread : ℕ) (text : List ℕ) : Type 0 where
  pub passed : List Passing
  pub end : End
  pub last : State
  pub run : PlainRun program limits thread passed end last
  pub prints : text ≡ plain_text thread end last

-- the texts of all threads, one after another, in the order of their numbers, from 1 on
pub record PlainPrints (program : Program) (bounds : Bounds) (text : List ℕ) : Type 0 where
  pub texts : List (List ℕ)
  pub count : length texts ≡ bounds.threads
  pub each : (k : ℕ) (t : List ℕ) → slice_get texts k ≡ Some t
      → IsPlainText program (plain_limits bounds) (k + 1) t
  pub joined : text ≡ flat_map (λ t. t) texts
