-- What a passing looks for, by whether its sled logs arguments.
use Rattle.std.proofs.Common.{◌≡◌, ℕ, Bool, List, ◌∷◌, refl, sym, ap}
use Rattle.xray_image.specs.Program.{Program}
use Rattle.handler_word.specs.declared.mark.Mark.{Mark}
use Rattle.handler_word.specs.declared.mark.Mark.TheVariants.{Skipped, NoHandler, NotLogging, Recorded, RecordedArg}
use Rattle.machine_step.specs.Loads.{sled_logs_args}
use Rattle.audit_check.specs.Places.{Search, handler_searches, head_searches, patched_search}
use Rattle.audit_check.specs.private.Searches.{searches_by}

module _ (program : Program) (threads : ℕ) (code : ℕ → ℕ → ℕ) (sled : ℕ) where
  later : (logs : Bool) (mark : Mark) → sled_logs_args program sled ≡ logs
      → patched_search program threads code sled ∷ handler_searches program threads code logs mark
      ≡ patched_search program threads code sled ∷ handler_searches program threads code (sled_logs_args program sled) mark
  later logs mark e = ap (λ b. let ss : List Search = patched_search program threads code sled ∷ handler_searches program threads code b mark in ss) (sym e)

  pub searches_are : (logs : Bool) (mark : Mark) → sled_logs_args program sled ≡ logs
      → searches_by program threads code logs sled mark ≡ head_searches program threads code sled mark
  searches_are logs Skipped e = refl
  searches_are logs NoHandler e = later logs NoHandler e
  searches_are logs NotLogging e = later logs NotLogging e
  searches_are logs Recorded e = later logs Recorded e
  searches_are logs RecordedArg e = later logs RecordedArg e
