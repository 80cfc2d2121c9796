-- The lines of a schedule that is being made.
use Rattle.std.specs.Prelude.{◌≡◌, ◌++◌, ◌∷◌, ℕ, zero, suc, List, []}
use Rattle.step_sim.specs.declared.turns.Turns.{Turns}
use Rattle.step_sim.specs.declared.turns.Turns.TheVariants.{Patcher}
use Rattle.run_order.specs.declared.lines.ScheduleLines.{ScheduleLines}
use Rattle.run_order.specs.private.Ordered.{joined}

-- the line of this many micro steps; none if there are none
abbrev pub steps_line : ℕ → List Turns
steps_line zero = []
steps_line (suc steps) = Patcher (suc steps) ∷ []

-- they are those of these turns, whatever turns come after them: all lines but the micro steps that wait
pub record HasJoined (turns : List Turns) (lines : ScheduleLines) : Type 0 where
  pub goes_on : (more : List Turns) → joined (turns ++ more) ≡ lines.lines.items ++ joined (steps_line lines.steps ++ more)
