use Rattle.std.proofs.Common.{◌≡◌, All}
use Rattle.step_sim.specs.Schedules.{schedule_of, AreTurnsOf}
use Rattle.step_sim.specs.private.Readings.{read_on}
use Rattle.step_sim.proofs.schedule.read_schedule.Given as goal

-- reading the rest of the text after the turns so far gives what reading the whole text gives
abbrev pub invariant-loop-line : goal.invariant-loop-line
invariant-loop-line l = record {
  left : schedule_of l.threads l.text ≡ read_on l.threads l.lines.items l.line-iterator;
  within : All (AreTurnsOf l.threads) l.lines.items;
}
