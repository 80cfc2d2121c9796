-- Schedules that are too long.
use Rattle.std.specs.Prelude.{List, Bool, length, nat_lt}
use Rattle.step_sim.specs.declared.turns.Turns.{Turns}
use Rattle.step_sim.specs.Schedules.{most_lines}

-- it has more lines than a schedule may have
abbrev pub is_long : List Turns → Bool
is_long schedule = nat_lt most_lines (length schedule)
