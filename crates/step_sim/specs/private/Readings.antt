-- What the reader of schedules knows of a line, and of the lines so far.
use Rattle.std.specs.Prelude.{ℕ, List, ◌++◌, Option, Result, Ok, Err, option_to_list}
use Rattle.std.specs.List.{flat_map}
use Rattle.step_sim.specs.declared.fault.ScheduleFault.{ScheduleFault}
use Rattle.step_sim.specs.declared.turns.Turns.{Turns}
use Rattle.step_sim.specs.private.Faults.{decided, line_faults, line_turns}

-- an answer with its turns as a list
abbrev pub listed : Result (Option Turns) ScheduleFault → Result (List Turns) ScheduleFault
listed (Ok turns) = Ok (option_to_list turns)
listed (Err fault) = Err fault

-- what the rest of the lines comes to, after the turns so far
abbrev pub read_on : ℕ → List Turns → List (ℕ × List ℕ) → Result (List Turns) ScheduleFault
read_on threads turns left = decided (flat_map (line_faults threads) left) (turns ++ flat_map line_turns left)
