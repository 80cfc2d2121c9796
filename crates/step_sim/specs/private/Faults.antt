-- What is wrong with the text of a schedule, as lists: line by line, whatever else is wrong.
use Rattle.std.specs.Prelude.{ℕ, Bool, List, [], ◌∷◌, ◌++◌, Result, Ok, Err, if◌then◌else◌}
use Rattle.text_lines.specs.Words.{is_clean, words_of}
use Rattle.step_sim.specs.declared.fault.ScheduleFault.{ScheduleFault}
use Rattle.step_sim.specs.declared.fault.ScheduleFault.TheVariants as faults
use Rattle.step_sim.specs.declared.line.Said.{Said}
use Rattle.step_sim.specs.declared.turns.Turns.{Turns}
use Rattle.step_sim.specs.Schedules.{is_well_formed, names_threads, said_by, turns_said}

-- this fault, unless the test passes
abbrev pub unless : Bool → ScheduleFault → List ScheduleFault
unless holds fault = if holds then [] else fault ∷ []

-- what is wrong with what a line says
abbrev pub said_faults : ℕ → ℕ → Said → List ScheduleFault
said_faults threads number said =
    unless (is_well_formed said) (faults.Syntax number) ++ unless (names_threads threads said) (faults.Thread number)

-- what is wrong with a line
abbrev pub line_faults : ℕ → ℕ × List ℕ → List ScheduleFault
line_faults threads (number, line) =
    unless (is_clean line) (faults.Syntax number) ++ said_faults threads number (said_by (words_of line))

-- the turns of a line
abbrev pub line_turns : ℕ × List ℕ → List Turns
line_turns (number, line) = turns_said (said_by (words_of line))

-- these turns if nothing is wrong, or else the first fault
abbrev pub decided : List ScheduleFault → List Turns → Result (List Turns) ScheduleFault
decided [] turns = Ok turns
decided (fault ∷ later) turns = Err fault
