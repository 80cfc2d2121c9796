-- The three inputs of a number. The draws of the text come first, then those of the script, and then those of the schedule.
use Rattle.std.specs.Prelude.{ℕ, List}
use Rattle.patch_script.specs.declared.command.PatchCommand.{PatchCommand}
use Rattle.patch_script.specs.WrittenScripts.{script_text}
use Rattle.step_sim.specs.declared.turns.Turns.{Turns}
use Rattle.step_sim.specs.WrittenSchedules.{schedule_text}
use Rattle.soak_inputs.specs.Texts.{after_text, assembler_text}
use Rattle.soak_inputs.specs.Scripts.{after_script, script}
use Rattle.soak_inputs.specs.Schedules.{schedule}

-- the assembler text
abbrev pub soak_text : (number : ℕ) → List ℕ
soak_text number = assembler_text number

-- the script's commands, and its text
abbrev pub soak_commands : (number : ℕ) → List PatchCommand
soak_commands number = script (after_text number)

abbrev pub soak_script : (number : ℕ) → List ℕ
soak_script number = script_text (soak_commands number)

-- the schedule's turns, and its text
abbrev pub soak_turns : (number : ℕ) → List Turns
soak_turns number = schedule (after_script (after_text number))

abbrev pub soak_schedule : (number : ℕ) → List ℕ
soak_schedule number = schedule_text (soak_turns number)
