-- What the lines of a script and of a schedule say, read one by one.
use Rattle.std.specs.Prelude.{ℕ, List}
use Rattle.std.specs.List.{filter_map, flat_map}
use Rattle.std.specs.Str.Lines.{lines}
use Rattle.text_lines.specs.Words.{words_of}
use Rattle.patch_script.specs.declared.command.PatchCommand.{PatchCommand}
use Rattle.patch_script.specs.Language.{command_of}
use Rattle.step_sim.specs.declared.turns.Turns.{Turns}
use Rattle.step_sim.specs.Schedules.{said_by, turns_said}

-- the commands of a script: those that the words of its lines are, in order
abbrev pub commands_said : List ℕ → List PatchCommand
commands_said script = filter_map (λ line. command_of (words_of line)) (lines script)

-- the turns of a schedule: those that the words of its lines give, in order
abbrev pub turns_given : List ℕ → List Turns
turns_given schedule = flat_map (λ line. turns_said (said_by (words_of line))) (lines schedule)
