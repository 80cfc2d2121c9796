-- Commands in their places, as they are stored.
use Rattle.std.specs.Prelude.{◌≡◌, ◌<◌, ◌≤◌, ◌+◌, ◌*◌, ◌-◌, ℕ, List, length, map, take, slice_get, slice_index_or, false, Some}
use Rattle.std.specs.List.{flat_map}
use Rattle.std.specs.List.Sorted.{IsNonDecreasingBy}
use Rattle.xray_image.specs.Program.{Program}
use Rattle.xray_image.specs.Limits.{most_sleds}
use Rattle.xray_image.specs.Ids.{id_count}
use Rattle.sled_words.specs.Words.{handler_word, state_word, arg_handler_word}
use Rattle.patch_script.specs.declared.command.PatchCommand.{PatchCommand}
use Rattle.patch_script.specs.declared.command.PatchCommand.TheVariants as commands
use Rattle.patch_script.specs.declared.placed.Placed.{Placed}
use Rattle.patch_script.specs.declared.placed.PlacedCommands.{PlacedCommands}
use Rattle.patch_script.specs.private.FirstPatches.{AreFirst}
use Rattle.patch_script.specs.Micros.{start_of, total_of, patches, numbers}
use Rattle.patch_script.specs.Plans.{waiting_line}
use Rattle.patch_script.specs.Refusals.{Lines, commands_of, names_no_function, names_no_thread}
use Rattle.patch_script.specs.Limits.{most_commands}
use Rattle.patch_script.specs.private.Sleds.{values_of, HasSleds}

-- how many micro steps a command has, by the number of sleds that it patches or unpatches
abbrev pub step_count : PatchCommand → ℕ → ℕ
step_count commands.Patch sleds = 4 * sleds
step_count commands.Unpatch sleds = sleds
step_count (commands.PatchFunction id) sleds = 4 * sleds
step_count (commands.UnpatchFunction id) sleds = sleds
step_count commands.SetHandler sleds = 1
step_count commands.RemoveHandler sleds = 1
step_count commands.SetArgHandler sleds = 1
step_count commands.RemoveArgHandler sleds = 1
step_count commands.Init sleds = 2
step_count commands.Finalize sleds = 2
step_count (commands.Hold thread passing) sleds = 0
step_count commands.Go sleds = 0
step_count (commands.Release thread) sleds = 1
step_count (commands.Await thread count) sleds = 1

abbrev pub line_in : Placed → ℕ × PatchCommand
line_in placed = (placed.line, placed.command)

abbrev pub lines_in : PlacedCommands → Lines
lines_in placed = map line_in placed.commands.items

-- the threads that the command names have release words
abbrev pub NamesFewThreads : PatchCommand → Type 0
NamesFewThreads (commands.Release thread) = thread ≤ 16
NamesFewThreads commands.Patch = Unit {0}
NamesFewThreads commands.Unpatch = Unit {0}
NamesFewThreads (commands.PatchFunction id) = Unit {0}
NamesFewThreads (commands.UnpatchFunction id) = Unit {0}
NamesFewThreads commands.SetHandler = Unit {0}
NamesFewThreads commands.RemoveHandler = Unit {0}
NamesFewThreads commands.SetArgHandler = Unit {0}
NamesFewThreads commands.RemoveArgHandler = Unit {0}
NamesFewThreads commands.Init = Unit {0}
NamesFewThreads commands.Finalize = Unit {0}
NamesFewThreads (commands.Hold thread passing) = Unit {0}
NamesFewThreads commands.Go = Unit {0}
NamesFewThreads (commands.Await thread count) = Unit {0}

-- a command is in its place
pub record IsPlaced (program : Program) (threads : ℕ) (earlier : List PatchCommand) (placed : Placed) : Type 0 where
  pub before : placed.before ≡ total_of program threads earlier
  pub after : placed.after ≡ placed.before + step_count placed.command (placed.sleds.end - placed.sleds.start)
  pub sleds : HasSleds program placed.command placed.sleds
  pub thread : NamesFewThreads placed.command

-- the numbers of the sleds that the commands so far patch
abbrev pub patched_by : Program → List PatchCommand → List ℕ
patched_by program script = flat_map (λ command. numbers (patches program command)) script

abbrev pub patched_before : PlacedCommands → ℕ → List ℕ
patched_before placed number = patched_by placed.image.value (take number (commands_of (lines_in placed)))

-- what is kept belongs to the image
pub record IsOfImage (program : Program) (placed : PlacedCommands) : Type 0 where
  pub few : length program.sleds ≤ most_sleds
  pub in_order : IsNonDecreasingBy (λ sled. sled.id) program.sleds
  pub sleds : placed.sleds.items ≡ map (values_of program.trampolines) program.sleds
  pub handler : placed.handler_word ≡ handler_word program
  pub state : placed.state_word ≡ state_word program
  pub arg_handler : placed.arg_handler_word ≡ arg_handler_word program placed.threads

-- the commands are in their places
pub record ArePlaced (placed : PlacedCommands) : Type 0 where
  pub image : IsOfImage placed.image.value placed
  pub each : (i : ℕ) (one : Placed) → slice_get placed.commands.items i ≡ Some one
      → IsPlaced placed.image.value placed.threads (take i (commands_of (lines_in placed))) one
  pub total : placed.total ≡ total_of placed.image.value placed.threads (commands_of (lines_in placed))
  pub start : placed.start ≡ start_of placed.image.value placed.threads (commands_of (lines_in placed))
  pub waits : placed.waits ≡ waiting_line (lines_in placed)
  pub first : AreFirst (id_count placed.image.value) (commands_of (lines_in placed)) placed.first_patches
  pub few : placed.total ≤ 16384 * length (lines_in placed)
  pub room : length (lines_in placed) ≤ most_commands

-- A command that may be added. Its function and its thread exist, and there are fewer than 1,024 commands so far.
pub record MayBePlaced (placed : PlacedCommands) (command : PatchCommand) : Type 0 where
  pub function : names_no_function placed.image.value command ≡ false
  pub thread : names_no_thread 16 command ≡ false
  pub room : length (lines_in placed) < most_commands

-- the micro step at a place belongs to the command with this number
pub record IsAt (placed : PlacedCommands) (place number : ℕ) : Type 0 where
  pub within : number < length placed.commands.items
  pub begins : (d : Placed) → (slice_index_or placed.commands.items number d).before ≤ place
  pub ends : (d : Placed) → let one = slice_index_or placed.commands.items number d in
      place < one.before + step_count one.command (one.sleds.end - one.sleds.start)
