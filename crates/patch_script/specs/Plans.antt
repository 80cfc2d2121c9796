-- The script of a text.
use Rattle.std.specs.Prelude.{◌≡◌, ◌<◌, ◌≤◌, ℕ, ◌+◌, List, [], length, take, slice_get, Bool, true, false, Result, Ok, Option, Some, find, option_map}
use Rattle.std.specs.List.{list_any}
use Rattle.std.specs.Str.Lines.{lines}
use Rattle.xray_io.specs.Rows.{◌>>=◌}
use Rattle.text_lines.specs.Lines.{numbered_lines}
use Rattle.xray_image.specs.Program.{Program}
use Rattle.sled_words.specs.Words.{IsCodeWord}
use Rattle.patch_script.specs.declared.command.PatchCommand.{PatchCommand}
use Rattle.patch_script.specs.declared.command.PatchCommand.TheVariants as commands
use Rattle.patch_script.specs.declared.fault.ScriptFault.{ScriptFault}
use Rattle.patch_script.specs.declared.micro.Micro.{Micro}
use Rattle.patch_script.specs.declared.micro.Micro.TheVariants.{Store, Await, End}
use Rattle.patch_script.specs.Limits.{most_commands}
use Rattle.patch_script.specs.Refusals.{Lines, commands_of, has_go, holds_for_good, IsAdmitted, read_lines, ended}

-- what contracts see of a `Script`: its commands with their lines, and the program and threads that they are for
pub record Plan : Type 0 where
  -- the program whose sleds it patches
  pub program : Program
  -- how many threads there are
  pub threads : ℕ
  -- the commands, each with the number of its line, counted from 1
  pub lines : Lines

-- the script of a text, or its first refusal
abbrev pub plan_of : Program → ℕ → List ℕ → Result Plan ScriptFault
plan_of program threads text =
    read_lines program threads [] (numbered_lines text)
    >>= (λ said. ended (length (lines text) + 1) said)
    >>= λ said. Ok (record { program = program; threads = threads; lines = said })

-- a thread may wait because of the command, or the patcher may wait at it
abbrev pub is_waiting : PatchCommand → Bool
is_waiting (commands.Hold thread passing) = true
is_waiting (commands.Release thread) = true
is_waiting (commands.Await thread count) = true
is_waiting commands.Patch = false
is_waiting commands.Unpatch = false
is_waiting (commands.PatchFunction id) = false
is_waiting (commands.UnpatchFunction id) = false
is_waiting commands.SetHandler = false
is_waiting commands.RemoveHandler = false
is_waiting commands.SetArgHandler = false
is_waiting commands.RemoveArgHandler = false
is_waiting commands.Init = false
is_waiting commands.Finalize = false
is_waiting commands.Go = false

-- the line of the first hold, release or await
abbrev pub waiting_line : Lines → Option ℕ
waiting_line lines = option_map (λ line. line.0) (find (λ line. is_waiting line.1) lines)

-- some text says the script
abbrev pub IsRead : Plan → Type 0
IsRead plan = (text : List ℕ) × (plan_of plan.program plan.threads text ≡ Ok plan)

-- each command of the script may follow those before it, and nothing is missing at the end
pub record IsOrderly (plan : Plan) : Type 0 where
  pub admitted : (i : ℕ) (line : ℕ × PatchCommand) → slice_get plan.lines i ≡ Some line
      → IsAdmitted plan.program plan.threads (take i (commands_of plan.lines)) line.1
  pub goes : has_go (commands_of plan.lines) ≡ true
  pub released : list_any (holds_for_good (commands_of plan.lines)) (commands_of plan.lines) ≡ false
  pub few : length plan.lines ≤ most_commands

-- The word that a micro step stores in is a code word. The thread that it waits for is one of the script's.
abbrev pub IsWithin : Plan → Micro → Type 0
IsWithin plan (Store word value) = IsCodeWord plan.program plan.threads word
IsWithin plan (Await thread count) = (0 < thread) × (thread ≤ plan.threads)
IsWithin plan End = Unit {0}

abbrev pub IsStore : Micro → Type 0
IsStore (Store word value) = Unit {0}
IsStore (Await thread count) = ⊥
IsStore End = ⊥
