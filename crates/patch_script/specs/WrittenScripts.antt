-- Scripts as they are written of commands.
use Rattle.std.specs.Prelude.{◌≡◌, ◌≤◌, ℕ, List, [], ◌∷◌, map, All, Ok, codes, decimal, ⊤}
use Rattle.std.specs.List.{enumerate_from}
use Rattle.text_lines.specs.Written.{written_text}
use Rattle.xray_image.specs.Program.{Program}
use Rattle.patch_script.specs.declared.command.PatchCommand.{PatchCommand}
use Rattle.patch_script.specs.declared.command.PatchCommand.TheVariants as commands
use Rattle.patch_script.specs.Plans.{Plan, IsOrderly, plan_of}

-- the words of the line of a command
abbrev pub command_words : PatchCommand → List (List ℕ)
command_words commands.Patch = codes "patch" ∷ []
command_words commands.Unpatch = codes "unpatch" ∷ []
command_words (commands.PatchFunction id) = codes "patch_function" ∷ decimal id ∷ []
command_words (commands.UnpatchFunction id) = codes "unpatch_function" ∷ decimal id ∷ []
command_words commands.SetHandler = codes "set_handler" ∷ []
command_words commands.RemoveHandler = codes "remove_handler" ∷ []
command_words commands.SetArgHandler = codes "set_arg_handler" ∷ []
command_words commands.RemoveArgHandler = codes "remove_arg_handler" ∷ []
command_words commands.Init = codes "init" ∷ []
command_words commands.Finalize = codes "finalize" ∷ []
command_words (commands.Hold thread passing) = codes "hold" ∷ decimal thread ∷ decimal passing ∷ []
command_words commands.Go = codes "go" ∷ []
command_words (commands.Release thread) = codes "release" ∷ decimal thread ∷ []
command_words (commands.Await thread count) = codes "await" ∷ decimal thread ∷ decimal count ∷ []

-- the text of commands, a line each
abbrev pub script_text : List PatchCommand → List ℕ
script_text script = written_text (map command_words script)

-- the script that it is: command n is in line n
abbrev pub written_plan : Program → (threads : ℕ) → List PatchCommand → Plan
written_plan program threads script = record { program = program; threads = threads; lines = enumerate_from 1 script }

-- the numbers of a command fit 32 bits
abbrev pub HasWords : PatchCommand → Type 0
HasWords (commands.PatchFunction id) = id ≤ 4294967295
HasWords (commands.UnpatchFunction id) = id ≤ 4294967295
HasWords (commands.Hold thread passing) = (thread ≤ 4294967295) × (passing ≤ 4294967295)
HasWords (commands.Release thread) = thread ≤ 4294967295
HasWords (commands.Await thread count) = (thread ≤ 4294967295) × (count ≤ 4294967295)
HasWords commands.Patch = ⊤
HasWords commands.Unpatch = ⊤
HasWords commands.SetHandler = ⊤
HasWords commands.RemoveHandler = ⊤
HasWords commands.SetArgHandler = ⊤
HasWords commands.RemoveArgHandler = ⊤
HasWords commands.Init = ⊤
HasWords commands.Finalize = ⊤
HasWords commands.Go = ⊤

-- commands that may follow one another, and that lack nothing, are read as they are written
abbrev pub WrittenScriptsRead : Type 0
WrittenScriptsRead = (program : Program) (threads : ℕ) (script : List PatchCommand) → All HasWords script
    → IsOrderly (written_plan program threads script) → plan_of program threads (script_text script) ≡ Ok (written_plan program threads script)
