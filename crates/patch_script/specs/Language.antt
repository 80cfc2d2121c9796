-- The lines of scripts: which words say which command.
use Rattle.std.specs.Prelude.{ℕ, List, [], ◌∷◌, Option, Some, None, codes, option_map, option_and_then}
use Rattle.text_lines.specs.Keywords.{in_table}
use Rattle.text_lines.specs.Numbers.{number_of}
use Rattle.patch_script.specs.declared.command.PatchCommand.{PatchCommand}
use Rattle.patch_script.specs.declared.command.PatchCommand.TheVariants as commands
use Rattle.patch_script.specs.declared.keyword.CommandKeyword.{CommandKeyword}
use Rattle.patch_script.specs.declared.keyword.CommandKeyword.TheVariants as words

-- the first words of commands
abbrev pub keywords : List (List ℕ × CommandKeyword)
keywords =
    (codes "patch", words.Patch) ∷ (codes "unpatch", words.Unpatch)
    ∷ (codes "patch_function", words.PatchFunction) ∷ (codes "unpatch_function", words.UnpatchFunction)
    ∷ (codes "set_handler", words.SetHandler) ∷ (codes "remove_handler", words.RemoveHandler)
    ∷ (codes "set_arg_handler", words.SetArgHandler) ∷ (codes "remove_arg_handler", words.RemoveArgHandler)
    ∷ (codes "init", words.Init) ∷ (codes "finalize", words.Finalize)
    ∷ (codes "hold", words.Hold) ∷ (codes "go", words.Go)
    ∷ (codes "release", words.Release) ∷ (codes "await", words.Await) ∷ []

-- the keyword that a word is
abbrev pub keyword_of : List ℕ → Option CommandKeyword
keyword_of word = in_table keywords word

-- a command with one number, and one with two
abbrev pub on_one : (ℕ → PatchCommand) → List ℕ → Option PatchCommand
on_one command word = option_map command (number_of word)

abbrev pub on_two : (ℕ → ℕ → PatchCommand) → List ℕ → List ℕ → Option PatchCommand
on_two command first second = option_and_then (λ n. option_map (command n) (number_of second)) (number_of first)

-- the command that a keyword is with the words after it
abbrev pub says : CommandKeyword → List (List ℕ) → Option PatchCommand
says words.Patch [] = Some commands.Patch
says words.Unpatch [] = Some commands.Unpatch
says words.PatchFunction (id ∷ []) = on_one commands.PatchFunction id
says words.UnpatchFunction (id ∷ []) = on_one commands.UnpatchFunction id
says words.SetHandler [] = Some commands.SetHandler
says words.RemoveHandler [] = Some commands.RemoveHandler
says words.SetArgHandler [] = Some commands.SetArgHandler
says words.RemoveArgHandler [] = Some commands.RemoveArgHandler
says words.Init [] = Some commands.Init
says words.Finalize [] = Some commands.Finalize
says words.Hold (thread ∷ passing ∷ []) = on_two commands.Hold thread passing
says words.Go [] = Some commands.Go
says words.Release (thread ∷ []) = on_one commands.Release thread
says words.Await (thread ∷ count ∷ []) = on_two commands.Await thread count
says keyword following = None

-- the command that the words of a line are
abbrev pub command_of : List (List ℕ) → Option PatchCommand
command_of [] = None
command_of (word ∷ following) = option_and_then (λ keyword. says keyword following) (keyword_of word)
