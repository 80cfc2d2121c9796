-- The script: all sleds are patched and record from the start. After `go` come 100 changes.
use Rattle.std.specs.Prelude.{ℕ, zero, suc, ◌+◌, ◌==◌, List, [], ◌∷◌, nat_lt, if◌then◌else◌}
use Rattle.patch_script.specs.declared.command.PatchCommand.{PatchCommand}
use Rattle.patch_script.specs.declared.command.PatchCommand.TheVariants as commands
use Rattle.soak_inputs.specs.Draws.{next, drawn}

-- one of four changes, by what is drawn for it and by a function id
abbrev pub change_of : (drawn id : ℕ) → PatchCommand
change_of drawn id =
    if drawn == 0 then commands.PatchFunction id
    else if drawn == 1 then commands.UnpatchFunction id
    else if drawn == 2 then commands.RemoveHandler
    else commands.SetHandler

-- the change that is drawn next; an id is drawn only for the first two
abbrev pub change : ℕ → PatchCommand
change x = change_of (drawn 4 x) (1 + drawn 64 (next x))

abbrev pub after_change : ℕ → ℕ
after_change x = if nat_lt (drawn 4 x) 2 then next (next x) else next x

unfoldable pub changes : (count : ℕ) → (x : ℕ) → List PatchCommand
changes zero x = []
changes (suc count) x = change x ∷ changes count (after_change x)

unfoldable pub after_changes : (count : ℕ) → (x : ℕ) → ℕ
after_changes zero x = x
after_changes (suc count) x = after_changes count (after_change x)

-- the script, and the state after it
abbrev pub script : ℕ → List PatchCommand
script x = commands.Patch ∷ commands.SetHandler ∷ commands.Init ∷ commands.Go ∷ changes 100 x

abbrev pub after_script : ℕ → ℕ
after_script x = after_changes 100 x
