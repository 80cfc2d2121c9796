-- Scripts whose commands say that each passing is recorded.
use Rattle.std.specs.Prelude.{◌≡◌, ◌||◌, ◌&&◌, ◌++◌, ◌∷◌, Bool, true, false, not, List, []}
use Rattle.std.specs.List.{list_any}
use Rattle.patch_script.specs.declared.command.PatchCommand.{PatchCommand}
use Rattle.patch_script.specs.declared.command.PatchCommand.TheVariants as commands
use Rattle.patch_script.specs.Refusals.{is_finalize, is_init}

-- ---- what a command does

-- it patches every sled
abbrev pub patches_each : PatchCommand → Bool
patches_each commands.Patch = true
patches_each _ = false

-- it unpatches sleds
abbrev pub unpatches : PatchCommand → Bool
unpatches commands.Unpatch = true
unpatches (commands.UnpatchFunction id) = true
unpatches _ = false

abbrev pub sets_handler : PatchCommand → Bool
sets_handler commands.SetHandler = true
sets_handler _ = false

abbrev pub removes_handler : PatchCommand → Bool
removes_handler commands.RemoveHandler = true
removes_handler _ = false

abbrev pub sets_arg_handler : PatchCommand → Bool
sets_arg_handler commands.SetArgHandler = true
sets_arg_handler _ = false

abbrev pub removes_arg_handler : PatchCommand → Bool
removes_arg_handler commands.RemoveArgHandler = true
removes_arg_handler _ = false

-- it initializes the log or finalizes it
abbrev pub changes_log : PatchCommand → Bool
changes_log command = is_init command || is_finalize command

-- it sets the argument handler or removes it
abbrev pub changes_arg_handler : PatchCommand → Bool
changes_arg_handler command = sets_arg_handler command || removes_arg_handler command

-- ---- scripts

-- among these commands one does something, and none after it undoes it
abbrev pub is_left_done : (does undoes : PatchCommand → Bool) → List PatchCommand → Bool
is_left_done does undoes [] = false
is_left_done does undoes (command ∷ later) = (does command && not (list_any undoes later)) || is_left_done does undoes later

-- Before `go` all sleds are patched, the handler is set and the log is initialized, and none of this is undone, not even
-- after `go`. After `go` the argument handler isn't changed either.
pub record RecordsFromGo (script : List PatchCommand) : Type 0 where
  -- the commands before `go` and after it
  pub before : List PatchCommand
  pub after : List PatchCommand
  pub script_is : script ≡ before ++ commands.Go ∷ after
  pub patched : is_left_done patches_each unpatches before ≡ true
  pub handled : is_left_done sets_handler removes_handler before ≡ true
  pub logged : is_left_done is_init changes_log before ≡ true
  pub none_unpatched : list_any unpatches after ≡ false
  pub none_removed : list_any removes_handler after ≡ false
  pub log_kept : list_any changes_log after ≡ false
  pub arguments_kept : list_any changes_arg_handler after ≡ false
