-- Worked examples: commands that switch something on before `go`.
use Rattle.std.proofs.Common.{◌≡◌, List, [], ◌∷◌, ◌++◌, false, refl}
use Rattle.patch_script.specs.declared.command.PatchCommand.{PatchCommand}
use Rattle.patch_script.specs.declared.command.PatchCommand.TheVariants as commands
use Rattle.patch_script.specs.Refusals.{is_init}
use Rattle.traced_run.specs.RecordingScripts.{RecordsFromGo, changes_log, is_left_done, patches_each, unpatches}

-- all is set before `go`; that one function is unpatched before all are patched changes nothing
before : List PatchCommand
before = commands.SetHandler ∷ commands.UnpatchFunction 2 ∷ commands.Patch ∷ commands.Init ∷ commands.Hold 1 3 ∷ []

after : List PatchCommand
after = commands.Release 1 ∷ commands.Patch ∷ []

usual : RecordsFromGo (before ++ commands.Go ∷ after)
unfolding before after
usual = record {
  before = before;
  after = after;
  script_is = refl;
  patched = refl;
  handled = refl;
  logged = refl;
  none_unpatched = refl;
  none_removed = refl;
  log_kept = refl;
  arguments_kept = refl;
}

-- what a later command undoes isn't left
undone : is_left_done patches_each unpatches (commands.Patch ∷ commands.UnpatchFunction 1 ∷ []) ≡ false
undone = refl

-- nor is a log that is finalized
finalized : is_left_done is_init changes_log (commands.Init ∷ commands.Finalize ∷ []) ≡ false
finalized = refl

-- one function alone isn't all of them
some_patched : is_left_done patches_each unpatches (commands.PatchFunction 1 ∷ []) ≡ false
some_patched = refl
