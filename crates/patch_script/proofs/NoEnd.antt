-- No micro step of a command is the end.
use Rattle.std.proofs.Common.{◌≡◌, ℕ, ◌<◌, ◌≤◌, List, [], ◌∷◌, ◌++◌, ◌||◌, Bool, true, false, get_or, map, refl, sym, ap, ◌∙◌, inl, inr}
use Rattle.std.specs.Prelude.{unwrap_or, ◌↔◌}
use Rattle.std.specs.List.{list_any, flat_map}
use Rattle.std.proofs.lemmas.Bool.{cases_lt}
use Rattle.std.proofs.lemmas.List.Folds.{list_any-append, list_any_at}
use Rattle.std.proofs.lemmas.Option.{slice_get-get_or, slice_get_past}
use Rattle.xray_image.specs.Program.{Program}
use Rattle.patch_script.specs.declared.command.PatchCommand.{PatchCommand}
use Rattle.patch_script.specs.declared.command.PatchCommand.TheVariants as commands
use Rattle.patch_script.specs.declared.micro.Micro.{Micro}
use Rattle.patch_script.specs.declared.micro.Micro.TheVariants.{Store, Await, End}
use Rattle.patch_script.specs.Micros.{Numbered, all_sleds, sleds_of, patches, numbers, patch_sled, unpatch_sled, steps_of, micros_after, micros, micro_at, total_of}

is_end : Micro → Bool
is_end (Store word value) = false
is_end (Await thread count) = false
is_end End = true

module _ where
  no_patch_end : (program : Program) (sleds : List Numbered) → list_any is_end (flat_map (patch_sled program) sleds) ≡ false
  unfolding is_end
  no_patch_end program [] = refl
  no_patch_end program (s ∷ ss) = list_any-append is_end (patch_sled program s) (flat_map (patch_sled program) ss) ∙ no_patch_end program ss

  no_unpatch_end : (earlier : List ℕ) (sleds : List Numbered) → list_any is_end (map (unpatch_sled earlier) sleds) ≡ false
  unfolding is_end
  no_unpatch_end earlier [] = refl
  no_unpatch_end earlier (s ∷ ss) = no_unpatch_end earlier ss

  no_step_end : (program : Program) (threads : ℕ) (earlier : List ℕ) (command : PatchCommand) → list_any is_end (steps_of program threads earlier command) ≡ false
  unfolding is_end
  no_step_end program threads earlier commands.Patch = no_patch_end program (all_sleds program)
  no_step_end program threads earlier commands.Unpatch = no_unpatch_end earlier (all_sleds program)
  no_step_end program threads earlier (commands.PatchFunction id) = no_patch_end program (sleds_of program id)
  no_step_end program threads earlier (commands.UnpatchFunction id) = no_unpatch_end earlier (sleds_of program id)
  no_step_end program threads earlier command = refl

  no_end : (program : Program) (threads : ℕ) (earlier : List ℕ) (script : List PatchCommand) → list_any is_end (micros_after program threads earlier script) ≡ false
  no_end program threads earlier [] = refl
  no_end program threads earlier (c ∷ cs) =
      list_any-append is_end (steps_of program threads earlier c) (micros_after program threads (earlier ++ numbers (patches program c)) cs)
      ∙ ap (λ b. b || list_any is_end (micros_after program threads (earlier ++ numbers (patches program c)) cs)) (no_step_end program threads earlier c)
      ∙ no_end program threads (earlier ++ numbers (patches program c)) cs

  some_step : (program : Program) (threads : ℕ) (script : List PatchCommand) (place : ℕ) → place < total_of program threads script → micro_at program threads script place ≡ End → ⊥
  unfolding is_end
  some_step program threads script place lt is =
      let steps = micros program threads script in
      let at : micro_at program threads script place ≡ get_or steps place End = ap (λ o. unwrap_or o End) (slice_get-get_or steps place End lt) in
      let found : list_any is_end steps ≡ true = list_any_at is_end steps place End lt (ap is_end (sym at ∙ is)) in
      let not_found : list_any is_end steps ≡ false = no_end program threads [] script in
      cc

pub end_only_past : (program : Program) (threads : ℕ) (script : List PatchCommand) (place : ℕ) (micro : Micro) → micro ≡ micro_at program threads script place → (micro ≡ End) ↔ (total_of program threads script ≤ place)
end_only_past program threads script place micro is = (
  λ end. elim (cases_lt place (total_of program threads script)) [
    | inl lt ↦ absurd (some_step program threads script place lt (sym is ∙ end))
    | inr le ↦ le
  ],
  λ past. is ∙ ap (λ o. unwrap_or o End) (slice_get_past (micros program threads script) place past),
)
