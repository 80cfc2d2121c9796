-- A script for its own image and number of threads.
use Rattle.std.proofs.Common.{◌≡◌, ◌<◌, ℕ, List, ap, subst, ◌∙◌}
use Rattle.xray_image.specs.Program.{Program}
use Rattle.patch_script.specs.declared.command.PatchCommand.{PatchCommand}
use Rattle.patch_script.specs.declared.micro.Micro.{Micro}
use Rattle.patch_script.specs.Micros.{micro_at, total_of}

module _ (program own : Program) (number owns : ℕ) (script : List PatchCommand) (same : own ≡ program) (equal : owns ≡ number) where
  -- a place of it
  pub own_place : (of : Program → ℕ → List PatchCommand → ℕ) (place : ℕ) → place ≡ of own owns script → place ≡ of program number script
  own_place of place is = is ∙ ap (λ (p : Program). of p owns script) same ∙ ap (λ n. of program n script) equal

  -- the micro step at a place of it
  pub own_micro : (place : ℕ) (micro : Micro) → micro ≡ micro_at own owns script place → micro ≡ micro_at program number script place
  own_micro place micro is = is ∙ ap (λ (p : Program). micro_at p owns script place) same ∙ ap (λ n. micro_at program n script place) equal

  -- a place before its end
  pub own_within : (place total : ℕ) → total ≡ total_of own owns script → place < total → place < total_of program number script
  own_within place total is low = subst (λ n. place < n) (own_place total_of total is) low
