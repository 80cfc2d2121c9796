-- The first commands that patch sleds.
use Rattle.std.specs.Prelude.{◌≡◌, ◌<◌, ◌≤◌, ℕ, zero, suc, Bool, true, false, ◌==◌, nat_lt, List, [], ◌∷◌, length, slice_get, option_map, option_and_then, Option, Some, None, if◌then◌else◌}
use Rattle.std.specs.Option.{option_or}
use Rattle.patch_script.specs.declared.command.PatchCommand.{PatchCommand}
use Rattle.patch_script.specs.declared.command.PatchCommand.TheVariants as commands
use Rattle.patch_script.specs.declared.first_patches.FirstPatches.{FirstPatches}

-- `patch`
abbrev pub patches_all : PatchCommand → Bool
patches_all commands.Patch = true
patches_all _ = false

-- `patch_function` for a function
abbrev pub patches_function : ℕ → PatchCommand → Bool
patches_function id (commands.PatchFunction patched) = patched == id
patches_function id _ = false

-- the table's value for an id, which counts from 1
abbrev pub first_in : List (Option ℕ) → ℕ → Option ℕ
first_in table zero = None
first_in table (suc n) = option_and_then (λ first. first) (slice_get table n)

-- the number, counted from 0, of the first command that passes a test
abbrev pub first_number : (PatchCommand → Bool) → List PatchCommand → Option ℕ
first_number test [] = None
first_number test (command ∷ following) = if test command then Some 0 else option_map suc (first_number test following)

-- the tables hold the numbers of the first commands that patch all sleds, and of those that patch a function
pub record AreFirst (ids : ℕ) (script : List PatchCommand) (first : FirstPatches) : Type 0 where
  pub room : length first.by_id.items ≡ ids
  pub all : first.all ≡ first_number patches_all script
  pub by_id : (id : ℕ) → first_in first.by_id.items id ≡ first_number (patches_function id) script

-- a known number, or else the number of a command that passes
abbrev pub or_number : Option ℕ → Bool → ℕ → Option ℕ
or_number first passes number = option_or first (if passes then Some number else None)

-- the new tables are the old ones with one more command
pub record AddsFirst (old : FirstPatches) (command : PatchCommand) (number : ℕ) (new : FirstPatches) : Type 0 where
  pub room : length new.by_id.items ≡ length old.by_id.items
  pub all : new.all ≡ or_number old.all (patches_all command) number
  pub by_id : (id : ℕ) → first_in new.by_id.items id ≡ or_number (first_in old.by_id.items id) (patches_function id command) number

-- the table has a place for the function that the command patches
abbrev pub HasRoom : PatchCommand → FirstPatches → Type 0
HasRoom (commands.PatchFunction id) first = (0 < id) × (id ≤ length first.by_id.items)
HasRoom commands.Patch first = Unit {0}
HasRoom commands.Unpatch first = Unit {0}
HasRoom (commands.UnpatchFunction id) first = Unit {0}
HasRoom commands.SetHandler first = Unit {0}
HasRoom commands.RemoveHandler first = Unit {0}
HasRoom commands.SetArgHandler first = Unit {0}
HasRoom commands.RemoveArgHandler first = Unit {0}
HasRoom commands.Init first = Unit {0}
HasRoom commands.Finalize first = Unit {0}
HasRoom (commands.Hold thread passing) first = Unit {0}
HasRoom commands.Go first = Unit {0}
HasRoom (commands.Release thread) first = Unit {0}
HasRoom (commands.Await thread count) first = Unit {0}

-- a command comes before the one with this number
abbrev pub is_before : Option ℕ → ℕ → Bool
is_before (Some first) number = nat_lt first number
is_before None number = false
