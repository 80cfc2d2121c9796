-- The waits of a script, and its places without them.
use Rattle.std.specs.Prelude.{◌≡◌, ◌<◌, ◌+◌, ◌-◌, ◌∷◌, ℕ, List, [], count_by, if◌then◌else◌, length, nat_lt}
use Rattle.xray_image.specs.Program.{Program}
use Rattle.sled_words.specs.declared.part.Part.TheVariants.{Id}
use Rattle.sled_words.specs.Words.{word_of}
use Rattle.patch_script.specs.declared.command.PatchCommand.{PatchCommand}
use Rattle.patch_script.specs.declared.micro.Micro.{Micro}
use Rattle.patch_script.specs.declared.micro.Micro.TheVariants.{Store}
use Rattle.patch_script.specs.Micros.{micros}
use Rattle.run_order.specs.FreeScripts.{is_free}

-- the places of the micro steps that a script without waits doesn't make, numbered from a place on
abbrev pub waits_from : Program → (threads : ℕ) → (place : ℕ) → List Micro → List ℕ
waits_from program threads place [] = []
waits_from program threads place (step ∷ steps) =
    if is_free program threads step then waits_from program threads (place + 1) steps else place ∷ waits_from program threads (place + 1) steps

abbrev pub waits_of : Program → (threads : ℕ) → List PatchCommand → List ℕ
waits_of program threads script = waits_from program threads 0 (micros program threads script)

-- they are those of some script
pub record AreWaits (waits : List ℕ) : Type 0 where
  pub program : Program
  pub threads : ℕ
  pub script : List PatchCommand
  pub are : waits ≡ waits_of program threads script

-- a place, counted without the waits before it
abbrev pub freed : List ℕ → ℕ → ℕ
freed waits place = place - count_by (λ wait. nat_lt wait place) waits

-- the store of a sled's id, with which its patching begins
pub record BeginsPatch (program : Program) (step : Micro) : Type 0 where
  pub sled : ℕ
  pub value : ℕ
  pub within : sled < length program.sleds
  pub is : step ≡ Store (word_of sled Id) value
