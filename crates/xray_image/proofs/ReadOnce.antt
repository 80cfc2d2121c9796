-- What follows for a result that is what a file reads as, or out of memory.
use Rattle.std.proofs.Common.{◌≡◌, ℕ, List, Ok, Err, inl, inr}
use Rattle.std.specs.Prelude.{◌⊎◌, ◌↔◌, IfOk}
use Rattle.xray_image.specs.declared.fault.ImageFault.TheVariants.{NoMemory}
use Rattle.xray_image.specs.Program.{Program, IsAccepted}
use Rattle.xray_image.specs.Table.{ImageReading, ReadsAs}

-- an answer to bytes
abbrev pub IsAnswer : List ℕ → ImageReading → Type 0
IsAnswer bytes answer = ◌⊎◌ (◌≡◌ {A = ImageReading} answer (Err NoMemory)) (ReadsAs bytes answer)

pub exactly : ((bytes : List ℕ) (v w : ImageReading) → ReadsAs bytes v → ReadsAs bytes w → v ≡ w) → (bytes : List ℕ) (answer verdict : ImageReading) → IsAnswer bytes answer → ReadsAs bytes verdict
    → ◌⊎◌ (◌≡◌ {A = ImageReading} answer verdict) (◌≡◌ {A = ImageReading} answer (Err NoMemory))
exactly one bytes answer verdict (inl full) reads = inr full
exactly one bytes answer verdict (inr is) reads = inl (one bytes answer verdict is reads)

no_memory : (program : Program) → ◌≡◌ {A = ImageReading} (Ok program) (Err NoMemory) → ⊥
no_memory program e = absurd cc

pub accepts : ((bytes : List ℕ) (program : Program) → IsAccepted bytes program ↔ ReadsAs bytes (Ok program)) → (bytes : List ℕ) (answer : ImageReading) → IsAnswer bytes answer → IfOk answer (IsAccepted bytes)
accepts accepted bytes (Ok program) (inl full) = absurd (no_memory program full)
accepts accepted bytes (Ok program) (inr is) = (accepted bytes program).1 is
accepts accepted bytes (Err fault) is = tt
