-- What a reading returns.
use Rattle.std.specs.Prelude.{◌≡◌, ◌⊎◌, Result, Ok, Err}
use Rattle.elf_file.specs.declared.fault.ElfFault.{ElfFault}
use Rattle.elf_file.specs.declared.fault.ElfFault.TheVariants.{NoMemory}

-- what is said, as a value that is read as this, or the refusal; or memory ran out
abbrev pub IsElfReading : {X Y : Type 0} → (Y → X) → Result X ElfFault → Result Y ElfFault → Type 0
IsElfReading view said (Ok y) = said ≡ Ok (view y)
IsElfReading view said (Err fault) = (fault ≡ NoMemory) ⊎ (said ≡ Err fault)
