-- What a reading returns.
use Rattle.std.specs.Prelude.{◌≡◌, ◌⊎◌, Result, Ok, Err}
use Rattle.elf_file.specs.declared.fault.ElfFault.{ElfFault}
use Rattle.elf_file.specs.declared.fault.ElfFault.TheVariants.{NoMemory}
use Rattle.program_map.specs.declared.fault.ProgramFault.{ProgramFault}
use Rattle.program_map.specs.declared.fault.ProgramFault.TheVariants.{Elf}

-- what is said, as a value that is read as this, or the refusal; or memory ran out
abbrev pub IsProgramReading : {X Y : Type 0} → (Y → X) → Result X ProgramFault → Result Y ProgramFault → Type 0
IsProgramReading view said (Ok y) = said ≡ Ok (view y)
IsProgramReading view said (Err fault) = (fault ≡ Elf NoMemory) ⊎ (said ≡ Err fault)

-- what is said of an ELF file, for a program
abbrev pub of_elf : {X : Type 0} → Result X ElfFault → Result X ProgramFault
of_elf (Ok x) = Ok x
of_elf (Err fault) = Err (Elf fault)
