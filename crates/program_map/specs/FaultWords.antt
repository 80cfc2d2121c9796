-- The words that a line on err gives for a file that has no sled map: the name of the refusal and its place, with a blank
-- between them.
use Rattle.std.specs.Prelude.{ℕ, List, ◌++◌, Option, Some, codes, decimal}
use Rattle.elf_file.specs.FaultWords.{elf_words}
use Rattle.program_map.specs.declared.fault.ProgramFault.{ProgramFault}
use Rattle.program_map.specs.declared.fault.ProgramFault.TheVariants.{Elf, Map, Version, Kind, Index}

-- a file that isn't read as an ELF file has the words for this; there are none if memory ran out, since nothing is refused then
abbrev pub program_words : ProgramFault → Option (List ℕ)
program_words (Elf fault) = elf_words fault
program_words Map = Some (codes "Map")
program_words (Version place) = Some (codes "Version " ++ decimal place)
program_words (Kind place) = Some (codes "Kind " ++ decimal place)
program_words (Index place) = Some (codes "Index " ++ decimal place)
