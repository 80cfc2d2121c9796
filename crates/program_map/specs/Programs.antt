-- The sled map of a program: its sleds with ids, and the names of its functions.
use Rattle.std.specs.Prelude.{ℕ, List, Result, Ok}
use Rattle.xray_io.specs.Rows.{◌>>=◌}
use Rattle.elf_file.specs.Symbols.{SymbolNames, elf_names}
use Rattle.program_map.specs.declared.fault.ProgramFault.{ProgramFault}
use Rattle.program_map.specs.declared.program.ProgramMap.{ProgramMap}
use Rattle.program_map.specs.Numbering.{Numbering, numbering_of}
use Rattle.program_map.specs.Parts.{map_parts}
use Rattle.program_map.specs.Readings.{of_elf}
use Rattle.program_map.specs.Sleds.{map_sleds}
use Rattle.elf_file.specs.Views.{names_held}

-- sleds with their ids, and the names of functions
pub record MappedProgram : Type 0 where
  pub numbering : Numbering
  pub names : SymbolNames

-- the sled map of a file, or the first refusal
abbrev pub program_of_elf : List ℕ → Result MappedProgram ProgramFault
program_of_elf file =
    map_parts file >>= λ parts.
    map_sleds parts.settings parts.section parts.table >>= λ sleds.
    numbering_of file parts sleds >>= λ numbering.
    of_elf (elf_names file parts.sections) >>= λ names.
    Ok (record { numbering = numbering; names = names })

-- what a ProgramMap holds
abbrev pub program_held : ProgramMap → MappedProgram
program_held map = record {
  numbering = record { sleds = map.sleds.items; functions = map.functions; left_out = map.left_out };
  names = names_held map.names;
}
