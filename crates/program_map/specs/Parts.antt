-- The parts of a program that say its sleds.
use Rattle.std.specs.Prelude.{ℕ, ◌%◌, ◌==◌, ◌++◌, ◌∷◌, not, List, [], length, codes, Result, Ok, Err}
use Rattle.xray_io.specs.Rows.{First, NeedsPart, ◌>>=◌}
use Rattle.elf_file.specs.declared.fault.ElfFault.TheVariants.{Entries}
use Rattle.elf_file.specs.declared.section.Section.{Section}
use Rattle.elf_file.specs.Addends.{Settings, settings_of}
use Rattle.elf_file.specs.Sections.{section_content, section_named, section_names_of, sections_of}
use Rattle.program_map.specs.declared.fault.ProgramFault.{ProgramFault}
use Rattle.program_map.specs.declared.fault.ProgramFault.TheVariants.{Elf, Map}
use Rattle.program_map.specs.Readings.{of_elf}

-- the sections of the file and their names, the section that has the sled map, its bytes, and the words that relocations set
pub record MapParts : Type 0 where
  pub sections : List Section
  pub names : List ℕ
  pub section : Section
  pub table : List ℕ
  pub settings : Settings

-- the bytes of the sled map are whole entries, of 32 bytes
abbrev pub map_table : List ℕ → Section → Result (List ℕ) ProgramFault
map_table file section =
    of_elf (section_content file section) >>= λ table.
    First (not (length table % 32 == 0)) (Err (Elf (Entries section.header))) (Ok table)

-- the parts of a file with these sections, or the first refusal
abbrev pub parts_in : List ℕ → List Section → (names : List ℕ) → Result MapParts ProgramFault
parts_in file sections names =
    NeedsPart (section_named names sections (codes "xray_instr_map" ++ 0 ∷ [])) (Err Map) λ section.
    map_table file section >>= λ table.
    of_elf (settings_of file names sections) >>= λ settings.
    Ok (record { sections = sections; names = names; section = section; table = table; settings = settings })

-- the parts of a file, or the first refusal
abbrev pub map_parts : List ℕ → Result MapParts ProgramFault
map_parts file =
    of_elf (sections_of file) >>= λ sections.
    of_elf (section_names_of file sections) >>= λ names.
    parts_in file sections names
