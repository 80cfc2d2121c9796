-- What values in memory hold, for the contracts of private functions.
use Rattle.elf_file.specs.Views.{settings_held}
use Rattle.program_map.specs.declared.parts.ProgramParts.{ProgramParts}
use Rattle.program_map.specs.Parts.{MapParts}

abbrev pub parts_held : ProgramParts → MapParts
parts_held parts = record {
  sections = parts.sections.items;
  names = parts.names.now;
  section = parts.section;
  table = parts.table.now;
  settings = settings_held parts.addends;
}
