-- The parts of lines, for the contracts of private functions.
use Rattle.std.specs.Prelude.{◌≡◌, ℕ, true, List, decimal}
use Rattle.std.specs.Fmt.{digits}
use Rattle.std.specs.List.{flat_map}
use Rattle.map_names.specs.Spelling.{single_byte}
use Rattle.program_map.specs.declared.facts.FactLine.{FactLine}
use Rattle.elf_file.specs.Symbols.{SymbolNames}
use Rattle.program_map.specs.declared.line.KnownName.{KnownName}
use Rattle.program_map.specs.declared.line.LinePart.{LinePart}
use Rattle.program_map.specs.declared.line.LinePart.TheVariants.{Plain, Decimal, Address, Quoted}
use Rattle.program_map.specs.MapText.{line_name_at, map_fact_line}

abbrev pub fact_text : FactLine → List ℕ
fact_text line = map_fact_line line.0 line.1.now

-- the text of a part
abbrev pub part_text : LinePart → List ℕ
part_text (Plain bytes) = bytes.now
part_text (Decimal n) = decimal n
part_text (Address n) = digits 16 true n
part_text (Quoted name) = flat_map single_byte name.now

-- the name is that of the function, as a line has it
pub record IsKnownName (names : SymbolNames) (known : KnownName) : Type 0 where
  pub same : known.name.now ≡ line_name_at names known.function
