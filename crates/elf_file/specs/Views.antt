-- What tables in memory say.
use Rattle.std.specs.Prelude.{nat_eq}
use Rattle.std.specs.HashMap.{get}
use Rattle.elf_file.specs.declared.addends.Addends.{Addends}
use Rattle.elf_file.specs.declared.symbols.FunctionNames.{FunctionNames}
use Rattle.elf_file.specs.Addends.{Settings}
use Rattle.elf_file.specs.Symbols.{SymbolNames}

-- the names that a FunctionNames has
abbrev pub names_held : FunctionNames → SymbolNames
names_held held = record { symbol = λ address. get nat_eq held.best address; names = held.names.items }

-- the words that an Addends has
abbrev pub settings_held : Addends → Settings
settings_held held = record { word = λ address. get nat_eq held.words address }
