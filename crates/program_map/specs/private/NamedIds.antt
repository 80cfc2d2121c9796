-- Functions with names that are counted one by one, for the contracts of private functions.
use Rattle.std.specs.Prelude.{◌≡◌, List, None}
use Rattle.std.specs.List.{last_or}
use Rattle.elf_file.specs.Symbols.{SymbolNames}
use Rattle.program_map.specs.declared.facts.Named.{Named}
use Rattle.program_map.specs.declared.numbering.NumberedSled.{NumberedSled}
use Rattle.program_map.specs.MapText.{named_ids, functions_named}

-- the functions of these sleds were counted
pub record IsNamed (names : SymbolNames) (sleds : List NumberedSled) (named : Named) : Type 0 where
  pub functions : named.functions ≡ functions_named names sleds
  pub last : named.last ≡ last_or None (named_ids names sleds)
