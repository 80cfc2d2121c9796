-- What a table of names says.
use Rattle.std.specs.Prelude.{ℕ, List, Option}
use Rattle.std.specs.HashMap.{get_by}
use Rattle.std.specs.Str.{bytes_eq}
use Rattle.asm_text.specs.declared.name_table.NameTable.{NameTable}

-- the line that defines a name
abbrev pub line_named : NameTable → List ℕ → Option ℕ
line_named table name = get_by (λ key. bytes_eq name key.now) table.lines
