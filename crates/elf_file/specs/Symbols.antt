-- The names of functions in an ELF file.
use Rattle.std.specs.Prelude.{ℕ, ◌+◌, ◌*◌, ◌/◌, ◌%◌, ◌==◌, ◌&&◌, ◌||◌, ◌++◌, not, nat_lt, Bool, List, [], ◌∷◌, length, take, drop, position, slice_get, Option, Some, None, Result, Ok, Err, if◌then◌else◌}
use Rattle.std.specs.List.{filter, range_with_len}
use Rattle.std.specs.Option.{option_map_or, option_or}
use Rattle.xray_io.specs.Rows.{First, InTurn, NeedsPart, ◌>>=◌}
use Rattle.elf_file.specs.declared.fault.ElfFault.{ElfFault}
use Rattle.elf_file.specs.declared.fault.ElfFault.TheVariants as faults
use Rattle.elf_file.specs.declared.section.Section.{Section}
use Rattle.elf_file.specs.declared.symbol.Symbol.{Symbol}
use Rattle.elf_file.specs.Numbers.{number_at}
use Rattle.elf_file.specs.Sections.{section_content, section_typed}

-- ---- a symbol of 24 bytes at a place of its table (`Elf64_Sym`)

-- It lies in a section, by the number that it has for this: 0 means none, and numbers from 0xFF00 on have other meanings, but 0xFFFF
-- means that the number stands elsewhere.
abbrev pub has_section : ℕ → Bool
has_section number = not (number == 0) && (nat_lt number 0xFF00 || number == 0xFFFF)

-- it is a function (type 2, in the lower half of the byte at 4), with a section and a size
unfoldable pub is_function_at : List ℕ → ℕ → Bool
is_function_at table place =
    (number_at 1 table (place + 4) % 16 == 2) && has_section (number_at 2 table (place + 6)) && not (number_at 8 table (place + 16) == 0)

-- how a symbol is bound, in the upper half of that byte: global (1) goes before weak (2), and weak before all others
abbrev pub rank_of : ℕ → ℕ
rank_of binding = if binding == 1 then 2 else (if binding == 2 then 1 else 0)

-- where its name begins in the table of names
abbrev pub name_begin : List ℕ → ℕ → ℕ
name_begin table place = number_at 4 table place

-- how many bytes a name has, which ends at a zero of the table
unfoldable pub name_length : (names : List ℕ) → (begin : ℕ) → Option ℕ
name_length names begin = position (λ b. b == 0) (drop begin names)

-- a symbol whose name has so many bytes
abbrev pub symbol_at : List ℕ → ℕ → (size : ℕ) → Symbol
symbol_at table place size = record {
  address = number_at 8 table (place + 8);
  rank = rank_of (number_at 1 table (place + 4) / 16);
  begin = name_begin table place;
  size = size;
}

-- ---- the symbols of functions

-- the symbol of this number is a function, and is put behind those before it, or isn't one, or its name doesn't end
unfoldable pub symbol_rows : (offset : ℕ) → (table names : List ℕ) → List Symbol → ℕ → Result (List Symbol) ElfFault
symbol_rows offset table names before number =
    First (not (is_function_at table (24 * number))) (Ok before)
    (NeedsPart (name_length names (name_begin table (24 * number))) (Err (faults.Name (offset + 24 * number))) λ size.
    Ok (before ++ symbol_at table (24 * number) size ∷ []))

-- the symbols of all functions in a table that is at an offset of the file
abbrev pub symbols_in : (offset : ℕ) → (table names : List ℕ) → Result (List Symbol) ElfFault
symbols_in offset table names = InTurn (symbol_rows offset table names) [] (range_with_len 0 (length table / 24))

-- ---- the name of a function

-- one symbol names a function better than another: it is more widely bound, or as widely and its name is longer
abbrev pub is_better : Symbol → Symbol → Bool
is_better one other = nat_lt other.rank one.rank || (one.rank == other.rank && nat_lt other.size one.size)

-- the first of some symbols that none of the others is better than
abbrev pub best : List Symbol → Option Symbol
best [] = None
best (symbol ∷ symbols) = Some (option_map_or (λ later. if is_better later symbol then later else symbol) (best symbols) symbol)

-- the symbol that names the function at an address
abbrev pub best_at : List Symbol → ℕ → Option Symbol
best_at symbols address = best (filter (λ symbol. symbol.address == address) symbols)

-- what symbols name functions, and the table of their names
pub record SymbolNames : Type 0 where
  pub symbol : ℕ → Option Symbol
  pub names : List ℕ

-- the name of the function at an address; it is empty if no symbol names one
abbrev pub function_name_at : SymbolNames → ℕ → List ℕ
function_name_at all address = option_map_or (λ symbol. take symbol.size (drop symbol.begin all.names)) (all.symbol address) []

-- ---- the names of a file

-- the table of symbols (type 2, `SHT_SYMTAB`), or else that of the dynamic symbols (type 11, `SHT_DYNSYM`)
abbrev pub symbol_section : List Section → Option Section
symbol_section sections = option_or (section_typed 2 sections) (section_typed 11 sections)

-- the names that a table of symbols gives, or its refusal
abbrev pub table_names : List ℕ → List Section → Section → Result SymbolNames ElfFault
table_names file sections section =
    section_content file section >>= λ table.
    First (not (length table % 24 == 0)) (Err (faults.Entries section.header))
    (NeedsPart (slice_get sections section.link) (Err (faults.Link section.header)) λ strings.
    section_content file strings >>= λ names.
    symbols_in section.offset table names >>= λ symbols.
    Ok (record { symbol = best_at symbols; names = names }))

-- the names of functions, or the first refusal; a file without symbols has none
abbrev pub elf_names : List ℕ → List Section → Result SymbolNames ElfFault
elf_names file sections =
    NeedsPart (symbol_section sections) (Ok (record { symbol = λ address. None; names = [] })) (table_names file sections)
