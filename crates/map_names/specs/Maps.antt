-- Sled maps as texts: the entries that their lines say, or the first line that refuses the text.
use Rattle.std.specs.Prelude.{ℕ, ◌+◌, ◌==◌, ◌&&◌, not, Bool, false, List, [], ◌∷◌, ◌++◌, length, codes, Result, Ok, Err, find, position, slice_index_or, option_map}
use Rattle.std.specs.Option.{option_map_or}
use Rattle.std.specs.Str.{bytes_eq}
use Rattle.std.specs.Str.Lines.{lines}
use Rattle.xray_io.specs.Rows.{First, NeedsPart, InTurn, ◌>>=◌}
use Rattle.text_lines.specs.Lines.{numbered_lines}
use Rattle.text_lines.specs.Words.{is_blank}
use Rattle.map_names.specs.declared.fault.MapFault.{MapFault}
use Rattle.map_names.specs.declared.fault.MapFault.TheVariants.{Syntax}
use Rattle.map_names.specs.Entries.{NamedFunction, entry_said}
use Rattle.map_names.specs.Naming.{Naming}

-- what came before a line: nothing; `---` and these entries; or these entries and `...`
pub data Before : Type 0 where
  Start : Before
  Listed : List NamedFunction → Before
  Whole : List NamedFunction → Before

-- the line is a comment: its first byte that is no blank is `#` (35)
abbrev pub is_comment : List ℕ → Bool
is_comment line = option_map_or (λ n. slice_index_or line n 0 == 35) (position (λ b. not (is_blank b)) line) false

-- the line is this text
abbrev pub is_line : (text line : List ℕ) → Bool
is_line text line = bytes_eq line text

-- what came before the line after this one, which is no comment
abbrev pub said_line_rows : Before → ℕ × List ℕ → Result Before MapFault
said_line_rows Start (number, line) = First (not (is_line (codes "---") line)) (Err (Syntax number)) (Ok (Listed []))
said_line_rows (Listed entries) (number, line) =
    First (is_line (codes "...") line) (Ok (Whole entries))
    (NeedsPart (entry_said line) (Err (Syntax number)) λ entry. Ok (Listed (entries ++ entry ∷ [])))
said_line_rows (Whole entries) (number, line) = Err (Syntax number)

-- what came before the line after this one; a comment says nothing
abbrev pub map_line_rows : Before → ℕ × List ℕ → Result Before MapFault
map_line_rows before (number, line) = First (is_comment line) (Ok before) (said_line_rows before (number, line))

-- what is missing at the end of the text is refused with the number after the last line
abbrev pub map_ended : ℕ → Before → Result (List NamedFunction) MapFault
map_ended number Start = Err (Syntax number)
map_ended number (Listed entries) = Err (Syntax number)
map_ended number (Whole entries) = Ok entries

-- the entries of a sled map, or the refusal of the first line that isn't as it has to be
abbrev pub map_of : List ℕ → Result (List NamedFunction) MapFault
map_of text = InTurn map_line_rows Start (numbered_lines text) >>= map_ended (length (lines text) + 1)

-- ---- names

-- the entry is for an id, and has a name
abbrev pub names_id : ℕ → NamedFunction → Bool
names_id id entry = entry.id == id && not (length entry.name == 0)

-- the names that entries give: an id has that of the first entry that has one for it
abbrev pub naming_of : List NamedFunction → Naming
naming_of entries = record { name = λ id. option_map (λ entry. entry.name) (find (names_id id) entries) }

-- the names of a sled map, or its refusal
abbrev pub map_naming : List ℕ → Result Naming MapFault
map_naming text = map_of text >>= λ entries. Ok (naming_of entries)
