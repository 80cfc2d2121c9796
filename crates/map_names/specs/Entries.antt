-- What a line of a sled map says: the id of a function, and its name.
--
-- A line is `- { id: 1, address: 0x1000, function: 0x1000, kind: function-enter, always-instrument: true, function-name: 'main' }`.
-- The name may be missing. A version may stand before the brace at the end, and the brace may follow the last word directly.
use Rattle.std.specs.Prelude.{ℕ, Bool, true, false, ◌&&◌, ◌||◌, ◌+◌, ◌-◌, ◌==◌, not, nat_le, List, [], ◌∷◌, ◌++◌, length, take, drop, position, codes, Option, Some, None, is_some, option_map, option_and_then, if◌then◌else◌}
use Rattle.std.specs.Option.{option_map_or, option_or}
use Rattle.std.specs.List.{list_all}
use Rattle.std.specs.Str.{bytes_eq}
use Rattle.text_lines.specs.Numbers.{numeral, number_of}
use Rattle.map_names.specs.declared.quote.Quote.{Quote}
use Rattle.map_names.specs.declared.quote.Quote.TheVariants.{Single, Double}

-- an entry, as far as reports need it: the id of a function, and its name, which is empty if the map doesn't have it
pub record NamedFunction : Type 0 where
  pub id : ℕ
  pub name : List ℕ

-- ---- parts of a line

-- what follows a label, if bytes begin with it
unfoldable pub after_label : (label bytes : List ℕ) → Option (List ℕ)
after_label label bytes = if bytes_eq (take (length label) bytes) label then Some (drop (length label) bytes) else None

-- what stands before an ending, if bytes end with it
unfoldable pub before_ending : (ending bytes : List ℕ) → Option (List ℕ)
before_ending ending bytes =
    if bytes_eq (drop (length bytes - length ending) bytes) ending then Some (take (length bytes - length ending) bytes) else None

-- the parts before the first comma (44) and after it
unfoldable pub at_comma : List ℕ → Option (List ℕ × List ℕ)
at_comma bytes = option_map (λ n. (take n bytes, drop (n + 1) bytes)) (position (λ b. b == 44) bytes)

-- a field with this label, if bytes begin with one: its value, which has no comma, and what follows the comma after it
unfoldable pub field_in : (label bytes : List ℕ) → Option (List ℕ × List ℕ)
field_in label bytes = option_and_then at_comma (after_label label bytes)

-- ---- fields

-- the address of a sled or of a function: `0x`, and a number in hexadecimal digits that fits 64 bits
unfoldable pub is_address : List ℕ → Bool
is_address word = option_map_or (λ digits. is_some (numeral 16 digits)) (after_label (codes "0x") word) false

-- the kinds of sleds, as `xray extract` and as LLVM's tool name them
unfoldable pub is_entry : List ℕ → Bool
is_entry word = bytes_eq word (codes "function-enter") || bytes_eq word (codes "function-enter-arg") || bytes_eq word (codes "log-args-enter")

unfoldable pub is_exit : List ℕ → Bool
is_exit word = bytes_eq word (codes "function-exit") || bytes_eq word (codes "tail-exit")

unfoldable pub is_event : List ℕ → Bool
is_event word = bytes_eq word (codes "custom-event") || bytes_eq word (codes "typed-event")

unfoldable pub is_kind : List ℕ → Bool
is_kind word = is_entry word || is_exit word || is_event word

unfoldable pub is_truth : List ℕ → Bool
is_truth word = bytes_eq word (codes "true") || bytes_eq word (codes "false")

-- what follows a field with this label, if its value passes a test
unfoldable pub past_field : (label : List ℕ) → (List ℕ → Bool) → (bytes : List ℕ) → Option (List ℕ)
past_field label test bytes = option_and_then (λ field. if test field.0 then Some field.1 else None) (field_in label bytes)

-- what follows the word that says whether the function is always instrumented
unfoldable pub after_truth : List ℕ → Option (List ℕ)
after_truth bytes = option_or (after_label (codes "true") bytes) (after_label (codes "false") bytes)

-- what follows the fields between the id and the name, if they are as they have to be
unfoldable pub past_fields : List ℕ → Option (List ℕ)
past_fields bytes =
    option_and_then after_truth
    (option_and_then (after_label (codes " always-instrument: "))
    (option_and_then (past_field (codes " kind: ") is_kind)
    (option_and_then (past_field (codes " function: ") is_address)
    (past_field (codes " address: ") is_address bytes))))

-- what stands before the brace at the end of a line, and before the blank that may stand before the brace
unfoldable pub before_brace : List ℕ → Option (List ℕ)
before_brace bytes = option_or (before_ending (codes " }") bytes) (before_ending (codes "}") bytes)

-- what stands before the version (0 to 2), if there is one
unfoldable pub before_version : List ℕ → Option (List ℕ)
before_version bytes =
    option_or (before_ending (codes ", version: 2") bytes)
    (option_or (before_ending (codes ", version: 1") bytes)
    (option_or (before_ending (codes ", version: 0") bytes)
    (Some bytes)))

-- what stands before the end of a line: before the brace, and the version, if there is one
unfoldable pub before_line_end : List ℕ → Option (List ℕ)
before_line_end bytes = option_and_then before_version (before_brace bytes)

-- ---- names

-- a byte that may stand in a name without quotation marks: a letter, a digit, one of _ - ^ . and the comma, a space or a tab
unfoldable pub is_plain_byte : ℕ → Bool
is_plain_byte b =
    (nat_le 97 b && nat_le b 122) || (nat_le 65 b && nat_le b 90) || (nat_le 48 b && nat_le b 57) || b == 95 || b == 45 || b == 94
    || b == 46 || b == 44 || b == 32 || b == 9

-- a name without quotation marks
unfoldable pub unquoted_name : List ℕ → Option (List ℕ)
unquoted_name bytes = if not (length bytes == 0) && list_all is_plain_byte bytes then Some bytes else None

-- the byte of a quotation mark
abbrev pub mark_of : Quote → ℕ
mark_of Single = 39
mark_of Double = 34

-- what stands between two quotation marks, if bytes begin and end with one
unfoldable pub between : Quote → List ℕ → Option (List ℕ)
between quote bytes = option_and_then (before_ending (mark_of quote ∷ [])) (after_label (mark_of quote ∷ []) bytes)

-- What a byte between quotation marks adds to the name, and whether the next byte belongs to it. The second argument says
-- whether this byte belongs to the one before it.
--
-- Between single marks, a mark is doubled. Between double marks, a backslash (92) stands before a mark and before a
-- backslash. LLVM's tool has other escapes, for characters that can't be printed: they stay as they are written.
unfoldable pub quoted_byte : Quote → Bool → ℕ → Option (List ℕ × Bool)
quoted_byte Single false b = Some (if b == 39 then ([], true) else (b ∷ [], false))
quoted_byte Single true b = if b == 39 then Some (b ∷ [], false) else None
quoted_byte Double false b = if b == 34 then None else Some (if b == 92 then ([], true) else (b ∷ [], false))
quoted_byte Double true b = Some (if b == 34 || b == 92 then (b ∷ [], false) else (92 ∷ b ∷ [], false))

-- the name that bytes between quotation marks say, if the first of them belongs to the byte before it, or if it doesn't
unfoldable pub quoted_from : Quote → List ℕ → Bool → Option (List ℕ)
quoted_from quote [] belongs = if belongs then None else Some []
quoted_from quote (b ∷ bytes) belongs =
    option_and_then (λ one. option_map (λ more. one.0 ++ more) (quoted_from quote bytes one.1)) (quoted_byte quote belongs b)

-- the name that bytes between quotation marks say
abbrev pub quoted_name : Quote → List ℕ → Option (List ℕ)
quoted_name quote bytes = quoted_from quote bytes false

-- the name that is written so: between single or double quotation marks, or without any
unfoldable pub name_spelled : List ℕ → Option (List ℕ)
name_spelled bytes =
    option_map_or (quoted_name Single) (between Single bytes)
    (option_map_or (quoted_name Double) (between Double bytes)
    (unquoted_name bytes))

-- ---- lines

-- the id of a line, and what follows its field
unfoldable pub id_in : List ℕ → Option (ℕ × List ℕ)
id_in line = option_and_then (λ field. option_map (λ id. (id, field.1)) (number_of field.0)) (field_in (codes "- { id: ") line)

-- no name, where nothing is left of a line before its end
unfoldable pub no_name : List ℕ → Option (List ℕ)
no_name bytes = if length bytes == 0 then Some [] else None

-- the name that the rest of a line says, behind the other fields: none, or the one that is written there
unfoldable pub name_said : List ℕ → Option (List ℕ)
name_said bytes =
    option_map_or (λ written. option_and_then name_spelled (before_line_end written)) (after_label (codes ", function-name: ") bytes)
    (option_and_then no_name (before_line_end bytes))

-- the entry that a line says
unfoldable pub entry_said : List ℕ → Option NamedFunction
entry_said line =
    option_and_then (λ start. option_map (λ name. record { id = start.0; name = name }) (option_and_then name_said (past_fields start.1)))
    (id_in line)
