-- What rows and their values have to keep to.
use Rattle.std.specs.Prelude.{◌≡◌, ◌<◌, ◌≤◌, ℕ, ◌&&◌, List, [], ◌∷◌, ◌++◌, length, Bool, true, false, not, map, nat_le, nat_lt}
use Rattle.std.specs.List.{list_any}
use Rattle.std.specs.Option.{option_map_or}
use Rattle.std.specs.Str.{bytes_eq}
use Rattle.command_words.specs.Numbers.{Values, Number, OneOf, Listed, FileName, has_number}
use Rattle.command_words.specs.Rows.{CommandRow, OptionRow, option_names}

-- a value may stand for this number
abbrev pub IsAmongValues : Values → ℕ → Type 0
IsAmongValues (Number least most) number = (least ≤ number) × (number ≤ most)
IsAmongValues (OneOf numbers) number = has_number numbers number ≡ true
IsAmongValues (Listed words) number = number < length words
IsAmongValues FileName number = ⊥

-- the same, as a test
abbrev pub is_among_values : Values → ℕ → Bool
is_among_values (Number least most) number = nat_le least number && nat_le number most
is_among_values (OneOf numbers) number = has_number numbers number
is_among_values (Listed words) number = nat_lt number (length words)
is_among_values FileName number = false

-- a number that is used if the option isn't given is one that a value may stand for
abbrev pub has_default_in_range : OptionRow → Bool
has_default_in_range option = option_map_or (is_among_values option.values) option.default true

-- the names of a command's files in the command line
abbrev pub labels_of : CommandRow → List (List ℕ)
labels_of row = map (λ file. file.label) row.files

-- no two texts are equal
abbrev pub are_distinct : List (List ℕ) → Bool
are_distinct [] = true
are_distinct (text ∷ texts) = not (list_any (bytes_eq text) texts) && are_distinct texts

-- A row that commands may have. All that it names have different names, and there are few files.
abbrev pub is_row : CommandRow → Bool
is_row row = are_distinct (labels_of row ++ option_names row) && nat_lt (length row.files) 100
