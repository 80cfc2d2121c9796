-- What the words after a command say: file names, and options with their values.
use Rattle.std.specs.Prelude.{ℕ, ◌==◌, List, [], ◌∷◌, Bool, true, false, not, if◌then◌else◌, Option, Some, None, codes, map, String, string_bytes}
use Rattle.std.specs.List.{after_first, before_first, filter_map, list_any}
use Rattle.std.specs.Str.{bytes_eq}
use Rattle.std.specs.declared.alloc.Global.{Global}

-- the bytes of each word
abbrev pub texts : List (String Global) → List (List ℕ)
texts words = map string_bytes words

-- a file name, an option with its value, or an option without one
pub data Item : Type 0 where
  File : (name : List ℕ) → Item
  Given : (option value : List ℕ) → Item
  Bare : (option : List ℕ) → Item

-- a word of two or more characters that begins with - (45) isn't a name
abbrev pub may_name_file : List ℕ → Bool
may_name_file (first ∷ second ∷ rest) = not (first == 45)
may_name_file word = true

-- the character = comes between an option and its value
abbrev pub is_equals : ℕ → Bool
is_equals byte = byte == 61

-- What words say after an option that may want its value. The value is the next word, if that could be a name. After a
-- word -- all words are file names.
abbrev pub items_after : Option (List ℕ) → List (List ℕ) → List Item
items_after None [] = []
items_after (Some option) [] = Bare option ∷ []
items_after (Some option) (value ∷ words) =
    if may_name_file value then Given option value ∷ items_after None words else Bare option ∷ []
items_after None (word ∷ words) =
    if bytes_eq word (codes "--") then map File words
    else if may_name_file word then File word ∷ items_after None words
    else if list_any is_equals word
    then Given (before_first is_equals word) (after_first is_equals word) ∷ items_after None words
    else items_after (Some word) words

-- what the words after a command say, from the first on
abbrev pub items_of : List (List ℕ) → List Item
items_of words = items_after None words

-- the name, if an item is one
abbrev pub file_of : Item → Option (List ℕ)
file_of (File name) = Some name
file_of (Given option value) = None
file_of (Bare option) = None

-- the file names among items
abbrev pub files_of : List Item → List (List ℕ)
files_of items = filter_map file_of items

-- an option of this name is written with two dashes before it
abbrev pub dashed : List ℕ → List ℕ
dashed name = 45 ∷ 45 ∷ name

-- the value that an item gives the option of this name, if it does
abbrev pub value_of : List ℕ → Item → Option (List ℕ)
value_of name (File other) = None
value_of name (Given option value) = if bytes_eq option (dashed name) then Some value else None
value_of name (Bare option) = None

-- the values that items give it
abbrev pub values_of : List ℕ → List Item → List (List ℕ)
values_of name items = filter_map (value_of name) items

-- an item is a file name, or an option of one of these names with a value
abbrev pub is_among_options : List (List ℕ) → Item → Bool
is_among_options names (File name) = true
is_among_options names (Given option value) = list_any (λ name. bytes_eq (dashed name) option) names
is_among_options names (Bare option) = false
