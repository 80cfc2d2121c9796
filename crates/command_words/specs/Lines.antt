-- What the words after a command say, by its row: its files, and the options that they give, each with its value.
use Rattle.std.specs.Prelude.{ℕ, ◌==◌, ◌&&◌, ◌||◌, List, [], ◌∷◌, length, Bool, false, not, if◌then◌else◌, Option, Some, None, count_by, find, is_some, nat_le, option_map, slice_get, take}
use Rattle.std.specs.List.{filter_map, list_all, list_any}
use Rattle.std.specs.Option.{option_map_or}
use Rattle.std.specs.Str.{bytes_eq}
use Rattle.command_words.specs.Items.{Item, files_of, is_among_options, values_of}
use Rattle.command_words.specs.Numbers.{number_meant}
use Rattle.command_words.specs.Rows.{Beside, CommandRow, FileRow, NeverWith, OnlyWith, OptionRow, is_optional, is_output, option_names}

-- The names of the files in order. The options that are given, in the order of the command's row: each name with its
-- value.
pub record Line : Type 0 where
  pub files : List (List ℕ)
  pub given : List (List ℕ × List ℕ)

-- ---- which words are a line

-- each item is a file name, or an option of one of these names with its value
abbrev pub have_only : List (List ℕ) → List Item → Bool
have_only names items = list_all (is_among_options names) items

-- items give the option of this name a value at most once
abbrev pub comes_once : List Item → List ℕ → Bool
comes_once items name = nat_le (length (values_of name items)) 1

-- each file has a name, in order; only files after the last name may be missing, and they may be absent
abbrev pub fit : List FileRow → List (List ℕ) → Bool
fit files [] = list_all is_optional files
fit [] (name ∷ names) = false
fit (file ∷ files) (name ∷ names) = fit files names

-- the names of the outputs
abbrev pub outputs_in : List FileRow → List (List ℕ) → List (List ℕ)
outputs_in (file ∷ files) (name ∷ names) =
    if is_output file then name ∷ outputs_in files names else outputs_in files names
outputs_in _ _ = []

-- no output has the name of another file: its name comes only once
abbrev pub outputs_differ : List FileRow → List (List ℕ) → Bool
outputs_differ files names = list_all (λ output. count_by (bytes_eq output) names == 1) (outputs_in files names)

-- the items are the command's files and its options, each option at most once
abbrev pub is_cut : CommandRow → List Item → Bool
is_cut row items =
    have_only (option_names row) items && list_all (comes_once items) (option_names row) && fit row.files (files_of items)

-- ---- the line

-- the option with its value, if items give it one
abbrev pub given_by : List Item → OptionRow → Option (List ℕ × List ℕ)
given_by items option = option_map (λ value. (option.name, value)) (slice_get (values_of option.name items) 0)

-- what items of the command say
abbrev pub line_by : CommandRow → List Item → Line
line_by row items = record { files = files_of items; given = filter_map (given_by items) row.options }

-- the value that a line gives an option
abbrev pub value_in : List ℕ → Line → Option (List ℕ)
value_in name line = option_map (λ given. given.1) (find (λ given. bytes_eq given.0 name) line.given)

-- an option of this name is given, or a file of this name is among those that have a word
abbrev pub stands_in : CommandRow → Line → List ℕ → Bool
stands_in row line name =
    is_some (value_in name line) || list_any (λ file. bytes_eq file.label name) (take (length line.files) row.files)

-- what stands in a line may stand beside each other
abbrev pub keeps : CommandRow → Line → Beside → Bool
keeps row line (OnlyWith one other) = not (stands_in row line one) || stands_in row line other
keeps row line (NeverWith one other) = not (stands_in row line one && stands_in row line other)

-- no output has the name of another file, and all may stand beside each other
abbrev pub row_allows : CommandRow → Line → Bool
row_allows row line = outputs_differ row.files line.files && list_all (keeps row line) row.beside

-- the line that items say, if they say one
abbrev pub line_of : CommandRow → List Item → Option Line
line_of row items = if is_cut row items && row_allows row (line_by row items) then Some (line_by row items) else None

-- ---- the number that a line gives an option

-- The number that its value stands for, or its default if it isn't given. None if it has a value that isn't allowed.
abbrev pub number_given : OptionRow → Line → Option ℕ
number_given option line = option_map_or (number_meant option.values) (value_in option.name line) option.default

-- The same, of an option that may go without a number: none if it isn't given.
abbrev pub number_if_given : OptionRow → Line → Option (Option ℕ)
number_if_given option line =
    option_map_or (λ value. option_map (λ number. Some number) (number_meant option.values value)) (value_in option.name line) (Some None)
