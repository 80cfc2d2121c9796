-- The files that a command names, by its row in the table.
use Rattle.std.specs.Prelude.{◌≡◌, ℕ, List, [], ◌∷◌, if◌then◌else◌, Some, None}
use Rattle.std.specs.List.{filter_map}
use Rattle.xray_io.specs.declared.wall.Wall.{Wall}
use Rattle.command_words.specs.Items.{items_of}
use Rattle.command_words.specs.Lines.{Line, line_of, outputs_in, value_in}
use Rattle.command_words.specs.Numbers.{is_file_name}
use Rattle.command_words.specs.Rows.{CommandRow, FileRow, OptionRow, is_output, names_file}
use Rattle.command_words.specs.Words.{Command, table_entry, outputs_of, reading}

-- its row in the table
abbrev pub row_of : Command → CommandRow
row_of command = (table_entry command).row

-- the names of its files that no option names, in the order of the words
abbrev pub names_of : Command → List (List ℕ)
names_of command = (table_entry command).names

-- the names of its files that options name
abbrev pub names_given : Command → List (List ℕ)
names_given command = (table_entry command).given

-- ---- by the roles of the row

-- the names of the inputs
abbrev pub inputs_in : List FileRow → List (List ℕ) → List (List ℕ)
inputs_in (file ∷ files) (name ∷ names) =
    if is_output file then inputs_in files names else name ∷ inputs_in files names
inputs_in _ _ = []

-- the words that name files
abbrev pub named_in : List FileRow → (words : List (List ℕ)) → List (List ℕ)
named_in (file ∷ files) (word ∷ words) =
    if names_file file then word ∷ named_in files words else named_in files words
named_in _ _ = []

-- the files that options of a line name, in the order of the row
abbrev pub files_given : List OptionRow → Line → List (List ℕ)
files_given options line = filter_map (λ option. if is_file_name option.values then value_in option.name line else None) options

-- A command that words say is the one of its row. Its files are those that the line of the words names, in the order of
-- the row, and those that its options name. Its outputs are the files that the row says are written.
pub record IsOfItsRow (word : List ℕ) (words : List (List ℕ)) (command : Command) : Type 0 where
  pub word_is : word ≡ (row_of command).word
  pub line : Line
  pub says : line_of (row_of command) (items_of words) ≡ Some line
  pub names_are : names_of command ≡ named_in (row_of command).files line.files
  pub given_are : names_given command ≡ files_given (row_of command).options line
  pub outputs_are : outputs_of command ≡ outputs_in (row_of command).files line.files

-- so is each command that words say
abbrev pub AreOfTheirRows : Type 0
AreOfTheirRows = (wall : Wall) (word : List ℕ) (words : List (List ℕ)) (command : Command)
    → reading wall (word ∷ words) ≡ Some command → IsOfItsRow word words command
