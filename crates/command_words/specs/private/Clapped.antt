-- What clap is asked, and what it makes of it. clap gets a command by its row, and the words after the command's own.
use Rattle.std.specs.Prelude.{List, [], ◌∷◌, true, not, Option, Some, None, fold, map, option_map}
use Rattle.std.specs.List.{filter_map}
use Rattle.clap.specs.Faults.{fault_of}
use Rattle.clap.specs.Kinds.{Kinds}
use Rattle.clap.specs.Matches.{found_of}
use Rattle.clap.specs.Simple.{App, matches_of, new_app, new_rule, on_top, with_rule}
use Rattle.clap.specs.Walk.{Row, Rule, Text, first_of, rows_of}
use Rattle.clap.specs.declared.builder.action.ArgAction.TheVariants.{Set}
use Rattle.clap.specs.declared.parser.matches.ArgMatches.{ArgMatches}
use Rattle.command_words.specs.Lines.{Line}
use Rattle.command_words.specs.Rows.{CommandRow, FileRow, OptionRow, is_optional}

-- ---- the command

-- an option takes one value, as text
abbrev pub option_rule : Text → Rule
option_rule name = record (new_rule name) { long = Some name; action = Some Set }

-- a file is one positional argument
abbrev pub file_rule : FileRow → Rule
file_rule file = record (new_rule file.label) { action = Some Set; required = not (is_optional file) }

-- a command without arguments; clap gets the words after its own, and knows no words for help and version
abbrev pub bare_app : Text → App
bare_app word = on_top (λ s. record s { no_binary_name = true; disable_help_flag = true; disable_version_flag = true }) (new_app word)

-- the command of a row
abbrev pub app_by : CommandRow → App
app_by row = fold with_rule (fold with_rule (bare_app row.word) (map file_rule row.files)) (map (λ option. option_rule option.name) row.options)

-- ---- its matches

-- the outcome, if nothing failed before it
abbrev pub after : {X : Type 0} → Kinds → Option X → Option X
after [] outcome = outcome
after (kind ∷ kinds) outcome = None

-- the rows that clap makes of words, if it takes them
abbrev pub clap_rows : App → List Text → Option (List Row)
clap_rows app words = after (fault_of app words) (Some (matches_of app words))

abbrev pub rows_in : ArgMatches → List Row
rows_in matches = rows_of (found_of matches)

-- the names of files in the rows, in order
abbrev pub names_in : List FileRow → List Row → List Text
names_in files rows = filter_map (λ file. first_of file.label rows) files

-- the options in the rows, in order: each name with its first value
abbrev pub given_in : List OptionRow → List Row → List (Text × Text)
given_in options rows = filter_map (λ option. option_map (λ value. (option.name, value)) (first_of option.name rows)) options

-- the line that the rows hold
abbrev pub line_in : CommandRow → List Row → Line
line_in row rows = record { files = names_in row.files rows; given = given_in row.options rows }
