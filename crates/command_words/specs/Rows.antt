-- The rows of the two tables: an option, and a command.
use Rattle.std.specs.Prelude.{ℕ, List, Bool, true, false, map, Option}
use Rattle.command_words.specs.Numbers.{Values}
use Rattle.command_words.specs.declared.tables.Verb.{Verb}

-- an option: its name, what its value may be, and the number that is used if it isn't given, if there is one
pub record OptionRow : Type 0 where
  pub name : List ℕ
  pub values : Values
  pub default : Option ℕ

-- What stands in a place of the command line: a file that is read, one that is read and may be absent, one that is
-- written, or a number and no file.
pub data Role : Type 0 where
  Read : Role
  MaybeRead : Role
  Written : Role
  Numeral : (values : Values) → Role

-- a place of the command line: its name, and what stands in it
pub record FileRow : Type 0 where
  pub label : List ℕ
  pub role : Role

abbrev pub file_read : List ℕ → FileRow
file_read label = record { label = label; role = Read }

abbrev pub file_maybe_read : List ℕ → FileRow
file_maybe_read label = record { label = label; role = MaybeRead }

abbrev pub file_written : List ℕ → FileRow
file_written label = record { label = label; role = Written }

abbrev pub number_place : List ℕ → Values → FileRow
number_place label values = record { label = label; role = Numeral values }

-- Which files and options, by their names, may stand beside each other: the first only with the second, or the two
-- never together.
pub data Beside : Type 0 where
  OnlyWith : (one other : List ℕ) → Beside
  NeverWith : (one other : List ℕ) → Beside

-- a command: its word, what it does, its files in the order of their names, its options, and what may stand beside what
pub record CommandRow : Type 0 where
  pub word : List ℕ
  pub verb : Verb
  pub files : List FileRow
  pub options : List OptionRow
  pub beside : List Beside

-- the place may be empty
abbrev pub is_optional : FileRow → Bool
is_optional file = elim file.role [ MaybeRead ↦ true | _ ↦ false ]

-- the file is written
abbrev pub is_output : FileRow → Bool
is_output file = elim file.role [ Written ↦ true | _ ↦ false ]

-- the word in the place names a file
abbrev pub names_file : FileRow → Bool
names_file file = elim file.role [ Numeral values ↦ false | _ ↦ true ]

-- the names of its options
abbrev pub option_names : CommandRow → List (List ℕ)
option_names row = map (λ option. option.name) row.options
