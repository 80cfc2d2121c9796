-- The text of an account.
use Rattle.std.specs.Prelude.{◌-◌, ◌==◌, ◌++◌, Bool, true, false, not, ℕ, List, [], ◌∷◌, length, replicate, codes, count_by, decimal, if◌then◌else◌}
use Rattle.std.specs.List.{flat_map}
use Rattle.map_names.specs.Naming.{Naming}
use Rattle.function_names.specs.Name.{name_text}
use Rattle.function_names.specs.declared.form.NameForm.{NameForm}
use Rattle.function_names.specs.declared.form.NameForm.TheVariants.{Plain, Field}
use Rattle.account_report.specs.declared.row.AccountRow.{AccountRow}
use Rattle.account_report.specs.declared.text.AccountLayout.{AccountLayout}
use Rattle.account_report.specs.declared.text.AccountLayout.TheVariants.{Text, Csv}

-- the form of an account that is csv or not
abbrev pub format_for : Bool → AccountLayout
format_for true = Csv
format_for false = Text

-- whether a function has a pair, and so durations
abbrev pub has_latencies : AccountRow → Bool
has_latencies row = not (row.count == 0)

-- how many functions of an account have a pair
abbrev pub latencies_of : List AccountRow → ℕ
latencies_of rows = count_by has_latencies rows

-- a number of a row that comes from its durations; if there are none, a dash
abbrev pub duration_word : AccountRow → ℕ → List ℕ
duration_word row n = if row.count == 0 then codes "-" else decimal n

-- the ten words of a row
abbrev pub column_words : AccountRow → List (List ℕ)
column_words row =
    decimal row.func ∷ decimal row.count
    ∷ duration_word row row.min ∷ duration_word row row.med ∷ duration_word row row.p90 ∷ duration_word row row.p99
    ∷ duration_word row row.max ∷ duration_word row row.sum
    ∷ decimal row.entries ∷ decimal row.exits ∷ []

-- the ten words of the head line
abbrev pub head_words : List (List ℕ)
head_words =
    codes "funcid" ∷ codes "count" ∷ codes "min" ∷ codes "med" ∷ codes "90p" ∷ codes "99p" ∷ codes "max" ∷ codes "sum"
    ∷ codes "entries" ∷ codes "exits" ∷ []

-- a word in its column: at the right end of ten places, or whole if it is longer; csv has no columns
abbrev pub in_column : AccountLayout → List ℕ → List ℕ
in_column Text word = replicate (10 - length word) 32 ++ word
in_column Csv word = word

-- the text between columns
abbrev pub separator_text : AccountLayout → List ℕ
separator_text Text = codes " "
separator_text Csv = codes ","

abbrev pub column_text : AccountLayout → List ℕ → List ℕ
column_text format word = in_column format word ++ separator_text format

-- a line of ten words and a name
abbrev pub line_text : AccountLayout → List (List ℕ) → List ℕ → List ℕ
line_text format words name = flat_map (column_text format) words ++ name ++ codes "\n"

-- how a function is named in a row
abbrev pub name_form : AccountLayout → NameForm
name_form Text = Plain
name_form Csv = Field

-- the line of a row, with the name of its function
abbrev pub function_row_text : AccountLayout → Naming → AccountRow → List ℕ
function_row_text format names row = line_text format (column_words row) (name_text (name_form format) names row.func)

-- the first line, which csv doesn't have
abbrev pub first_line : AccountLayout → ℕ → List ℕ
first_line Text latencies = codes "Functions with latencies: " ++ decimal latencies ++ codes "\n"
first_line Csv latencies = []

-- the first line, the head line, and a line for each row
abbrev pub account_text : AccountLayout → ℕ → Naming → List AccountRow → List ℕ
account_text format latencies names rows =
    first_line format latencies ++ line_text format head_words (codes "function") ++ flat_map (function_row_text format names) rows
