-- The text of calls.
use Rattle.std.specs.Prelude.{◌++◌, ℕ, List, [], ◌∷◌, codes, decimal, Option, Some, None}
use Rattle.std.specs.List.{flat_map}
use Rattle.map_names.specs.Naming.{Naming}
use Rattle.function_names.specs.Name.{name_text}
use Rattle.account_report.specs.declared.text.AccountLayout.{AccountLayout}
use Rattle.account_report.specs.declared.text.AccountLayout.TheVariants.{Text, Csv}
use Rattle.account_report.specs.AccountText.{line_text, name_form}
use Rattle.call_rows.specs.declared.row.CallRow.{CallRow}

-- the word for a number that isn't there
abbrev pub no_number : AccountLayout → List ℕ
no_number Text = codes "-"
no_number Csv = []

abbrev pub number_if_any : AccountLayout → Option ℕ → List ℕ
number_if_any format None = no_number format
number_if_any format (Some n) = decimal n

-- the eleven words of a row
abbrev pub call_words : AccountLayout → CallRow → List (List ℕ)
call_words format row =
    decimal row.call ∷ number_if_any format row.parent
    ∷ decimal row.thread ∷ decimal row.process ∷ decimal row.cpu
    ∷ decimal row.start ∷ decimal row.duration ∷ decimal row.own
    ∷ decimal row.depth ∷ number_if_any format row.arg ∷ decimal row.func ∷ []

-- the eleven words of the head line
abbrev pub call_heads : List (List ℕ)
call_heads =
    codes "call" ∷ codes "parent" ∷ codes "thread" ∷ codes "process" ∷ codes "cpu" ∷ codes "start" ∷ codes "duration" ∷ codes "self"
    ∷ codes "depth" ∷ codes "arg" ∷ codes "funcid" ∷ []

-- the head line
abbrev pub call_head : AccountLayout → List ℕ
call_head format = line_text format call_heads (codes "function")

-- the line of a row, with the name of its function
abbrev pub call_line : AccountLayout → Naming → CallRow → List ℕ
call_line format names row = line_text format (call_words format row) (name_text (name_form format) names row.func)

-- the head line, and a line for each row
abbrev pub call_list_text : AccountLayout → Naming → List CallRow → List ℕ
call_list_text format names rows = call_head format ++ flat_map (call_line format names) rows
