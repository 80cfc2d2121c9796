-- What the assembler knows of the lines so far.
use Rattle.std.specs.Prelude.{◌≡◌, ℕ, suc, option_map, ◌+◌, ◌≤◌, ◌||◌, Bool, true, false, List, [], ◌∷◌, ◌++◌, map, sum_by, count_by, nat_lt, is_some, if◌then◌else◌, Option, Some, None, Result, Ok, Err, ◌⊎◌}
use Rattle.std.specs.List.{list_any}
use Rattle.std.specs.Str.{bytes_eq}
use Rattle.xray_image.specs.Limits.{most_code, most_functions, most_sleds}
use Rattle.asm_text.specs.declared.fault.AsmFault.{AsmFault}
use Rattle.asm_text.specs.declared.fault.AsmFault.TheVariants as faults
use Rattle.asm_text.specs.declared.totals.Standing.{Standing}
use Rattle.asm_text.specs.declared.totals.Standing.TheVariants.{Outside, Bare}
use Rattle.asm_text.specs.declared.totals.Totals.{Totals}
use Rattle.asm_text.specs.declared.name_table.NameTable.{NameTable}
use Rattle.asm_text.specs.declared.first_pass.NumberedStatement.{NumberedStatement}
use Rattle.asm_text.specs.declared.first_pass.FirstPass.{FirstPass}
use Rattle.asm_text.specs.Statements.{Statement, Base, Entry, Func, Label, Does}
use Rattle.asm_text.specs.Layout.{StatementLines, unless_never, is_function, is_instruction, base_in, entry_in_line, defines, widths, sleds_of_part, parts_of_line, all_parts, owner_of}
use Rattle.asm_text.specs.private.NameTables.{line_named}
use Rattle.asm_text.specs.Refusals.{has_function, is_bare, exceeds_limits, repeats}
use Rattle.asm_text.specs.private.Views.{statement_said}

-- a function has begun
abbrev pub has_begun : Standing → Bool
has_begun Outside = false
has_begun standing = true

-- whether the last function counts as instrumented, after a line
abbrev pub traced_after : Bool → Statement → Bool
traced_after traced statement = (owner_of unless_never 0 (record { traced = traced; always = false; start = 0 }) statement []).traced

-- the same after several lines
abbrev pub traced_by : Bool → StatementLines → Bool
traced_by traced [] = traced
traced_by traced (line ∷ following) = traced_by (traced_after traced line.1) following

-- the last function has no instruction line yet
abbrev pub lacks_lines : Standing → Bool
lacks_lines Bare = true
lacks_lines standing = false

-- the totals are those of the lines
pub record IsTotals (lines : StatementLines) (t : Totals) : Type 0 where
  pub has_base : t.has_base ≡ list_any (λ line. is_some (base_in line.1)) lines
  pub has_entry : t.has_entry ≡ list_any (λ line. is_some (entry_in_line line.1)) lines
  pub begun : has_begun t.standing ≡ has_function lines
  pub bare : lacks_lines t.standing ≡ is_bare lines
  pub traced : t.traced ≡ traced_by false lines
  pub functions : t.functions ≡ count_by (λ line. is_function line.1) lines
  pub code : t.code ≡ widths (all_parts unless_never lines)
  pub sleds : t.sleds ≡ sum_by sleds_of_part (all_parts unless_never lines)

-- the new totals are the old ones after one more statement
pub record Follows (old : Totals) (statement : Statement) (new : Totals) : Type 0 where
  pub has_base : new.has_base ≡ (old.has_base || is_some (base_in statement))
  pub has_entry : new.has_entry ≡ (old.has_entry || is_some (entry_in_line statement))
  pub begun : has_begun new.standing ≡ (has_begun old.standing || is_function statement)
  pub bare : lacks_lines new.standing ≡ (if is_function statement then true else if is_instruction statement then false else lacks_lines old.standing)
  pub traced : new.traced ≡ traced_after old.traced statement
  pub functions : new.functions ≡ old.functions + (if is_function statement then 1 else 0)
  pub code : new.code ≡ old.code + widths (parts_of_line new.traced old.code statement)
  pub sleds : new.sleds ≡ old.sleds + sum_by sleds_of_part (parts_of_line new.traced old.code statement)

-- a limit is exceeded
abbrev pub totals_exceed : Totals → Bool
totals_exceed t = nat_lt most_functions t.functions || nat_lt most_code t.code || nat_lt most_sleds t.sleds

-- no limit is exceeded
pub record IsWithin (t : Totals) : Type 0 where
  pub functions : t.functions ≤ most_functions
  pub code : t.code ≤ most_code
  pub sleds : t.sleds ≤ most_sleds

-- the lines of the entries
abbrev pub line_in : NumberedStatement → ℕ × Statement
line_in entry = (entry.line, statement_said entry.statement)

abbrev pub lines_in : List NumberedStatement → StatementLines
lines_in entries = map line_in entries

-- the line that defines a name, counted from 0
abbrev pub defined_at : List ℕ → StatementLines → Option ℕ
defined_at name [] = None
defined_at name (line ∷ following) = if defines name line.1 then Some 0 else option_map suc (defined_at name following)

-- the names are those that the lines define
abbrev pub IsNames : StatementLines → NameTable → Type 0
IsNames lines names = (q : List ℕ) → line_named names q ≡ defined_at q lines

-- the totals and the names are those of the lines, which exceed no limit
pub record IsFirstPass (pass : FirstPass) : Type 0 where
  pub totals : IsTotals (lines_in pass.entries.items) pass.totals
  pub within : IsWithin pass.totals
  pub names : IsNames (lines_in pass.entries.items) pass.names

-- the name that a statement defines, if it defines one
abbrev pub name_defined : Statement → Option (List ℕ)
name_defined (Base address) = None
name_defined (Entry name) = None
name_defined (Func name choice) = Some name
name_defined (Label name) = Some name
name_defined (Does operation) = None

-- the rows that come after those of the statement itself
abbrev pub taken : StatementLines → ℕ → Statement → Result StatementLines AsmFault
taken before number statement =
    if repeats before statement then Err (faults.Repeat number)
    else if exceeds_limits (before ++ (number, statement) ∷ []) then Err (faults.Limit number)
    else Ok (before ++ (number, statement) ∷ [])

-- a name, if there is one, is this one
abbrev pub is_named : Option (List ℕ) → List ℕ → Bool
is_named None q = false
is_named (Some name) q = bytes_eq name q

-- the totals of the lines with one more, or the row that refuses it
abbrev pub Admits : FirstPass → ℕ → Statement → Result Totals AsmFault → Type 0
Admits pass number statement (Ok totals) =
    let lines = lines_in pass.entries.items in
    (taken lines number statement ≡ Ok (lines ++ (number, statement) ∷ [])) × (repeats lines statement ≡ false)
    × IsTotals (lines ++ (number, statement) ∷ []) totals × IsWithin totals
Admits pass number statement (Err fault) = taken (lines_in pass.entries.items) number statement ≡ Err fault

-- an answer of the pass: it has the lines of the verdict, or the verdict's refusal, or memory ran out
abbrev pub Takes : {X : Type 0} → Result X AsmFault → Result StatementLines AsmFault → FirstPass → Type 0
Takes (Ok x) answer pass = (answer ≡ Ok (lines_in pass.entries.items)) × IsFirstPass pass
Takes (Err fault) answer pass = (fault ≡ faults.NoMemory) ⊎ (answer ≡ Err fault)

-- the same for the pass that is the answer
abbrev pub Reads : Result FirstPass AsmFault → Result StatementLines AsmFault → Type 0
Reads (Ok pass) answer = (answer ≡ Ok (lines_in pass.entries.items)) × IsFirstPass pass
Reads (Err fault) answer = (fault ≡ faults.NoMemory) ⊎ (answer ≡ Err fault)
