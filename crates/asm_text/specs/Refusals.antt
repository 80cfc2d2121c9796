-- The refusals, in the order of the checks: line by line, for each line in the order of its rows, and then at the end
-- of the text.
use Rattle.std.specs.Prelude.{ℕ, ◌||◌, ◌==◌, ◌%◌, Bool, true, false, not, nat_lt, List, [], ◌∷◌, ◌++◌, fold, sum_by, count_by, Option, Some, None, is_some, Result, Ok, Err, if◌then◌else◌}
use Rattle.std.specs.List.{list_any}
use Rattle.xray_io.specs.Rows.{First, NeedsPart, InTurn}
use Rattle.subset_decode.specs.declared.instr.Instr.{Instr}
use Rattle.subset_decode.specs.declared.instr.Instr.TheVariants.{Mov, Add, Sub, Push, Pop, Call, Jmp, Jnz, Ret, Out}
use Rattle.subset_decode.specs.Encoding.{reserved_register}
use Rattle.xray_image.specs.Limits.{highest_base, most_code, most_functions, most_sleds}
use Rattle.text_lines.specs.Words.{is_clean, words_of}
use Rattle.asm_text.specs.declared.fault.AsmFault.{AsmFault}
use Rattle.asm_text.specs.declared.fault.AsmFault.TheVariants.{Syntax, Register, Range, Repeat, Limit, Label as Unresolved}
use Rattle.asm_text.specs.Statements.{Operation, Plain, Go, TailJump, Return, Statement, Base, Entry, Func, Label, Does}
use Rattle.asm_text.specs.Language.{statement_of}
use Rattle.asm_text.specs.Layout.{StatementLines, is_function, is_instruction, base_in, entry_in_line, defines, names_function, unless_never, all_parts, widths, sleds_of_part}

-- ---- the rows of a line, by the lines before it

abbrev pub has_function : StatementLines → Bool
has_function lines = list_any (λ line. is_function line.1) lines

-- the last function has no instruction line
abbrev pub is_bare : StatementLines → Bool
is_bare lines =
    fold (λ bare line. if is_function line.1 then true else if is_instruction line.1 then false else bare) false lines

-- A base or an entry that is repeated or comes after a function; an instruction or a label before any function; a
-- function after one without an instruction line.
abbrev pub is_statement_misplaced : StatementLines → Statement → Bool
is_statement_misplaced before (Base address) = list_any (λ line. is_some (base_in line.1)) before || has_function before
is_statement_misplaced before (Entry name) = list_any (λ line. is_some (entry_in_line line.1)) before || has_function before
is_statement_misplaced before (Func name choice) = is_bare before
is_statement_misplaced before (Label name) = not (has_function before)
is_statement_misplaced before (Does operation) = not (has_function before)

-- a register that instructions can't name
abbrev pub operation_reserves : Operation → Bool
operation_reserves (Plain instr) = is_some (reserved_register instr)
operation_reserves (Go branch name) = false
operation_reserves (TailJump name) = false
operation_reserves Return = false

abbrev pub names_reserved : Statement → Bool
names_reserved (Base address) = false
names_reserved (Entry name) = false
names_reserved (Func name choice) = false
names_reserved (Label name) = false
names_reserved (Does operation) = operation_reserves operation

-- a number that doesn't fit its field
abbrev pub is_wide : Instr → Bool
is_wide (Mov dst imm) = nat_lt 4294967295 imm
is_wide (Add dst src) = false
is_wide (Sub dst src) = false
is_wide (Push reg) = false
is_wide (Pop reg) = false
is_wide (Call rel) = false
is_wide (Jmp rel) = false
is_wide (Jnz rel) = false
is_wide Ret = false
is_wide (Out port) = nat_lt 255 port

abbrev pub operation_exceeds : Operation → Bool
operation_exceeds (Plain instr) = is_wide instr
operation_exceeds (Go branch name) = false
operation_exceeds (TailJump name) = false
operation_exceeds Return = false

-- a base that isn't a multiple of 16 or is above the highest, or a number that doesn't fit its field
abbrev pub is_out_of_range : Statement → Bool
is_out_of_range (Base address) = not (address % 16 == 0) || nat_lt highest_base address
is_out_of_range (Entry name) = false
is_out_of_range (Func name choice) = false
is_out_of_range (Label name) = false
is_out_of_range (Does operation) = operation_exceeds operation

-- a name that an earlier line defines
abbrev pub is_defined : List ℕ → StatementLines → Bool
is_defined name lines = list_any (λ line. defines name line.1) lines

abbrev pub repeats : StatementLines → Statement → Bool
repeats before (Base address) = false
repeats before (Entry name) = false
repeats before (Func name choice) = is_defined name before
repeats before (Label name) = is_defined name before
repeats before (Does operation) = false

-- more functions, code or sleds than an image file may have, if each function that doesn't say never is instrumented
abbrev pub exceeds_limits : StatementLines → Bool
exceeds_limits lines =
    nat_lt most_functions (count_by (λ line. is_function line.1) lines)
    || nat_lt most_code (widths (all_parts unless_never lines))
    || nat_lt most_sleds (sum_by sleds_of_part (all_parts unless_never lines))

-- the lines with one more, or the first row that refuses it
abbrev pub statement_judged : StatementLines → ℕ → Statement → Result StatementLines AsmFault
statement_judged before number statement =
    First (is_statement_misplaced before statement) (Err (Syntax number))
    (First (names_reserved statement) (Err (Register number))
    (First (is_out_of_range statement) (Err (Range number))
    (First (repeats before statement) (Err (Repeat number))
    (First (exceeds_limits (before ++ (number, statement) ∷ [])) (Err (Limit number))
    (Ok (before ++ (number, statement) ∷ []))))))

-- words that say nothing are refused before anything else is checked
abbrev pub statement_spoken : StatementLines → ℕ → Option Statement → Result StatementLines AsmFault
statement_spoken before number said = NeedsPart said (Err (Syntax number)) (λ statement. statement_judged before number statement)

-- a line without words is skipped
abbrev pub with_words : StatementLines → ℕ → List (List ℕ) → Result StatementLines AsmFault
with_words before number [] = Ok before
with_words before number (word ∷ words) = statement_spoken before number (statement_of (word ∷ words))

abbrev pub statement_with_line : StatementLines → ℕ × List ℕ → Result StatementLines AsmFault
statement_with_line before (number, line) = First (not (is_clean line)) (Err (Syntax number)) (with_words before number (words_of line))

-- what all lines say, after those before them, or the first refusal
abbrev pub read_statements : StatementLines → List (ℕ × List ℕ) → Result StatementLines AsmFault
read_statements before lines = InTurn statement_with_line before lines

-- ---- the rows at the end of the text

-- there is no function, or the last one has no instruction line
abbrev pub ends_early : StatementLines → Bool
ends_early lines = not (has_function lines) || is_bare lines

-- the name that an instruction line goes to
abbrev pub target_name : Operation → Option (List ℕ)
target_name (Plain instr) = None
target_name (Go branch name) = Some name
target_name (TailJump name) = Some name
target_name Return = None

abbrev pub is_missing : StatementLines → Option (List ℕ) → Bool
is_missing lines None = false
is_missing lines (Some name) = not (is_defined name lines)

-- an entry that names no function, a label with no instruction line or function after it, or a name that isn't defined
abbrev pub is_unresolved : StatementLines → Statement → StatementLines → Bool
is_unresolved lines (Base address) following = false
is_unresolved lines (Entry name) following = not (list_any (λ line. names_function name line.1) lines)
is_unresolved lines (Func name choice) following = false
is_unresolved lines (Label name) following = not (list_any (λ line. is_function line.1 || is_instruction line.1) following)
is_unresolved lines (Does operation) following = is_missing lines (target_name operation)

-- all lines, or the refusal of the first line among those left that is unresolved
abbrev pub resolved : StatementLines → StatementLines → Result StatementLines AsmFault
resolved lines [] = Ok lines
resolved lines (line ∷ following) = First (is_unresolved lines line.1 following) (Err (Unresolved line.0)) (resolved lines following)

abbrev pub text_ended : ℕ → StatementLines → Result StatementLines AsmFault
text_ended number lines = First (ends_early lines) (Err (Syntax number)) (resolved lines lines)
