-- Assembler texts as they are written of words.
use Rattle.std.specs.Prelude.{◌≡◌, ◌≤◌, ℕ, Bool, true, false, List, ◌∷◌, ◌++◌, length, count_by, Some, Ok}
use Rattle.std.specs.List.{AllZip, enumerate_from, list_all}
use Rattle.text_lines.specs.Written.{are_written_words, written_text}
use Rattle.xray_image.specs.Ids.{id_count}
use Rattle.xray_image.specs.Limits.{most_functions}
use Rattle.asm_text.specs.Statements.{Statement, Base, Entry, Func, Label, Does}
use Rattle.asm_text.specs.Language.{statement_of}
use Rattle.asm_text.specs.Layout.{StatementLines, is_always, is_function}
use Rattle.asm_text.specs.Refusals.{ends_early, is_statement_misplaced, is_out_of_range, is_unresolved, names_reserved, repeats}
use Rattle.asm_text.specs.Assembling.{statements_said}
use Rattle.asm_text.specs.Programs.{program_said}

-- words that can be written, and that say this
pub record Says (words : List (List ℕ)) (statement : Statement) : Type 0 where
  pub written : are_written_words words ≡ true
  pub said : statement_of words ≡ Some statement

-- a statement may follow these lines, and all its operands are in range
pub record MayFollow (before : StatementLines) (statement : Statement) : Type 0 where
  pub place : is_statement_misplaced before statement ≡ false
  pub registers : names_reserved statement ≡ false
  pub range : is_out_of_range statement ≡ false
  pub name : repeats before statement ≡ false

-- each line may follow those before it, each name is defined, and the last function has an instruction line
pub record IsOrderly (said : StatementLines) : Type 0 where
  pub follows : (before : StatementLines) (line : ℕ × Statement) (following : StatementLines) → said ≡ before ++ line ∷ following → MayFollow before line.1
  pub resolved : (before : StatementLines) (line : ℕ × Statement) (following : StatementLines) → said ≡ before ++ line ∷ following → is_unresolved said line.1 following ≡ false
  pub ends : ends_early said ≡ false

-- StatementLines in order say what is written in them, if there are no more of them than functions may be. So few lines exceed no
-- limit.
abbrev pub WrittenTextsRead : Type 0
WrittenTextsRead = (all : List (List (List ℕ))) (statements : List Statement) → AllZip Says all statements
    → IsOrderly (enumerate_from 1 statements) → length statements ≤ most_functions
    → statements_said (written_text all) ≡ Ok (enumerate_from 1 statements)

-- a function, if the line begins one, is always instrumented
abbrev pub is_always_function : Statement → Bool
is_always_function (Base address) = true
is_always_function (Entry name) = true
is_always_function (Func name choice) = is_always choice
is_always_function (Label name) = true
is_always_function (Does operation) = true

-- if each function is always instrumented, then each has an id
abbrev pub AllHaveIds : Type 0
AllHaveIds = (threshold : ℕ) (said : StatementLines) → list_all (λ line. is_always_function line.1) said ≡ true
    → id_count (program_said threshold said) ≡ count_by (λ line. is_function line.1) said
