-- The statements of the assembler text.
use Rattle.std.specs.Prelude.{ℕ, zero, suc, ◌+◌, List, [], ◌∷◌, ◌++◌, Option, Some, None, codes}
use Rattle.std.specs.List.{flat_map}
use Rattle.subset_decode.specs.declared.instr.Instr.TheVariants.{Mov, Out}
use Rattle.asm_text.specs.Language.{statement_of}
use Rattle.asm_text.specs.Statements.{Operation, Plain, Go, TailJump, Return, Statement, Base, Func, Label, Does}
use Rattle.soak_inputs.specs.Draws.{next}
use Rattle.soak_inputs.specs.Texts.{Round, after_function, function_name, round_count, rounds}

-- an operation of an example, with another name
abbrev pub operation_with : List ℕ → Operation → Operation
operation_with q (Plain instr) = Plain instr
operation_with q (Go branch name) = Go branch q
operation_with q (TailJump name) = TailJump q
operation_with q Return = Return

abbrev pub operation_in : Option Statement → Operation
operation_in (Some (Does operation)) = operation
operation_in other = Return

abbrev pub function_with : List ℕ → Option Statement → Statement
function_with q (Some (Func name choice)) = Func q choice
function_with q other = Label q

-- a call, and a function that says always
abbrev pub call_of : (name : List ℕ) → Operation
call_of name = operation_with name (operation_in (statement_of (codes "call" ∷ codes "f" ∷ [])))

abbrev pub always_of : (name : List ℕ) → Statement
always_of name = function_with name (statement_of (codes "fn" ∷ codes "f" ∷ codes "always" ∷ []))

abbrev pub call_statements : Option ℕ → List Statement
call_statements None = []
call_statements (Some j) = Does (call_of (function_name j)) ∷ []

-- a number goes to eax, and its low byte to port 1
abbrev pub round_statements : Round → List Statement
round_statements r = Does (Plain (Mov 0 r.value)) ∷ Does (Plain (Out 1)) ∷ call_statements r.callee

abbrev pub function_statements : (i : ℕ) → (x : ℕ) → List Statement
function_statements i x = always_of (function_name i) ∷ flat_map round_statements (rounds i (round_count x) (next x)) ++ Does Return ∷ []

-- the statements of this many functions, from function i on
unfoldable pub functions_statements : (i count : ℕ) → (x : ℕ) → List Statement
functions_statements i zero x = []
functions_statements i (suc count) x = function_statements i x ++ functions_statements (i + 1) count (after_function i x)

abbrev pub statements : ℕ → List Statement
statements x = Base 4096 ∷ functions_statements 0 64 x
