-- What is true of every statement of a text that was read.
use Rattle.std.specs.Prelude.{◌≡◌, ◌≤◌, ◌%◌, length, [], ◌∷◌, ⊤}
use Rattle.subset_decode.specs.Encoding.{IsNamed}
use Rattle.xray_image.specs.Limits.{highest_base}
use Rattle.asm_text.specs.Statements.{Operation, Plain, Go, TailJump, Return, Statement, Base, Entry, Func, Label, Does}
use Rattle.asm_text.specs.Layout.{StatementLines}

-- an instruction that goes to no name is one of the subset
abbrev pub OperationFits : Operation → Type 0
OperationFits (Plain instr) = IsNamed instr
OperationFits (Go branch name) = ⊤
OperationFits (TailJump name) = ⊤
OperationFits Return = ⊤

-- a function's name fits its field, the base is in range, and instructions are of the subset
abbrev pub Fits : Statement → Type 0
Fits (Base address) = (address % 16 ≡ 0) × (address ≤ highest_base)
Fits (Entry name) = ⊤
Fits (Func name choice) = length name ≤ 255
Fits (Label name) = ⊤
Fits (Does operation) = OperationFits operation

-- all statements fit
abbrev pub AllFit : StatementLines → Type 0
AllFit [] = ⊤
AllFit (line ∷ following) = Fits line.1 × AllFit following
