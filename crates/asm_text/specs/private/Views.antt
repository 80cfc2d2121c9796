-- What the assembler's own types mean, for the contracts of its private functions.
use Rattle.std.specs.Prelude.{◌≡◌, ℕ, List, Option, Some, None, Result, Ok, Err, if◌then◌else◌}
use Rattle.subset_decode.specs.declared.instr.Instr.{Instr}
use Rattle.subset_decode.specs.declared.instr.Instr.TheVariants as instrs
use Rattle.asm_text.specs.declared.registers.Register.{Register}
use Rattle.asm_text.specs.declared.registers.Register.TheVariants as registers
use Rattle.asm_text.specs.declared.statement.Plain.{Plain as PlainOne}
use Rattle.asm_text.specs.declared.statement.Plain.TheVariants as plain
use Rattle.asm_text.specs.declared.fault.AsmFault.{AsmFault}
use Rattle.asm_text.specs.declared.fault.AsmFault.TheVariants as faults
use Rattle.asm_text.specs.declared.statement.RawOperation.{RawOperation}
use Rattle.asm_text.specs.declared.statement.RawOperation.TheVariants as written
use Rattle.asm_text.specs.declared.statement.Operation.{Operation as Checked}
use Rattle.asm_text.specs.declared.statement.Operation.TheVariants as checked
use Rattle.asm_text.specs.declared.statement.AnyStatement.{AnyStatement}
use Rattle.asm_text.specs.declared.statement.AnyStatement.TheVariants as said
use Rattle.asm_text.specs.Statements.{Operation, Plain, Go, TailJump, Return, Statement, Base, Entry, Func, Label, Does}
use Rattle.asm_text.specs.Layout.{StatementLines}
use Rattle.asm_text.specs.Refusals.{statement_with_line, statement_judged, operation_reserves, operation_exceeds, names_reserved, is_out_of_range}

abbrev pub operation_written : RawOperation → Operation
operation_written (written.Mov dst imm) = Plain (instrs.Mov dst imm)
operation_written (written.Add dst src) = Plain (instrs.Add dst src)
operation_written (written.Sub dst src) = Plain (instrs.Sub dst src)
operation_written (written.Push reg) = Plain (instrs.Push reg)
operation_written (written.Pop reg) = Plain (instrs.Pop reg)
operation_written (written.Out port) = Plain (instrs.Out port)
operation_written (written.Go branch name) = Go branch name.now
operation_written (written.TailJump name) = TailJump name.now
operation_written written.Return = Return

-- a statement, by what its instruction means
abbrev pub statement_by : {O : Type 0} → (O → Operation) → AnyStatement O → Statement
statement_by view (said.Base address) = Base address
statement_by view (said.Entry name) = Entry name.now
statement_by view (said.Function name choice) = Func name.now choice
statement_by view (said.Label name) = Label name.now
statement_by view (said.Does operation) = Does (view operation)

abbrev pub statement_spoken : AnyStatement RawOperation → Statement
statement_spoken = statement_by operation_written

-- the number of a register
abbrev pub register_number : Register → ℕ
register_number registers.Rax = 0
register_number registers.Rcx = 1
register_number registers.Rdx = 2
register_number registers.Rbx = 3
register_number registers.Rbp = 5
register_number registers.Rsi = 6
register_number registers.Rdi = 7
register_number registers.R8 = 8
register_number registers.R9 = 9
register_number registers.R11 = 11
register_number registers.R12 = 12
register_number registers.R13 = 13
register_number registers.R14 = 14
register_number registers.R15 = 15

abbrev pub plain_instr : PlainOne → Instr
plain_instr (plain.Mov dst imm) = instrs.Mov (register_number dst) imm
plain_instr (plain.Add dst src) = instrs.Add (register_number dst) (register_number src)
plain_instr (plain.Sub dst src) = instrs.Sub (register_number dst) (register_number src)
plain_instr (plain.Push reg) = instrs.Push (register_number reg)
plain_instr (plain.Pop reg) = instrs.Pop (register_number reg)
plain_instr (plain.Out port) = instrs.Out port

abbrev pub operation_checked : Checked → Operation
operation_checked (checked.Plain instr) = Plain (plain_instr instr)
operation_checked (checked.Go branch name) = Go branch name.now
operation_checked (checked.TailJump name) = TailJump name.now
operation_checked checked.Return = Return

abbrev pub statement_said : AnyStatement Checked → Statement
statement_said = statement_by operation_checked

-- what reading a line means for the text, whatever lines come before it
abbrev pub LineGives : ℕ → List ℕ → Result (Option (AnyStatement RawOperation)) AsmFault → Type 0
LineGives number line (Ok None) = (before : StatementLines) → statement_with_line before (number, line) ≡ Ok before
LineGives number line (Ok (Some says)) = (before : StatementLines) → statement_with_line before (number, line) ≡ statement_judged before number (statement_spoken says)
LineGives number line (Err fault) = (before : StatementLines) → statement_with_line before (number, line) ≡ Err fault

-- an operation or a statement with checked operands, or the refusal of its line
abbrev pub operation_of : ℕ → Operation → Result Operation AsmFault
operation_of number operation =
    if operation_reserves operation then Err (faults.Register number)
    else if operation_exceeds operation then Err (faults.Range number) else Ok operation

abbrev pub statement_of_spoken : ℕ → Statement → Result Statement AsmFault
statement_of_spoken number statement =
    if names_reserved statement then Err (faults.Register number)
    else if is_out_of_range statement then Err (faults.Range number) else Ok statement

-- an answer, by what its value says
abbrev pub Tells : {X Y : Type 0} → (X → Y) → Result X AsmFault → Result Y AsmFault → Type 0
Tells view (Ok x) answer = answer ≡ Ok (view x)
Tells view (Err fault) answer = answer ≡ Err fault
