-- What a line of an assembler text says.
use Rattle.std.specs.Prelude.{ℕ, List}
use Rattle.subset_decode.specs.declared.instr.Instr.{Instr}
use Rattle.asm_text.specs.declared.statement.Choice.{Choice}
use Rattle.asm_text.specs.declared.statement.Branch.{Branch}

-- What an instruction line asks for: an instruction that goes to no name, a branch to a name, a tail jump or a return.
-- Its registers and numbers are as written, even if they can't be used there.
pub data Operation : Type 0 where
  Plain : (instr : Instr) → Operation
  Go : (branch : Branch) (name : List ℕ) → Operation
  TailJump : (name : List ℕ) → Operation
  Return : Operation

pub data Statement : Type 0 where
  Base : (address : ℕ) → Statement
  Entry : (name : List ℕ) → Statement
  Func : (name : List ℕ) (choice : Choice) → Statement
  Label : (name : List ℕ) → Statement
  Does : (operation : Operation) → Statement
