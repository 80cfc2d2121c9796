-- What the end of a plain run says.
use Rattle.std.specs.Prelude.{◌≡◌, ℕ, List, []}
use Rattle.xray_image.specs.Program.{Program}
use Rattle.machine_step.specs.declared.limits.Limits.{Limits}
use Rattle.machine_step.specs.declared.plain_end.PlainEnd.{PlainEnd}
use Rattle.machine_step.specs.PlainStep.{State, Passing, PlainRun}

-- the plain run of the thread comes to this end, and the rest is what it leaves
pub record IsPlainEnd (program : Program) (limits : Limits) (number : ℕ) (e : PlainEnd) : Type 0 where
  pub passed : List Passing
  pub last : State
  pub run : PlainRun program limits number passed e.end last
  pub thread : e.thread ≡ number
  pub registers : e.regs.items ≡ last.registers
  pub zero_flag : e.zf ≡ last.zero_flag
  pub output : e.output.items ≡ last.output
  pub instructions : e.instructions ≡ last.instructions
  pub passings : e.passings ≡ last.passings

-- a state that agrees with an end in all that is printed
abbrev pub state_of : PlainEnd → State
state_of e = record {
  address = 0;
  registers = e.regs.items;
  zero_flag = e.zf;
  stack = [];
  output = e.output.items;
  instructions = e.instructions;
  passings = e.passings;
}
