-- How a traced thread ends.
use Rattle.std.specs.Prelude.{◌≡◌, List, length}
use Rattle.machine_step.specs.declared.end.End.{End}
use Rattle.machine_step.specs.declared.want.Want.TheVariants.{Done}
use Rattle.machine_step.specs.Loads.{AreWanted, Load, marks_of}
use Rattle.machine_step.specs.PlainStep.{Passing, PlainRun, State}
use Rattle.machine_step.specs.Traced.{Traced, sleds_passed}
use Rattle.machine_step.specs.Whole.{AreWhole}

-- The thread has ended as its plain run does: with the end of the run, and with the registers, zero flag, stack, output
-- and counts of its last state. Each load is of the word that the thread wanted next. Each passing of the run has its
-- mark, and the marks are those of the loads. With these loads no passing decoded a torn sled.
pub record EndsAsPlain (t : Traced) (passed : List Passing) (end : End) (last : State) (loads : List Load) : Type 0 where
  pub run : PlainRun t.program t.limits t.thread passed end last
  pub done : t.want ≡ Done end
  pub registers : t.registers ≡ last.registers
  pub zero_flag : t.zero_flag ≡ last.zero_flag
  pub stack : t.stack ≡ last.stack
  pub output : t.output ≡ last.output
  pub instructions : t.instructions ≡ last.instructions
  pub passings : length t.marks ≡ last.passings
  pub wanted : AreWanted t.program t.threads t.thread t.hold (sleds_passed passed) loads
  pub each : length t.marks ≡ length passed
  pub marks : t.marks ≡ marks_of t.program t.threads t.thread t.hold (sleds_passed passed) loads
  pub whole : AreWhole t.program t.threads t.thread t.hold (sleds_passed passed) loads
