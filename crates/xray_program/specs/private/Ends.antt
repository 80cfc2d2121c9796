-- The threads of a command that have come to their ends, as they are printed.
use Rattle.std.specs.Prelude.{◌≡◌, ◌+◌, ℕ, List, length, Some, slice_get}
use Rattle.std.specs.List.{All}
use Rattle.xray_image.specs.Program.{Program}
use Rattle.machine_step.specs.declared.plain_end.PlainEnd.{PlainEnd}
use Rattle.machine_step.specs.PlainEnd.{IsPlainEnd, state_of}
use Rattle.machine_step.specs.Texts.{plain_text}
use Rattle.xray_program.specs.Setups.{plain_limits}
use Rattle.command_words.specs.declared.run_options.Bounds.{Bounds}

-- the plain text of a thread
abbrev pub end_text : PlainEnd → List ℕ
end_text e = plain_text e.thread e.end (state_of e)

-- the end of a thread has all 16 registers
abbrev pub HasRegisters : PlainEnd → Type 0
HasRegisters e = length e.regs.items ≡ 16

-- the ends of this many threads of a program, in the order of their numbers, from 1 on
pub record AreEnds (program : Program) (bounds : Bounds) (threads : ℕ) (ends : List PlainEnd) : Type 0 where
  pub count : length ends ≡ threads
  pub each : (k : ℕ) (e : PlainEnd) → slice_get ends k ≡ Some e
      → IsPlainEnd program (plain_limits bounds) (k + 1) e
  pub registers : All HasRegisters ends
