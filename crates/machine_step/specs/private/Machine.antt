-- What steps do to a machine, for the contracts of private functions.
use Rattle.std.specs.Prelude.{◌≤◌, ◌+◌, ◌-◌, ◌^◌, ◌%◌, ◌==◌, ◌&&◌, ℕ, List, [], ◌∷◌, ◌++◌, length, false, if◌then◌else◌, replicate, slice_index, slice_set}
use Rattle.machine_step.specs.declared.limits.Limits.{Limits}
use Rattle.machine_step.specs.declared.end.End.{End}
use Rattle.machine_step.specs.declared.end.End.TheVariants as ends
use Rattle.machine_step.specs.declared.step.Step.{Step}
use Rattle.machine_step.specs.declared.step.Step.TheVariants as steps
use Rattle.machine_step.specs.declared.step.Way.{Way}
use Rattle.machine_step.specs.declared.step.Way.TheVariants as ways
use Rattle.machine_step.specs.declared.machine.Machine.{Machine}
use Rattle.xray_image.specs.Program.{Program}
use Rattle.machine_step.specs.private.Steps.{wants_fuel}
use Rattle.machine_step.specs.PlainStep.{State, Passing, RunsTo, stack_limit, output_limit}

-- the state of a machine at an address
abbrev pub state_at : ℕ → Machine → State
state_at address m = record { address = address; registers = m.registers; zero_flag = m.zero_flag; stack = m.stack; output = m.output; instructions = m.instructions; passings = m.passings }

-- a machine before its first step
abbrev pub first_machine : ℕ → Machine
first_machine thread = record { registers = slice_set (replicate 16 0) 7 thread; zero_flag = false; stack = []; output = []; instructions = 0; passings = 0 }

-- the counts are within their limits
pub record IsWithin (limits : Limits) (m : Machine) : Type 0 where
  pub fuel : m.instructions ≤ limits.fuel
  pub passings : m.passings ≤ limits.passings

-- where a step leads, and what it leaves
pub record Taken : Type 0 where
  pub way : Way
  pub left : Machine

-- the end of the thread, with nothing counted
abbrev pub ending : End → Machine → Taken
ending end m = record { way = ways.Ends end; left = m }

-- an instruction that goes on at a place, and is counted
abbrev pub going : ℕ → Machine → Taken
going place m = record { way = ways.To place; left = record m { instructions = m.instructions + 1 } }

-- a value into a register
abbrev pub loading : ℕ → ℕ → ℕ → Machine → Taken
loading place reg value m = going place (record m { registers = slice_set m.registers reg value })

-- the same for a value that was computed, by which the zero flag is set
abbrev pub computing : ℕ → ℕ → ℕ → Machine → Taken
computing place reg value m = going place (record m { registers = slice_set m.registers reg value; zero_flag = value == 0 })

-- a value is pushed, if there is room
abbrev pub pushing : ℕ → ℕ → Machine → Taken
pushing place value m =
    if length m.stack == stack_limit then ending ends.StackFull m else going place (record m { stack = value ∷ m.stack })

-- the value on top of the stack goes into a register, if there is one
abbrev pub popping : ℕ → ℕ → Machine → List ℕ → Taken
popping place reg m [] = ending ends.StackEmpty m
popping place reg m (value ∷ stack) =
    going place (record m { registers = slice_set m.registers reg value; stack = stack })

-- back to the address on top of the stack, or out of the thread if there is none
abbrev pub returning : Machine → List ℕ → Taken
returning m [] = record { way = ways.Ends ends.Returned; left = record m { instructions = m.instructions + 1 } }
returning m (address ∷ stack) =
    record { way = ways.Back address; left = record m { stack = stack; instructions = m.instructions + 1 } }

-- the low byte of rax is output, if there is room
abbrev pub putting : ℕ → Machine → Taken
putting place m =
    if length m.output == output_limit then ending ends.OutputFull m
    else going place (record m { output = m.output ++ slice_index m.registers 0 % 256 ∷ [] })

-- on at a place, with nothing done
abbrev pub staying : ℕ → Machine → Taken
staying place m = record { way = ways.To place; left = m }

-- an exit sled after its passing: a return
abbrev pub leaving : Limits → Machine → Taken
leaving limits m = if m.instructions == limits.fuel then ending ends.Fuel m else returning m m.stack

-- a passing, if one is left, and what follows it
abbrev pub passing : Limits → Machine → (Machine → Taken) → Taken
passing limits m following =
    if m.passings == limits.passings then ending ends.Passings m else following (record m { passings = m.passings + 1 })

-- the step at a place, once it has the fuel that it wants
abbrev pub acting : Limits → ℕ → Machine → Step → Taken
acting limits place m (steps.Mov dst imm) = loading (place + 1) dst imm m
acting limits place m (steps.Add dst src) =
    computing (place + 1) dst ((slice_index m.registers dst + slice_index m.registers src) % 2 ^ 64) m
acting limits place m (steps.Sub dst src) =
    computing (place + 1) dst ((slice_index m.registers dst + (2 ^ 64 - slice_index m.registers src)) % 2 ^ 64) m
acting limits place m (steps.Push reg) = pushing (place + 1) (slice_index m.registers reg) m
acting limits place m (steps.Pop reg) = popping (place + 1) reg m m.stack
acting limits place m (steps.Call target back) = pushing target back m
acting limits place m (steps.Jmp target) = going target m
acting limits place m (steps.Jnz target) = going (if m.zero_flag then place + 1 else target) m
acting limits place m steps.Ret = returning m m.stack
acting limits place m steps.Out = putting (place + 1) m
acting limits place m (steps.Passing sled) = passing limits m (staying (place + 1))
acting limits place m (steps.Leaving sled) = passing limits m (leaving limits)
acting limits place m steps.Pad = staying (place + 1) m
acting limits place m steps.Nowhere = ending ends.BadTarget m

-- the step at a place
abbrev pub stepping : Limits → ℕ → Machine → Step → Taken
stepping limits place m step =
    if wants_fuel step && (m.instructions == limits.fuel) then ending ends.Fuel m else acting limits place m step

-- from this state the thread runs to this end, and leaves the machine like this
pub record RunsFrom (program : Program) (limits : Limits) (thread : ℕ) (s : State) (end : End) (left : Machine) : Type 0 where
  pub steps : ℕ
  pub passed : List Passing
  pub address : ℕ
  pub runs : RunsTo program limits thread steps s passed end (state_at address left)
