-- The steps that stand for a program's units, for the contracts of private functions.
use Rattle.std.specs.Prelude.{◌≡◌, ◌+◌, ◌⊎◌, ℕ, Bool, true, false, List, length, Option, Some, None, slice_get, Contains, MatchOption}
use Rattle.subset_decode.specs.declared.instr.Instr.{Instr}
use Rattle.subset_decode.specs.declared.instr.Instr.TheVariants.{Mov, Add, Sub, Push, Pop, Call, Jmp, Jnz, Ret, Out}
use Rattle.subset_decode.specs.Encoding.{spelling}
use Rattle.xray_image.specs.declared.sled.Sled.{Sled}
use Rattle.xray_image.specs.declared.sled.SledKind.{SledKind}
use Rattle.xray_image.specs.declared.sled.SledKind.TheVariants as kinds
use Rattle.xray_image.specs.declared.unit.Unit.{Unit}
use Rattle.xray_image.specs.declared.unit.What.{What}
use Rattle.xray_image.specs.declared.unit.What.TheVariants as whats
use Rattle.xray_image.specs.Program.{Program, addresses}
use Rattle.machine_step.specs.declared.step.Step.{Step}
use Rattle.machine_step.specs.declared.step.Step.TheVariants as steps
use Rattle.machine_step.specs.PlainStep.{branched}

-- the place of an address: the number of the unit that begins there, or if there is none, the place after the last unit
abbrev pub IsPlaceOf : List Unit → ℕ → ℕ → Type 0
IsPlaceOf units address place =
    (slice_get (addresses units) place ≡ Some address)
    ⊎ ((place ≡ length units) × (Contains (addresses units) address → ⊥))

-- the step of an instruction; `following` is the address after it
abbrev pub IsStepOfInstruction : List Unit → ℕ → Instr → Step → Type 0
IsStepOfInstruction units following (Mov dst imm) step = step ≡ steps.Mov dst imm
IsStepOfInstruction units following (Add dst src) step = step ≡ steps.Add dst src
IsStepOfInstruction units following (Sub dst src) step = step ≡ steps.Sub dst src
IsStepOfInstruction units following (Push reg) step = step ≡ steps.Push reg
IsStepOfInstruction units following (Pop reg) step = step ≡ steps.Pop reg
IsStepOfInstruction units following (Call rel) step =
    (target : ℕ) × IsPlaceOf units (branched following rel) target × (step ≡ steps.Call target following)
IsStepOfInstruction units following (Jmp rel) step =
    (target : ℕ) × IsPlaceOf units (branched following rel) target × (step ≡ steps.Jmp target)
IsStepOfInstruction units following (Jnz rel) step =
    (target : ℕ) × IsPlaceOf units (branched following rel) target × (step ≡ steps.Jnz target)
IsStepOfInstruction units following Ret step = step ≡ steps.Ret
IsStepOfInstruction units following (Out port) step = step ≡ steps.Out

-- the step of a sled, by its number and its kind
abbrev pub step_of_sled : ℕ → SledKind → Step
step_of_sled k kinds.Entry = steps.Passing k
step_of_sled k kinds.Exit = steps.Leaving k
step_of_sled k kinds.Tail = steps.Passing k
step_of_sled k kinds.Args = steps.Passing k

-- the step of what stands at an address
abbrev pub IsStepOf : Program → ℕ → What → Step → Type 0
IsStepOf program address (whats.Plain instr) step =
    IsStepOfInstruction program.units (address + length (spelling instr)) instr step
IsStepOf program address (whats.Sled k) step =
    (sled : Sled) × (slice_get program.sleds k ≡ Some sled) × (step ≡ step_of_sled k sled.kind)
IsStepOf program address whats.Pad step = step ≡ steps.Pad

-- the step at a place: that of the unit with this number, or none after the last unit
abbrev pub IsStepAt : Program → ℕ → Step → Type 0
IsStepAt program place step =
    MatchOption (slice_get program.units place) (step ≡ steps.Nowhere) (λ u. IsStepOf program u.address u.what step)

-- the steps at all places
pub record AreStepsOf (program : Program) (all : List Step) : Type 0 where
  pub count : length all ≡ length program.units + 1
  pub each : (place : ℕ) (step : Step) → slice_get all place ≡ Some step → IsStepAt program place step

-- instructions want fuel
abbrev pub wants_fuel : Step → Bool
wants_fuel (steps.Passing sled) = false
wants_fuel (steps.Leaving sled) = false
wants_fuel steps.Pad = false
wants_fuel steps.Nowhere = false
wants_fuel _ = true

-- the number of the sled that a step passes
abbrev pub sled_at : Step → Option ℕ
sled_at (steps.Passing sled) = Some sled
sled_at (steps.Leaving sled) = Some sled
sled_at _ = None
