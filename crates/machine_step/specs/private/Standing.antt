-- Where machines are on their way, for the contracts of private functions.
use Rattle.std.specs.Prelude.{◌≡◌, ◌==◌, ℕ, List, [], ◌∷◌, Option, Some, None, if◌then◌else◌}
use Rattle.xray_image.specs.Program.{Program}
use Rattle.machine_step.specs.declared.limits.Limits.{Limits}
use Rattle.machine_step.specs.declared.machine.Machine.{Machine}
use Rattle.machine_step.specs.declared.step.Step.{Step}
use Rattle.machine_step.specs.declared.stand.Stand.{Stand}
use Rattle.machine_step.specs.declared.stand.Stand.TheVariants.{Gate, Loading, Ended}
use Rattle.machine_step.specs.PlainStep.{Passing, RunsTo}
use Rattle.machine_step.specs.Course.{Reaches}
use Rattle.machine_step.specs.private.Machine.{state_at}
use Rattle.machine_step.specs.private.Steps.{IsPlaceOf, IsStepAt, sled_at}

-- the sled of a step, if it has one and a passing is left for it
abbrev pub due_sled : Limits → Machine → Step → Option ℕ
due_sled limits m step = if m.passings == limits.passings then None else sled_at step

-- a machine at an address is before the sled of this number, and has a passing for it
pub record IsAtSled (program : Program) (limits : Limits) (address place k : ℕ) (m : Machine) : Type 0 where
  pub placed : IsPlaceOf program.units address place
  pub step : Step
  pub is_step : IsStepAt program place step
  pub due : due_sled limits m step ≡ Some k

-- steps with these passings on the way lead a machine from an address to where it is
abbrev pub RunsBy : Program → Limits → ℕ → ℕ → Machine → List Passing → Stand → Machine → Type 0
RunsBy program limits thread address before passed (Gate place k) after =
    (there : ℕ) × IsAtSled program limits there place k after
    × ((n : ℕ) × Reaches program limits thread n (state_at address before) passed (state_at there after))
RunsBy program limits thread address before passed (Loading place k at) after = ⊥
RunsBy program limits thread address before passed (Ended end) after =
    (there : ℕ) × ((n : ℕ) × RunsTo program limits thread n (state_at address before) passed end (state_at there after))

-- it runs on without a passing
abbrev pub RunsOnTo : Program → Limits → ℕ → Machine → Stand → Machine → Type 0
RunsOnTo program limits address before stand after =
    (thread : ℕ) → RunsBy program limits thread address before [] stand after

-- it makes one passing, and runs on
abbrev pub PassesTo : Program → Limits → ℕ → Machine → Stand → Machine → Type 0
PassesTo program limits address before stand after =
    (thread : ℕ) → (made : Passing) × RunsBy program limits thread address before (made ∷ []) stand after
