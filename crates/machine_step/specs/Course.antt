-- The way of a plain run up to one of its passings.
use Rattle.std.specs.Prelude.{◌≡◌, ◌++◌, ℕ, zero, suc, List, [], ◌∷◌}
use Rattle.xray_image.specs.Program.{Program}
use Rattle.machine_step.specs.declared.limits.Limits.{Limits}
use Rattle.machine_step.specs.PlainStep.{State, Next, Goes, Passing, PlainStep, opening}

-- this many steps lead from one state to another, with these passings on the way
abbrev pub Reaches : Program → Limits → ℕ → ℕ → State → List Passing → State → Type 0
Reaches program limits thread zero s passed reached = (passed ≡ []) × (reached ≡ s)
Reaches program limits thread (suc n) s passed reached =
    (made : List Passing) × (later : List Passing) × (mid : State)
    × PlainStep program limits thread s made (Goes mid)
    × Reaches program limits thread n mid later reached
    × (passed ≡ made ++ later)

-- the steps of a thread lead from its opening, with these passings on the way, to a state whose next step is a passing
pub record ComesTo (program : Program) (limits : Limits) (thread : ℕ) (passed : List Passing) (s : State) (next : Passing) : Type 0 where
  pub steps : ℕ
  pub reached : Reaches program limits thread steps (opening program thread) passed s
  pub following : Next
  pub passes : PlainStep program limits thread s (next ∷ []) following
