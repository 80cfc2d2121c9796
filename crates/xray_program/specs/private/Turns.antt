-- How the turns of the inputs of a command end, one after another: with values, or with a stop.
use Rattle.std.specs.Prelude.{◌≡◌, ◌≤◌, ℕ, List, [], OnOk, Result, Ok, Err}
use Rattle.xray_io.specs.Calls.{CallMade, Went}
use Rattle.xray_io.specs.World.{DeskView}
use Rattle.xray_program.specs.Doings.{Gives, Leaving, MayLeave, Takes, Taking}
use Rattle.xray_program.specs.Order.{AreAllTaken, ReadsInputs}
use Rattle.xray_program.specs.Outcomes.{Outcome}
use Rattle.xray_program.specs.private.Takes.{IsTaken, StopsTaking}
use Rattle.xray_program.specs.declared.stop.Stop.{Stop}

-- the input that is next was a stop, with these calls
abbrev pub StopsHere : {Y : Type 0} → (before after : DeskView) → Stop → (left : List (List ℕ)) → Taking Y left → List CallMade → Type 0
StopsHere before after stop _ (Takes form name next) calls = IsTaken form name before after (Err stop) × StopsTaking name form.limit stop calls
StopsHere before after stop _ (Gives y) calls = ⊥

-- all inputs gave values, of which this is known; or one was a stop
abbrev pub AreTurns : {Y V : Type 0} {names : List (List ℕ)} → Taking Y names → (means : V → Y → Type 0) → (before after : DeskView) → Result V Stop → List CallMade → Type 0
AreTurns inputs means before after (Ok value) = ReadsInputs inputs before.held (AreAllTaken (λ y calls. (calls ≡ []) × means value y))
AreTurns inputs means before after (Err stop) = ReadsInputs inputs before.held (StopsHere before after stop)

-- The turns ended in this way. The desk holds what it held. Only faults of reading were added, and none if the turns gave
-- values.
pub record Turns {Y V : Type 0} {names : List (List ℕ)} (inputs : Taking Y names) (means : V → Y → Type 0) (before after : DeskView) (Way : List CallMade → Type 0)
    (result : Result V Stop) : Type 0 where
  pub calls : Went Way (AreTurns inputs means before after result)
  pub held : after.held ≡ before.held
  pub later : before.read_faults ≤ after.read_faults
  pub writes : after.write_faults ≡ before.write_faults
  pub calm : OnOk result (after.read_faults ≡ before.read_faults)

-- an outcome comes of inputs: it may be left of all values of which they say this
abbrev pub ComesOfAll : {Y : Type 0} → (Y → Type 0) → (Y → Leaving) → Outcome → Type 0
ComesOfAll {Y} Means leaves outcome = (y : Y) → Means y → MayLeave (leaves y) outcome
