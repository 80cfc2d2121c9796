-- What a command takes and leaves, as data. What comes of it, and when all is done, follow from this.
use Rattle.std.specs.Prelude.{◌≡◌, ◌⊎◌, ◌≤◌, ℕ, List, [], ◌∷◌, length, None, Option, ⊤}
use Rattle.xray_io.specs.Desk.{Entry, Holds}
use Rattle.xray_program.specs.Outcomes.{Outcome, written_by}
use Rattle.xray_program.specs.Taking.{Form, IsAcceptedAs, RefuseIf, Take}

-- Inputs in their turn, by their names: one of this kind, and those after it, for the value that it reads as; or no more,
-- and what the inputs give.
pub data Taking (Y : Type 0) : List (List ℕ) → Type 1 where
  Takes : {X : Type 0} {later : List (List ℕ)} → (form : Form X) → (name : List ℕ) → (X → Taking Y later) → Taking Y (name ∷ later)
  Gives : Y → Taking Y []

-- What is left after all inputs. The input of this name is refused if there is a reason, and otherwise the rest is left.
-- Or something is found of which this holds, and only one thing is. Or something of which it holds is chosen. Or an
-- outcome is left.
pub data Leaving : Type 1 where
  RefusesIf : (reason : Option (List ℕ)) → (name kind : List ℕ) → Leaving → Leaving
  Finds : {X : Type 0} → (X → Type 0) → (X → Leaving) → Leaving
  Chooses : {X : Type 0} → (X → Type 0) → (X → Leaving) → Leaving
  Leaves : Outcome → Leaving

-- what a command does: the inputs that it takes, by their names, and what is left of what they give
pub record Doing : Type 1 where
  pub Values : Type 0
  pub names : List (List ℕ)
  pub takes : Taking Values names
  pub leaves : Values → Leaving

-- ---- what comes of it

-- inputs lead to what follows from what they give
abbrev pub LeadsTo : {Y : Type 0} {names : List (List ℕ)} → Taking Y names → (List ℕ → Entry) → (Y → Outcome → Type 0) → Outcome → Type 0
LeadsTo (Takes form name next) held Follows = Take form held name (λ value. LeadsTo (next value) held Follows)
LeadsTo (Gives y) held Follows = Follows y

-- an outcome may be left
abbrev pub MayLeave : Leaving → Outcome → Type 0
MayLeave (RefusesIf reason name kind next) = RefuseIf reason name kind (MayLeave next)
MayLeave (Finds {X} Is next) = λ outcome. (value : X) × Is value × MayLeave (next value) outcome
MayLeave (Chooses {X} Is next) = λ outcome. (value : X) × Is value × MayLeave (next value) outcome
MayLeave (Leaves left) = λ outcome. outcome ≡ left

-- an outcome comes of a command
abbrev pub Comes : Doing → (List ℕ → Entry) → Outcome → Type 0
Comes doing held = LeadsTo doing.takes held (λ y. MayLeave (doing.leaves y))

-- the turn of the input of this name had come: each input before it is accepted
abbrev pub ReachesInput : {Y : Type 0} {names : List (List ℕ)} → Taking Y names → (List ℕ → Entry) → (name : List ℕ) → Type 0
ReachesInput (Takes {X} form name next) held wanted =
    (wanted ≡ name) ⊎ ((value : X) × IsAcceptedAs form (held name) value × ReachesInput (next value) held wanted)
ReachesInput (Gives y) held wanted = ⊥

-- nothing is left to choice
abbrev pub IsDetermined : Leaving → Type 0
IsDetermined (RefusesIf reason name kind next) = IsDetermined next
IsDetermined (Finds {X} Is next) = (value : X) → IsDetermined (next value)
IsDetermined (Chooses Is next) = ⊥
IsDetermined (Leaves outcome) = ⊤

-- ---- when all is done

-- the desk reports that a name holds bytes of this kind, within its limit, which read as this value
pub record HoldsInput {X : Type 0} (form : Form X) (entry : Entry) (value : X) : Type 0 where
  pub bytes : List ℕ
  pub holds : entry ≡ Holds bytes
  pub within : length bytes ≤ form.limit
  pub reads : form.Reads bytes value

-- the desk holds each input, which is accepted, and this holds of what they give
abbrev pub AllHeld : {Y : Type 0} {names : List (List ℕ)} → Taking Y names → (List ℕ → Entry) → (Y → Type 0) → Type 0
AllHeld (Takes {X} form name next) held Then = (value : X) × HoldsInput form (held name) value × AllHeld (next value) held Then
AllHeld (Gives y) held Then = Then y

-- an outcome writes, since it is no refusal
abbrev pub IsWriting : Outcome → Type 0
IsWriting outcome = written_by outcome ≡ None → ⊥

-- nothing is refused after all inputs, whatever is found or chosen
abbrev pub IsUnrefused : Leaving → Type 0
IsUnrefused (RefusesIf reason name kind next) = (reason ≡ None) × IsUnrefused next
IsUnrefused (Finds {X} Is next) = (value : X) → Is value → IsUnrefused (next value)
IsUnrefused (Chooses {X} Is next) = (value : X) → Is value → IsUnrefused (next value)
IsUnrefused (Leaves outcome) = IsWriting outcome
