-- What is asked of a command, so that the laws of all commands hold of it.
use Rattle.std.specs.Prelude.{◌≡◌, ◌⊎◌, ◌<◌, ℕ, List, All, None, ⊤}
use Rattle.xray_program.specs.Doings.{Chooses, Doing, Finds, Gives, IsWriting, Leaves, Leaving, RefusesIf, Takes, Taking}
use Rattle.xray_program.specs.Taking.{Form}

-- ---- kinds of input

-- bytes read in at most one way, are refused for at most one reason, and never both
pub record IsUnique {X : Type 0} (form : Form X) : Type 0 where
  pub one : (bytes : List ℕ) (a b : X) → form.Reads bytes a → form.Reads bytes b → a ≡ b
  pub why : (bytes r s : List ℕ) → form.Refuses bytes r → form.Refuses bytes s → r ≡ s
  pub not_both : (bytes : List ℕ) (a : X) (r : List ℕ) → form.Reads bytes a → form.Refuses bytes r → ⊥

-- each number is a byte
abbrev pub AreBytes : List ℕ → Type 0
AreBytes bytes = All (λ b. b < 256) bytes

-- bytes read as a value, or are refused
abbrev pub IsJudged : {X : Type 0} → Form X → Type 0
IsJudged {X} form = (bytes : List ℕ) → AreBytes bytes
    → ((value : X) × form.Reads bytes value) ⊎ ((refusal : List ℕ) × form.Refuses bytes refusal)

-- both
pub record IsKind {X : Type 0} (form : Form X) : Type 0 where
  pub unique : IsUnique form
  pub judged : IsJudged form

-- ---- commands

-- each kind of input is one, and this holds of what the inputs give
abbrev pub AreKinds : {Y : Type 0} {names : List (List ℕ)} → Taking Y names → (Y → Type 0) → Type 0
AreKinds (Takes {X} form name next) Then = IsKind form × ((bytes : List ℕ) (value : X) → form.Reads bytes value → AreKinds (next value) Then)
AreKinds (Gives y) Then = Then y

-- an outcome is left that writes
abbrev pub LeavesWriting : Leaving → Type 0
LeavesWriting (Leaves outcome) = IsWriting outcome
LeavesWriting _ = ⊥

-- What is found is there, and is only one thing. There is something to choose, and no refusal follows a choice.
abbrev pub IsLawful : Leaving → Type 0
IsLawful (RefusesIf reason name kind next) = reason ≡ None → IsLawful next
IsLawful (Finds {X} Is next) =
    ((value : X) × Is value) × ((value other : X) → Is value → Is other → value ≡ other) × ((value : X) → Is value → IsLawful (next value))
IsLawful (Chooses {X} Is next) = ((value : X) × Is value) × ((value : X) → Is value → LeavesWriting (next value))
IsLawful (Leaves outcome) = ⊤

abbrev pub IsLawfulDoing : Doing → Type 0
IsLawfulDoing doing = AreKinds doing.takes (λ y. IsLawful (doing.leaves y))
