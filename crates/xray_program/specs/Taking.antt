-- An input in its turn: how it is judged, and what comes of it.
use Rattle.std.specs.Prelude.{◌≡◌, ◌⊎◌, ◌<◌, ◌≤◌, ℕ, List, length, Option, Some, None, ⊤}
use Rattle.xray_io.specs.Desk.{Entry, Untold, Absent, Holds}
use Rattle.xray_program.specs.Outcomes.{Outcome, Unread, TooLong, Refused, Done, Fell}

-- A kind of input: its name in a line on err, the most bytes that it may have, what its bytes read as, and why they are
-- refused, in the words of the line.
pub record Form (X : Type 0) : Type 1 where
  pub kind : List ℕ
  pub limit : ℕ
  pub Reads : List ℕ → X → Type 0
  pub Refuses : List ℕ → List ℕ → Type 0

-- a kind of input that is never refused: any bytes are its value
abbrev pub any_bytes : (kind : List ℕ) → (limit : ℕ) → Form (List ℕ)
any_bytes kind limit = record { kind = kind; limit = limit; Reads = λ bytes value. value ≡ bytes; Refuses = λ _ _. ⊥ }

-- the bytes that a name may hold, by what the desk reports of it
abbrev pub MayHold : Entry → List ℕ → Type 0
MayHold Untold bytes = ⊤
MayHold Absent bytes = ⊥
MayHold (Holds content) bytes = bytes ≡ content

-- An input is accepted as this value: its name may hold bytes that are within the limit of their kind and read as the
-- value.
pub record IsAcceptedAs {X : Type 0} (form : Form X) (entry : Entry) (value : X) : Type 0 where
  pub bytes : List ℕ
  pub held : MayHold entry bytes
  pub within : length bytes ≤ form.limit
  pub reads : form.Reads bytes value

-- Bytes are judged: they are too many, or they are refused, or they read as a value, and what follows is that value's.
abbrev pub Judge : {X : Type 0} → Form X → (name bytes : List ℕ) → (X → Outcome → Type 0) → Outcome → Type 0
Judge {X} form name bytes next outcome =
    ((form.limit < length bytes) × (outcome ≡ TooLong name))
    ⊎ ((length bytes ≤ form.limit)
    × (((refusal : List ℕ) × form.Refuses bytes refusal × (outcome ≡ Refused name form.kind refusal))
    ⊎ ((value : X) × form.Reads bytes value × next value outcome)))

-- An input is taken in its turn. The desk doesn't hold it; or the bytes that it holds are judged, and then it is the turn
-- of what follows.
abbrev pub Take : {X : Type 0} → Form X → (List ℕ → Entry) → List ℕ → (X → Outcome → Type 0) → Outcome → Type 0
Take form held name next outcome =
    ((held name ≡ Absent) × (outcome ≡ Unread name))
    ⊎ ((bytes : List ℕ) × MayHold (held name) bytes × Judge form name bytes next outcome)

-- after all inputs: the one of this name is refused if there is a reason; otherwise the work goes on
abbrev pub RefuseIf : Option (List ℕ) → (name kind : List ℕ) → (Outcome → Type 0) → Outcome → Type 0
RefuseIf None name kind next outcome = next outcome
RefuseIf (Some refusal) name kind next outcome = outcome ≡ Refused name kind refusal

-- outputs and a text are left; all is well, unless something is found to be wrong
abbrev pub ended_by : List (List ℕ × List ℕ) → (text : List ℕ) → (trouble : Option (List ℕ)) → Outcome
ended_by outputs text None = Done outputs text
ended_by outputs text (Some trouble) = Fell outputs text trouble
