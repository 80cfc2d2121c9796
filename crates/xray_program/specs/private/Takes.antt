-- How the turns of inputs end: with values, or with a stop.
use Rattle.std.specs.Prelude.{◌≡◌, ◌⊎◌, ◌<◌, ◌≤◌, ◌+◌, ℕ, List, length, Option, Some, None, OnOk, Result, Ok, Err, ⊤}
use Rattle.xray_io.specs.Calls.{CallMade, Went}
use Rattle.xray_io.specs.Desk.{Entry, Absent}
use Rattle.xray_io.specs.Reads.{Reads, ReadsSome, ReadsUpToFault}
use Rattle.xray_io.specs.Faults.{Rose}
use Rattle.xray_io.specs.declared.faults.ReadError.{ReadError}
use Rattle.xray_io.specs.declared.faults.ReadError.TheVariants as errors
use Rattle.fault_words.specs.Words.{words_text}
use Rattle.xray_program.specs.Order.{ReadsWhole}
use Rattle.xray_program.specs.Outcomes.{Outcome, Unread, TooLong, Refused}
use Rattle.xray_program.specs.Taking.{Form, IsAcceptedAs, MayHold}
use Rattle.xray_io.specs.World.{DeskView}
use Rattle.xray_program.specs.declared.stop.Stop.{Stop}
use Rattle.xray_program.specs.declared.stop.Stop.TheVariants as stops

-- bytes that the name may hold are refused in this way
pub record Rejects {X : Type 0} (form : Form X) (entry : Entry) (refusal : List ℕ) : Type 0 where
  pub bytes : List ℕ
  pub held : MayHold entry bytes
  pub within : length bytes ≤ form.limit
  pub refused : form.Refuses bytes refusal

-- bytes that the name may hold are too many
pub record IsTooLong (limit : ℕ) (entry : Entry) : Type 0 where
  pub bytes : List ℕ
  pub held : MayHold entry bytes
  pub long : limit < length bytes

-- reads failed, or the desk doesn't hold the name
abbrev pub IsLost : (before after : DeskView) → List ℕ → Type 0
IsLost before after name = Rose before.read_faults after.read_faults ⊎ (before.held name ≡ Absent)

-- the turn of the input of this name ends with a value, or with a stop, which names the input unless memory ran out
abbrev pub IsTaken : {X : Type 0} → Form X → List ℕ → (before after : DeskView) → Result X Stop → Type 0
IsTaken form name before after (Ok value) = IsAcceptedAs form (before.held name) value
IsTaken form name before after (Err (stops.Unread n)) = (n.now ≡ name) × IsLost before after name
IsTaken form name before after (Err (stops.TooLong n)) = (n.now ≡ name) × IsTooLong form.limit (before.held name)
IsTaken form name before after (Err (stops.Refused n kind words)) =
    (n.now ≡ name) × (kind.now ≡ form.kind) × Rejects form (before.held name) (words_text words)
IsTaken form name before after (Err stops.NoMemory) = ⊤
IsTaken form name before after (Err stop) = ⊥

-- the turn of an input, if its value only says something of what it reads as
abbrev pub IsTakenAs : {V X : Type 0} → Form X → (means : V → X → Type 0) → List ℕ → (before after : DeskView) → Result V Stop → Type 0
IsTakenAs {V} {X} form means name before after (Ok value) = (meant : X) × means value meant × IsAcceptedAs form (before.held name) meant
IsTakenAs form means name before after (Err stop) = IsTaken form name before after (Err stop)

-- A stop at one of the inputs of which this comes: an outcome that comes. If an input can't be read, its turn had come,
-- and reads failed or that is meant too.
abbrev pub IsStopAtInput : (comes : Outcome → Type 0) → (reached : List ℕ → Type 0) → (before after : DeskView) → Stop → Type 0
IsStopAtInput comes reached before after (stops.Unread n) =
    reached n.now × (Rose before.read_faults after.read_faults ⊎ ((before.held n.now ≡ Absent) × comes (Unread n.now)))
IsStopAtInput comes reached before after (stops.TooLong n) = comes (TooLong n.now)
IsStopAtInput comes reached before after (stops.Refused n kind words) = comes (Refused n.now kind.now (words_text words))
IsStopAtInput comes reached before after stops.NoMemory = ⊤
IsStopAtInput comes reached before after stop = ⊥

-- what an error of reading comes to: an input that can't be read or is too long, or out of memory
abbrev pub IsReadStop : List ℕ → ReadError → Stop → Type 0
IsReadStop name error (stops.Unread n) = (n.now ≡ name) × (error ≡ errors.ReadFault)
IsReadStop name error (stops.TooLong n) = (n.now ≡ name) × (error ≡ errors.TooLong)
IsReadStop name error stops.NoMemory = error ≡ errors.NoMemory
IsReadStop name error stop = ⊥

-- what a reader's fault comes to: a refusal in its words, or out of memory if there are none
abbrev pub IsFaultStop : (name kind : List ℕ) → Option (List ℕ) → Stop → Type 0
IsFaultStop name kind told (stops.Refused n k words) = (n.now ≡ name) × (k.now ≡ kind) × (told ≡ Some (words_text words))
IsFaultStop name kind told stops.NoMemory = told ≡ None
IsFaultStop name kind told stop = ⊥

-- ---- the calls of the desk

-- the calls of an input's turn that ended with a stop
abbrev pub StopsTaking : List ℕ → (limit : ℕ) → Stop → List CallMade → Type 0
StopsTaking name limit (stops.Unread n) calls = ReadsUpToFault name (limit + 1) calls
StopsTaking name limit (stops.TooLong n) calls = Reads name (limit + 1) 0 (limit + 1) calls
StopsTaking name limit (stops.Refused n kind words) calls = ReadsWhole name limit calls
StopsTaking name limit stops.NoMemory calls = ReadsSome name (limit + 1) calls ⊎ ReadsWhole name limit calls
StopsTaking name limit stop calls = ⊥

-- the calls of an input's turn
abbrev pub IsTaking : {X : Type 0} → List ℕ → (limit : ℕ) → Result X Stop → List CallMade → Type 0
IsTaking name limit (Ok value) calls = ReadsWhole name limit calls
IsTaking name limit (Err stop) calls = StopsTaking name limit stop calls

-- ---- all that the turn of an input does

-- The turn of an input of this name and this form ended in this way, with its calls. The desk holds what it held. Only
-- faults of reading were added, and none if the turn gave a value.
pub record TakesInput {X : Type 0} (form : Form X) (name : List ℕ) (before after : DeskView) (Way : List CallMade → Type 0) (result : Result X Stop) : Type 0 where
  pub taken : IsTaken form name before after result
  pub calls : Went Way (IsTaking name form.limit result)
  pub held : after.held ≡ before.held
  pub later : before.read_faults ≤ after.read_faults
  pub writes : after.write_faults ≡ before.write_faults
  pub calm : OnOk result (after.read_faults ≡ before.read_faults)
