-- The order in which a call asks its desk.
use Rattle.std.specs.Prelude.{◌≡◌, ◌⊎◌, ℕ, ◌+◌, List, [], ◌∷◌, ◌++◌, length, codes, MatchOption, Option, Ok, Err, ⊤}
use Rattle.xray_io.specs.Calls.{CallMade}
use Rattle.xray_io.specs.Desk.{Entry}
use Rattle.xray_io.specs.Outputs.{IsMaking, Makes}
use Rattle.xray_io.specs.Reads.{Reads, ReadsSome, ReadsUpTo, ReadsUpToFault}
use Rattle.xray_io.specs.World.{DeskView}
use Rattle.xray_io.specs.declared.faults.WriteFault.{WriteFault}
use Rattle.xray_program.specs.Commands.{doing_of}
use Rattle.xray_program.specs.Doings.{Gives, Leaving, MayLeave, Takes, Taking}
use Rattle.xray_program.specs.Outcomes.{BadLine, Unread, TooLong, Refused, Done, Fell, Ending, With, Unwritten, NoMemory}
use Rattle.xray_program.specs.Taking.{IsAcceptedAs}
use Rattle.command_words.specs.Words.{Command}

-- ---- inputs

-- an input was read whole: each read began where the one before it ended, and none asked for a byte past the first
-- after its limit
abbrev pub ReadsWhole : List ℕ → (limit : ℕ) → List CallMade → Type 0
ReadsWhole name limit calls = (to : ℕ) × ReadsUpTo name (limit + 1) to (Ok 0) calls

-- The first inputs were read whole, one after another, and each is accepted as the value for which the next was taken.
-- This holds of what was still to be taken, and of the calls from then on.
abbrev pub ReadsInputs : {Y : Type 0} {names : List (List ℕ)} → Taking Y names → (List ℕ → Entry) → (At : (left : List (List ℕ)) → Taking Y left → List CallMade → Type 0) → List CallMade → Type 0
ReadsInputs (Takes {X} form name next) held At calls =
    At _ (Takes form name next) calls
    ⊎ ((mine : List CallMade) × (later : List CallMade) × (value : X) × (calls ≡ mine ++ later) × ReadsWhole name form.limit mine
    × IsAcceptedAs form (held name) value × ReadsInputs (next value) held At later)
ReadsInputs (Gives y) held At calls = At _ (Gives y) calls

-- the input of this name is next, and this holds of its limit and the calls
abbrev pub IsNext : {Y : Type 0} → (name : List ℕ) → (Last : (limit : ℕ) → List CallMade → Type 0) → (left : List (List ℕ)) → Taking Y left → List CallMade → Type 0
IsNext wanted Last _ (Takes form name next) calls = (wanted ≡ name) × Last form.limit calls
IsNext wanted Last _ (Gives y) calls = ⊥

-- all inputs were taken, and this holds of what they give and of the calls
abbrev pub AreAllTaken : {Y : Type 0} → (Then : Y → List CallMade → Type 0) → (left : List (List ℕ)) → Taking Y left → List CallMade → Type 0
AreAllTaken Then _ (Takes form name next) calls = ⊥
AreAllTaken Then _ (Gives y) calls = Then y calls

-- ---- outputs

-- each output was made, one after another: its name was created once, and then its bytes were appended
abbrev pub MakesAll : List (List ℕ × List ℕ) → List CallMade → Type 0
MakesAll [] calls = calls ≡ []
MakesAll (output ∷ outputs) calls =
    (mine : List CallMade) × (later : List CallMade) × (calls ≡ mine ++ later) × Makes output.0 (length output.1) (Ok tt) mine × MakesAll outputs later

-- the outputs before this one were made; its creation failed, or an append to it, and no call came after that
pub record FailsAtOutput (outputs : List (List ℕ × List ℕ)) (desk desk_now : DeskView) (name : List ℕ) (calls : List CallMade) : Type 0 where
  pub earlier : List (List ℕ × List ℕ)
  pub bytes : List ℕ
  pub later : List (List ℕ × List ℕ)
  pub turn : outputs ≡ earlier ++ (name, bytes) ∷ later
  pub before : List CallMade
  pub last : List CallMade
  pub order : calls ≡ before ++ last
  pub makes : MakesAll earlier before
  pub fault : WriteFault
  pub fails : IsMaking name bytes (desk.held name) (desk_now.held name) (Err fault) last

-- the output of this name failed; or all outputs were made, and out failed, which is named `output`
abbrev pub IsUnmade : List (List ℕ × List ℕ) → (desk desk_now : DeskView) → List ℕ → List CallMade → Type 0
IsUnmade outputs desk desk_now name calls =
    FailsAtOutput outputs desk desk_now name calls ⊎ ((name ≡ codes "output") × MakesAll outputs calls)

-- no call was made
abbrev pub IsNoCall : List CallMade → Type 0
IsNoCall calls = calls ≡ []

-- ---- all of a call

-- the calls for the inputs that were said, before the one of this name, and then these calls for it
abbrev pub StopsAtInput : Option Command → (List ℕ → Entry) → (name : List ℕ) → (Last : (limit : ℕ) → List CallMade → Type 0) → List CallMade → Type 0
StopsAtInput said held name Last calls = MatchOption said ⊥ (λ command. ReadsInputs (doing_of command).takes held (IsNext name Last) calls)

-- the calls for all inputs that were said, and then these calls, if this may be left of what the inputs give
abbrev pub ReadsThen : Option Command → (List ℕ → Entry) → (Left : Leaving → Type 0) → (Then : List CallMade → Type 0) → List CallMade → Type 0
ReadsThen said held Left Then calls =
    MatchOption said ⊥ (λ command.
    ReadsInputs (doing_of command).takes held (AreAllTaken (λ y last. Left ((doing_of command).leaves y) × Then last)) calls)

-- The calls of a call that ended in this way. If the words say no command, there are none. The inputs are read in their
-- order, each whole before the next one, and each is accepted. A refusal is of the last input that was read, or it is
-- late, though each input is accepted. Memory runs out before any call, or at an input, or after all inputs.
abbrev pub InOrder : Option Command → (desk desk_now : DeskView) → Ending → List CallMade → Type 0
InOrder said desk desk_now (With BadLine) calls = calls ≡ []
InOrder said desk desk_now (With (Unread name)) calls = StopsAtInput said desk.held name (λ limit. ReadsUpToFault name (limit + 1)) calls
InOrder said desk desk_now (With (TooLong name)) calls = StopsAtInput said desk.held name (λ limit. Reads name (limit + 1) 0 (limit + 1)) calls
InOrder said desk desk_now (With (Refused name kind refusal)) calls =
    StopsAtInput said desk.held name (λ limit. ReadsWhole name limit) calls
    ⊎ ReadsThen said desk.held (λ left. MayLeave left (Refused name kind refusal)) IsNoCall calls
InOrder said desk desk_now (With (Done outputs text)) calls =
    ReadsThen said desk.held (λ left. MayLeave left (Done outputs text)) (MakesAll outputs) calls
InOrder said desk desk_now (With (Fell outputs text trouble)) calls =
    ReadsThen said desk.held (λ left. MayLeave left (Fell outputs text trouble)) (MakesAll outputs) calls
InOrder said desk desk_now (Unwritten name outputs) calls = ReadsThen said desk.held (λ left. ⊤) (IsUnmade outputs desk desk_now name) calls
InOrder said desk desk_now NoMemory calls =
    (calls ≡ [])
    ⊎ ((name : List ℕ) × StopsAtInput said desk.held name (λ limit last. ReadsSome name (limit + 1) last ⊎ ReadsWhole name limit last) calls)
    ⊎ ReadsThen said desk.held (λ left. ⊤) IsNoCall calls
