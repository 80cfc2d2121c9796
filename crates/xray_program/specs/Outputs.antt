-- What is left of outputs, each a name and its bytes, and of the text after them.
use Rattle.std.specs.Prelude.{◌≡◌, ◌⊎◌, ℕ, List, ◌∷◌, ◌++◌, All, codes}
use Rattle.xray_io.specs.Desk.{Entry, made_to_hold}
use Rattle.xray_io.specs.Faults.{Rose}
use Rattle.xray_io.specs.Sink.{AddsPrefix}
use Rattle.xray_io.specs.World.{DeskView, SinkView}

-- nothing was written: the desk holds what it held, and out has what it had
abbrev pub WritesNothing : (desk desk_now : DeskView) → (out out_now : SinkView) → Type 0
WritesNothing desk desk_now out out_now = (desk_now.held ≡ desk.held) × (out_now.written ≡ out.written)

-- no fault of the desk was counted, of reading or of writing
pub record NoFault (desk desk_now : DeskView) : Type 0 where
  pub reads : desk_now.read_faults ≡ desk.read_faults
  pub writes : desk_now.write_faults ≡ desk.write_faults

-- each output's name holds exactly its bytes
abbrev pub OutputsAreWhole : List (List ℕ × List ℕ) → (held held_now : List ℕ → Entry) → Type 0
OutputsAreWhole outputs held held_now = All (λ output. held_now output.0 ≡ made_to_hold (held output.0) output.1) outputs

-- each output's name holds what it held
abbrev pub AreUntouched : List (List ℕ × List ℕ) → (held held_now : List ℕ → Entry) → Type 0
AreUntouched outputs held held_now = All (λ output. held_now output.0 ≡ held output.0) outputs

-- a name holds what it held, or a prefix of these bytes
abbrev pub HoldsPrefix : (old new : Entry) → List ℕ → Type 0
HoldsPrefix old new bytes =
    (new ≡ old) ⊎ ((sent : List ℕ) × (rest : List ℕ) × (bytes ≡ sent ++ rest) × (new ≡ made_to_hold old sent))

-- The output of this name failed, and the desk's write faults rose. Earlier outputs are whole. The failed output holds
-- what it held before, or a prefix of its bytes. Later outputs are untouched.
pub record FailsAt (outputs : List (List ℕ × List ℕ)) (desk desk_now : DeskView) (name : List ℕ) : Type 0 where
  pub earlier : List (List ℕ × List ℕ)
  pub bytes : List ℕ
  pub later : List (List ℕ × List ℕ)
  pub order : outputs ≡ earlier ++ (name, bytes) ∷ later
  pub fault : Rose desk.write_faults desk_now.write_faults
  pub whole : OutputsAreWhole earlier desk.held desk_now.held
  pub prefix : HoldsPrefix (desk.held name) (desk_now.held name) bytes
  pub untouched : AreUntouched later desk.held desk_now.held

-- out failed, which is named `output`: all outputs are whole, and out has a prefix of the text
pub record FailsAtOut (outputs : List (List ℕ × List ℕ)) (text : List ℕ) (desk desk_now : DeskView) (out out_now : SinkView) (name : List ℕ) : Type 0 where
  pub is_out : name ≡ codes "output"
  pub fault : Rose out.faults out_now.faults
  pub whole : OutputsAreWhole outputs desk.held desk_now.held
  pub prefix : AddsPrefix out.written out_now.written text

-- what failed of outputs and of the text after them: an output, with nothing on out; or out
abbrev pub FailsWriting : List (List ℕ × List ℕ) → (text : List ℕ) → (desk desk_now : DeskView) → (out out_now : SinkView) → List ℕ → Type 0
FailsWriting outputs text desk desk_now out out_now name =
    (FailsAt outputs desk desk_now name × (out_now.written ≡ out.written))
    ⊎ FailsAtOut outputs text desk desk_now out out_now name
