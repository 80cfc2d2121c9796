-- How the work of a command ends, once its inputs were taken, and how a whole call ends, before the line on err.
use Rattle.std.specs.Prelude.{◌≡◌, ◌⊎◌, ℕ, List, Contains, Option, Some, None, Result, Ok, Err, map}
use Rattle.xray_io.specs.Calls.{CallMade, Went}
use Rattle.xray_io.specs.Desk.{Absent}
use Rattle.xray_io.specs.Faults.{Rose}
use Rattle.fault_words.specs.Words.{words_text}
use Rattle.xray_io.specs.Sink.{Adds}
use Rattle.xray_program.specs.Commands.{Means, HadItsTurn, outputs_named}
use Rattle.xray_program.specs.Order.{FailsAtOutput, InOrder, IsNoCall, IsUnmade, MakesAll}
use Rattle.xray_program.specs.Outcomes.{Outcome, BadLine, Unread, Refused, Done, Fell, Ending, With, Unwritten, NoMemory, status_at, err_line_at, written_by}
use Rattle.xray_program.specs.Outputs.{OutputsAreWhole, FailsAt, FailsWriting, NoFault, WritesNothing}
use Rattle.command_words.specs.Ranges.{HasRanges}
use Rattle.command_words.specs.Words.{Command}
use Rattle.xray_io.specs.World.{DeskView, SinkView}
use Rattle.xray_program.specs.declared.stop.Stop.{Stop}
use Rattle.xray_program.specs.declared.stop.Stop.TheVariants as stops

-- the names of outputs
abbrev pub names_of : List (List ℕ × List ℕ) → List (List ℕ)
names_of outputs = map (λ output. output.0) outputs

-- each name that isn't one of these holds what it held
abbrev pub KeepsOthers : List (List ℕ) → (desk desk_now : DeskView) → Type 0
KeepsOthers names desk desk_now = (name : List ℕ) → (Contains names name → ⊥) → desk_now.held name ≡ desk.held name

-- ---- outputs and a text

-- a stop of one of the outputs
abbrev pub StopsOutputs : List (List ℕ × List ℕ) → (desk desk_now : DeskView) → Stop → Type 0
StopsOutputs outputs desk desk_now (stops.Unwritten n) = FailsAt outputs desk desk_now n.now
StopsOutputs outputs desk desk_now stop = ⊥

-- the calls that made the outputs, or those up to the one that failed
abbrev pub AreMakings : List (List ℕ × List ℕ) → (desk desk_now : DeskView) → Result (Unit {0}) Stop → List CallMade → Type 0
AreMakings outputs desk desk_now (Ok done) calls = MakesAll outputs calls
AreMakings outputs desk desk_now (Err (stops.Unwritten n)) calls = FailsAtOutput outputs desk desk_now n.now calls
AreMakings outputs desk desk_now (Err stop) calls = ⊥

-- outputs are whole, out has exactly a text, and no fault of the desk or of out was counted
pub record Writes (outputs : List (List ℕ × List ℕ)) (text : List ℕ) (desk desk_now : DeskView) (out out_now : SinkView) : Type 0 where
  pub whole : OutputsAreWhole outputs desk.held desk_now.held
  pub printed : Adds out.written out_now.written text
  pub desk_calm : NoFault desk desk_now
  pub calm : out_now.faults ≡ out.faults

-- outputs and a text were written, and all is well unless something is wrong all the same; or one of them failed
abbrev pub Delivers : List (List ℕ × List ℕ) → (text : List ℕ) → (trouble : Option (List ℕ)) → (desk desk_now : DeskView)
    → (out out_now : SinkView) → (Way : List CallMade → Type 0) → Result (Unit {0}) Stop → Type 0
Delivers outputs text trouble desk desk_now out out_now Way (Ok done) =
    (trouble ≡ None) × Writes outputs text desk desk_now out out_now × Went Way (MakesAll outputs)
Delivers outputs text trouble desk desk_now out out_now Way (Err (stops.Fell words)) =
    (trouble ≡ Some (words_text words)) × Writes outputs text desk desk_now out out_now × Went Way (MakesAll outputs)
Delivers outputs text trouble desk desk_now out out_now Way (Err (stops.Unwritten n)) =
    FailsWriting outputs text desk desk_now out out_now n.now × Went Way (IsUnmade outputs desk desk_now n.now)
Delivers outputs text trouble desk desk_now out out_now Way (Err stop) = ⊥

-- ---- the work of a command

-- an outcome of which this holds was written
pub record IsLeft (Comes : Outcome → Type 0) (desk desk_now : DeskView) (out out_now : SinkView) (of : List (List ℕ × List ℕ) → List ℕ → Outcome)
    (Then : List (List ℕ × List ℕ) → Type 0) : Type 0 where
  pub outputs : List (List ℕ × List ℕ)
  pub text : List ℕ
  pub comes : Comes (of outputs text)
  pub writes : Writes outputs text desk desk_now out out_now
  pub then_so : Then outputs

-- one couldn't be written: the output of this name failed, or out did
pub record FailsToLeave (Comes : Outcome → Type 0) (desk desk_now : DeskView) (out out_now : SinkView) (name : List ℕ)
    (Then : List (List ℕ × List ℕ) → Type 0) : Type 0 where
  pub outcome : Outcome
  pub comes : Comes outcome
  pub outputs : List (List ℕ × List ℕ)
  pub text : List ℕ
  pub writes : written_by outcome ≡ Some (outputs, text)
  pub failed : FailsWriting outputs text desk desk_now out out_now name
  pub then_so : Then outputs

-- The work is done over inputs of which this comes. What comes was written, or it couldn't be. Or the inputs are
-- refused, or memory ran out, and nothing was written.
abbrev pub Finishes : (comes : Outcome → Type 0) → (desk desk_now : DeskView) → (out out_now : SinkView) → (Way : List CallMade → Type 0)
    → Result (Unit {0}) Stop → Type 0
Finishes comes desk desk_now out out_now Way (Ok done) =
    IsLeft comes desk desk_now out out_now Done (λ outputs. Went Way (MakesAll outputs))
Finishes comes desk desk_now out out_now Way (Err (stops.Fell words)) =
    IsLeft comes desk desk_now out out_now (λ outputs text. Fell outputs text (words_text words)) (λ outputs. Went Way (MakesAll outputs))
Finishes comes desk desk_now out out_now Way (Err (stops.Unwritten n)) =
    FailsToLeave comes desk desk_now out out_now n.now (λ outputs. Went Way (IsUnmade outputs desk desk_now n.now))
Finishes comes desk desk_now out out_now Way (Err (stops.Refused n kind words)) =
    comes (Refused n.now kind.now (words_text words)) × WritesNothing desk desk_now out out_now × Went Way IsNoCall
Finishes comes desk desk_now out out_now Way (Err stops.NoMemory) = WritesNothing desk desk_now out out_now × Went Way IsNoCall
Finishes comes desk desk_now out out_now Way (Err stop) = ⊥

-- ---- all of a call

-- An outcome comes of what was said: it is meant. If an input can't be read, that may also be because reads failed in
-- its turn.
abbrev pub IsCaused : Option Command → (desk desk_now : DeskView) → Outcome → Type 0
IsCaused said desk desk_now BadLine = said ≡ None
IsCaused said desk desk_now (Unread name) =
    HadItsTurn said desk.held name
    × (Rose desk.read_faults desk_now.read_faults ⊎ ((desk.held name ≡ Absent) × Means said desk.held (Unread name)))
IsCaused said desk desk_now outcome = Means said desk.held outcome

-- what an outcome writes is written
abbrev pub IsWritten : Option (List (List ℕ × List ℕ) × List ℕ) → (desk desk_now : DeskView) → (out out_now : SinkView) → Type 0
IsWritten None desk desk_now out out_now = WritesNothing desk desk_now out out_now
IsWritten (Some (outputs, text)) desk desk_now out out_now = Writes outputs text desk desk_now out out_now

-- what an ending of a call comes of
abbrev pub StandsAfter : Option Command → (desk desk_now : DeskView) → (out out_now : SinkView) → Ending → Type 0
StandsAfter said desk desk_now out out_now (With outcome) =
    IsCaused said desk desk_now outcome × IsWritten (written_by outcome) desk desk_now out out_now
StandsAfter said desk desk_now out out_now (Unwritten name outputs) =
    FailsToLeave (Means said desk.held) desk desk_now out out_now name (λ left. left ≡ outputs)
StandsAfter said desk desk_now out out_now NoMemory = WritesNothing desk desk_now out out_now

-- what words say is in its ranges
abbrev pub SaidHasRanges : Option Command → Type 0
SaidHasRanges None = Unit {0}
SaidHasRanges (Some command) = HasRanges command

-- how a call ends, before the line on err: with this status and this line
pub record Ends (said : Option Command) (desk desk_now : DeskView) (out out_now : SinkView) (Way : List CallMade → Type 0) (answer : ℕ)
    (line : List ℕ) : Type 0 where
  pub ending : Ending
  pub status : status_at ending ≡ answer
  pub told : err_line_at ending ≡ line
  pub stands : StandsAfter said desk desk_now out out_now ending
  pub names : KeepsOthers (outputs_named said) desk desk_now
  pub order : Went Way (InOrder said desk desk_now ending)
