-- The contract of the top call: what was said, the world before the call and after it, and the status.
use Rattle.std.specs.Prelude.{◌≡◌, ◌≢◌, ◌⊎◌, ◌↔◌, ℕ, List, Contains, Option, Some, None}
use Rattle.xray_io.specs.Calls.{CallMade, Went}
use Rattle.xray_io.specs.Desk.{Absent}
use Rattle.xray_io.specs.Faults.{Rose}
use Rattle.xray_io.specs.Sink.{Adds, AddsPrefix}
use Rattle.machine_step.specs.Setups.{IsSetup}
use Rattle.command_words.specs.declared.run_options.RunOptions.{RunOptions}
use Rattle.xray_program.specs.Commands.{Means, HadItsTurn, outputs_named}
use Rattle.xray_program.specs.Headline.{IsHeadline}
use Rattle.xray_program.specs.Order.{InOrder, IsNoCall}
use Rattle.xray_program.specs.Outcomes.{Outcome, Unread, Ending, With, Unwritten, NoMemory, status_of, status_at, err_line_at, written_by}
use Rattle.xray_program.specs.Outputs.{OutputsAreWhole, FailsWriting, NoFault, WritesNothing}
use Rattle.xray_program.specs.Setups.{setup_of}
use Rattle.command_words.specs.Words.{Command, Sim, Run}
use Rattle.xray_io.specs.World.{SinkView, World}

-- a sink got exactly this line, or a prefix of it and its faults rose
abbrev pub Says : (before after : SinkView) → List ℕ → Type 0
Says before after line =
    Adds before.written after.written line ⊎ (Rose before.faults after.faults × AddsPrefix before.written after.written line)

-- The call ended with an outcome that is meant and writes. Its outputs are whole, out has exactly its text, and no fault
-- of the desk or of out was counted. The headline is said of these outputs and this text.
pub record LeavesAll (said : Option Command) (before after : World) (ending : Ending) : Type 0 where
  pub outcome : Outcome
  pub is : ending ≡ With outcome
  pub meant : Means said before.desk.held outcome
  pub outputs : List (List ℕ × List ℕ)
  pub text : List ℕ
  pub writes : written_by outcome ≡ Some (outputs, text)
  pub whole : OutputsAreWhole outputs before.desk.held after.desk.held
  pub out : Adds before.out.written after.out.written text
  pub desk_calm : NoFault before.desk after.desk
  pub calm : after.out.faults ≡ before.out.faults
  pub headline : IsHeadline said before.desk.held outcome outputs text

-- it ended with an outcome that is meant
pub record Reports (said : Option Command) (before : World) (ending : Ending) : Type 0 where
  pub outcome : Outcome
  pub is : ending ≡ With outcome
  pub meant : Means said before.desk.held outcome

-- it ended at an input whose turn had come, and which couldn't be read: reads failed, or the desk doesn't hold the
-- name, which is then meant
pub record CouldNotRead (said : Option Command) (before after : World) (ending : Ending) : Type 0 where
  pub name : List ℕ
  pub is : ending ≡ With (Unread name)
  pub turn : HadItsTurn said before.desk.held name
  pub cause : Rose before.desk.read_faults after.desk.read_faults
      ⊎ ((before.desk.held name ≡ Absent) × Means said before.desk.held (Unread name))

-- it ended at an output, or at out, of an outcome that is meant and writes
pub record CouldNotWrite (said : Option Command) (before after : World) (ending : Ending) : Type 0 where
  pub name : List ℕ
  pub outcome : Outcome
  pub meant : Means said before.desk.held outcome
  pub outputs : List (List ℕ × List ℕ)
  pub text : List ℕ
  pub is : ending ≡ Unwritten name outputs
  pub writes : written_by outcome ≡ Some (outputs, text)
  pub failed : FailsWriting outputs text before.desk after.desk before.out after.out name

-- the statuses with which nothing is written
abbrev pub IsUnwriting : ℕ → Type 0
IsUnwriting status = (status ≡ 1) ⊎ (status ≡ 2) ⊎ (status ≡ 3) ⊎ (status ≡ 5) ⊎ (status ≡ 6)

-- the status is that of an outcome that is meant; or memory ran out; or reads failed; or writes did
abbrev pub IsAnswer : Option Command → (before after : World) → (status : ℕ) → Type 0
IsAnswer said before after status =
    ((outcome : Outcome) × Means said before.desk.held outcome × (status_of outcome ≡ status))
    ⊎ (status ≡ 5)
    ⊎ ((status ≡ 3) × Rose before.desk.read_faults after.desk.read_faults)
    ⊎ ((status ≡ 4) × (Rose before.desk.write_faults after.desk.write_faults ⊎ Rose before.out.faults after.out.faults))

-- the options of a `sim` or a `run` make a setup that a run may have
abbrev pub MakesSetup : Option Command → Type 0
MakesSetup said =
    (i s c t a : List ℕ) (options : RunOptions)
    → (said ≡ Some (Sim i s c t a options)) ⊎ (said ≡ Some (Run i s t a options)) → IsSetup (setup_of options)

-- The whole contract of a call. Its status and its line on err are those of one ending.
pub record Answered (said : Option Command) (before after : World) (Way : List CallMade → Type 0) (answer : ℕ) : Type 0 where
  pub ending : Ending
  pub status : status_at ending ≡ answer
  pub told : Says before.err after.err (err_line_at ending)
  -- 0 and 7: all outputs are whole, and out has exactly the text. On 0 err has nothing.
  pub done : (answer ≡ 0) ⊎ (answer ≡ 7) → LeavesAll said before after ending
  pub silent : answer ≡ 0 → after.err.written ≡ before.err.written
  -- 1 comes exactly when the words say no command, and memory sufficed to read them. If they say none, the desk isn't
  -- called. 1, 2 and 6 are what is meant.
  pub bad_line : (answer ≡ 1) ↔ ((said ≡ None) × (answer ≢ 5))
  pub no_command : said ≡ None → Went Way IsNoCall
  pub refused : (answer ≡ 1) ⊎ (answer ≡ 2) ⊎ (answer ≡ 6) → Reports said before ending
  -- 3 names an input whose turn had come, 4 the output that failed; 5 is out of memory
  pub unread : answer ≡ 3 → CouldNotRead said before after ending
  pub unwritten : answer ≡ 4 → CouldNotWrite said before after ending
  pub memory : answer ≡ 5 → ending ≡ NoMemory
  -- what stays the same: the desk and out if nothing is written, and always each name that isn't an output of the
  -- command
  pub untouched : IsUnwriting answer → WritesNothing before.desk after.desk before.out after.out
  pub names : (name : List ℕ) → (Contains (outputs_named said) name → ⊥) → after.desk.held name ≡ before.desk.held name
  -- the calls of the desk are in their order, up to the one that the ending names
  pub order : Went Way (InOrder said before.desk after.desk ending)
  -- what is meant comes, unless memory runs out or a fault is counted
  pub complete : IsAnswer said before after answer
  pub setup : answer ≡ 0 → MakesSetup said
