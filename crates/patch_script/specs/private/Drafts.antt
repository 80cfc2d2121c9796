-- The commands that were read so far.
use Rattle.std.specs.Prelude.{◌≡◌, ◌≤◌, ◌⊎◌, ℕ, Result, Ok, Err}
use Rattle.xray_image.specs.Program.{Program}
use Rattle.xray_image.specs.Ids.{id_count}
use Rattle.patch_script.specs.declared.command.PatchCommand.{PatchCommand}
use Rattle.patch_script.specs.declared.fault.ScriptFault.{ScriptFault}
use Rattle.patch_script.specs.declared.fault.ScriptFault.TheVariants as faults
use Rattle.patch_script.specs.declared.reading.Draft.{Draft}
use Rattle.patch_script.specs.private.Placing.{ArePlaced, lines_in}
use Rattle.patch_script.specs.Plans.{Plan, IsRead}
use Rattle.patch_script.specs.Refusals.{Lines, commands_of, IsAdmitted, judged}
use Rattle.patch_script.specs.private.Standing.{IsStanding}

abbrev pub program_of : Draft → Program
program_of draft = draft.placed.image.value

abbrev pub lines_of : Draft → Lines
lines_of draft = lines_in draft.placed

-- the commands are in their places, and the standing is what they have done
pub record IsDraft (draft : Draft) : Type 0 where
  pub few_threads : draft.placed.threads ≤ 16
  pub ids : draft.ids ≡ id_count (program_of draft)
  pub placed : ArePlaced draft.placed
  pub standing : IsStanding (commands_of (lines_of draft)) draft.standing

-- no row refuses the command
abbrev pub MayFollow : Draft → PatchCommand → Type 0
MayFollow draft command = IsAdmitted (program_of draft) draft.placed.threads (commands_of (lines_of draft)) command

-- the command is admitted, or this is its first refusal
abbrev pub Judges : {X : Type 0} → Draft → ℕ → PatchCommand → Result X ScriptFault → Type 0
Judges draft number command (Ok x) = MayFollow draft command
Judges draft number command (Err fault) = judged (program_of draft) draft.placed.threads (lines_of draft) number command ≡ Err fault

-- the new draft has these lines, for the same image and the same threads
pub record HasLines (old : Draft) (all : Lines) (new : Draft) : Type 0 where
  pub program : program_of new ≡ program_of old
  pub threads : new.placed.threads ≡ old.placed.threads
  pub lines : lines_of new ≡ all
  pub sound : IsDraft new

-- the answer for a verdict: the new draft has its lines, or this is its refusal, or memory ran out
abbrev pub Takes : {X : Type 0} → Result X ScriptFault → Draft → Result Lines ScriptFault → Draft → Type 0
Takes (Ok x) old verdict new = (verdict ≡ Ok (lines_of new)) × HasLines old (lines_of new) new
Takes (Err fault) old verdict new = (fault ≡ faults.NoMemory) ⊎ (verdict ≡ Err fault)

-- the same for a draft that is the answer, for an image and a number of threads
abbrev pub Reads : Program → ℕ → Result Draft ScriptFault → Result Lines ScriptFault → Type 0
Reads program threads (Ok draft) verdict =
    (verdict ≡ Ok (lines_of draft)) × (program_of draft ≡ program) × (draft.placed.threads ≡ threads) × IsDraft draft
Reads program threads (Err fault) verdict = (fault ≡ faults.NoMemory) ⊎ (verdict ≡ Err fault)

-- the script of the draft
abbrev pub plan_of_draft : Draft → Plan
plan_of_draft draft = record { program = program_of draft; threads = draft.placed.threads; lines = lines_of draft }

-- the draft has all commands of a text that isn't refused
pub record IsWhole (draft : Draft) : Type 0 where
  pub sound : IsDraft draft
  pub read : IsRead (plan_of_draft draft)
