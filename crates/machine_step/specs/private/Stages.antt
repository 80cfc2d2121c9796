-- The stages of a passing, for the contracts of private functions.
use Rattle.std.specs.Prelude.{◌≤◌, ℕ, ◌==◌, Bool, true, false, if◌then◌else◌, Option}
use Rattle.xray_image.specs.declared.sled.Sled.{Sled}
use Rattle.xray_image.specs.Program.{Program, Trampolines}
use Rattle.sled_words.specs.declared.part.Part.TheVariants.{Head, Id, Opcode, Offset}
use Rattle.sled_words.specs.Words.{word_of, handler_word, state_word, release_word, arg_handler_word}
use Rattle.sled_words.specs.Parts.{patched_head}
use Rattle.sled_words.specs.Allowed.{IsAllowedPart}
use Rattle.handler_word.specs.declared.mark.Mark.{Mark}
use Rattle.handler_word.specs.declared.mark.Mark.TheVariants as marks
use Rattle.machine_step.specs.declared.stage.Stage.{Stage}
use Rattle.machine_step.specs.declared.stage.Stage.TheVariants as stages
use Rattle.machine_step.specs.declared.stage.Next.{Next}
use Rattle.machine_step.specs.declared.stage.Next.TheVariants.{Loads, Ends}
use Rattle.machine_step.specs.Loads.{is_held_at}

-- the word that is loaded at a stage
abbrev pub word_at : Program → ℕ → ℕ → ℕ → Stage → ℕ
word_at program threads thread sled stages.Release = release_word program thread
word_at program threads thread sled stages.Head = word_of sled Head
word_at program threads thread sled stages.Id = word_of sled Id
word_at program threads thread sled stages.Opcode = word_of sled Opcode
word_at program threads thread sled stages.Offset = word_of sled Offset
word_at program threads thread sled stages.ArgHandler = arg_handler_word program threads
word_at program threads thread sled stages.Handler = handler_word program
word_at program threads thread sled stages.State = state_word program
word_at program threads thread sled stages.ArgState = state_word program

-- the mark that a passing at a stage gets if the log records
abbrev pub recording_at : Stage → Mark
recording_at stages.Release = marks.Recorded
recording_at stages.Head = marks.Recorded
recording_at stages.Id = marks.Recorded
recording_at stages.Opcode = marks.Recorded
recording_at stages.Offset = marks.Recorded
recording_at stages.ArgHandler = marks.Recorded
recording_at stages.Handler = marks.Recorded
recording_at stages.State = marks.Recorded
recording_at stages.ArgState = marks.RecordedArg

-- the stage that a passing begins with
abbrev pub stage_by : Bool → Stage
stage_by true = stages.Release
stage_by false = stages.Head

abbrev pub first_stage : Option ℕ → ℕ → Stage
first_stage hold passing = stage_by (is_held_at hold passing)

-- the stage after the offset of a sled, which logs arguments or doesn't
abbrev pub handlers_by : Bool → Stage
handlers_by true = stages.ArgHandler
handlers_by false = stages.Handler

-- what the load of a value leads to, at a sled that logs arguments or doesn't
abbrev pub after_load : Bool → Stage → ℕ → Next
after_load logs stages.Release value = if value == 0 then Loads stages.Release else Loads stages.Head
after_load logs stages.Head value = if value == patched_head then Loads stages.Id else Ends marks.Skipped
after_load logs stages.Id value = Loads stages.Opcode
after_load logs stages.Opcode value = Loads stages.Offset
after_load logs stages.Offset value = Loads (handlers_by logs)
after_load logs stages.ArgHandler value = if value == 0 then Loads stages.Handler else Loads stages.ArgState
after_load logs stages.Handler value = if value == 0 then Ends marks.NoHandler else Loads stages.State
after_load logs stages.State value = Ends (if value == 2 then marks.Recorded else marks.NotLogging)
after_load logs stages.ArgState value = Ends (if value == 2 then marks.RecordedArg else marks.NotLogging)

-- what may be loaded at a stage of a passing of a sled
abbrev pub AllowsAt : Trampolines → Sled → Stage → ℕ → Type 0
AllowsAt trampolines sled stages.Release value = value ≤ 1
AllowsAt trampolines sled stages.Head value = IsAllowedPart trampolines sled Head value
AllowsAt trampolines sled stages.Id value = IsAllowedPart trampolines sled Id value
AllowsAt trampolines sled stages.Opcode value = IsAllowedPart trampolines sled Opcode value
AllowsAt trampolines sled stages.Offset value = IsAllowedPart trampolines sled Offset value
AllowsAt trampolines sled stages.ArgHandler value = value ≤ 1
AllowsAt trampolines sled stages.Handler value = value ≤ 1
AllowsAt trampolines sled stages.State value = value ≤ 4
AllowsAt trampolines sled stages.ArgState value = value ≤ 4
