-- Scripts that record each passing.
use Rattle.std.specs.Prelude.{◌≡◌, ◌≢◌, ◌≤◌, ◌<◌, ◌==◌, ℕ, List, length, if◌then◌else◌}
use Rattle.xray_image.specs.Program.{Program}
use Rattle.sled_words.specs.declared.part.Part.TheVariants.{Head}
use Rattle.sled_words.specs.Parts.{patched_head}
use Rattle.sled_words.specs.Words.{arg_handler_word, handler_word, state_word, word_of}
use Rattle.patch_script.specs.declared.command.PatchCommand.{PatchCommand}
use Rattle.patch_script.specs.CodeAt.{code_at}
use Rattle.patch_script.specs.Micros.{start_of, total_of}
use Rattle.handler_word.specs.declared.mark.Mark.{Mark}
use Rattle.handler_word.specs.declared.mark.Mark.TheVariants.{Recorded, RecordedArg}
use Rattle.machine_step.specs.Loads.{sled_logs_args}

-- the values of the words, at a place: all sleds are patched, a handler is set, the log records, and the argument handler
-- word has this value
pub record RecordsAt (program : Program) (threads : ℕ) (arguments : ℕ) (code : ℕ → ℕ) : Type 0 where
  pub heads : (sled : ℕ) → sled < length program.sleds → code (word_of sled Head) ≡ patched_head
  pub handler : code (handler_word program) ≢ 0
  pub state : code (state_word program) ≡ 2
  pub arguments_are : code (arg_handler_word program threads) ≡ arguments

-- from the start of the threads to the end of a script that is so, with one value of the argument handler word
abbrev pub RecordsAll : Program → ℕ → List PatchCommand → ℕ → Type 0
RecordsAll program threads script arguments =
    (place : ℕ) → start_of program threads script ≤ place → place ≤ total_of program threads script
    → RecordsAt program threads arguments (code_at program threads script place)

-- the mark of a passing of a sled that is recorded: with its argument, if the sled logs one and an argument handler is set
abbrev pub recorded_mark : Program → ℕ → ℕ → Mark
recorded_mark program arguments sled = if sled_logs_args program sled then (if arguments == 0 then Recorded else RecordedArg) else Recorded
