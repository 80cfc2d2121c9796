-- The words that a passing loads, and the mark that its loads end with.
use Rattle.std.specs.Prelude.{◌≡◌, ℕ, ◌+◌, ◌-◌, List, [], ◌∷◌, length, map, take, slice_get, Bool, true, false, ◌==◌, if◌then◌else◌, Option, Some, None}
use Rattle.std.specs.Option.{option_map, option_map_or, unwrap_or}
use Rattle.xray_image.specs.declared.sled.SledKind.{SledKind}
use Rattle.xray_image.specs.declared.sled.SledKind.TheVariants.{Entry, Exit, Tail, Args}
use Rattle.xray_image.specs.Program.{Program}
use Rattle.sled_words.specs.declared.part.Part.TheVariants.{Head, Id, Opcode, Offset}
use Rattle.sled_words.specs.Words.{word_of, handler_word, state_word, release_word, arg_handler_word}
use Rattle.sled_words.specs.Parts.{patched_head}
use Rattle.handler_word.specs.declared.mark.Mark.{Mark}
use Rattle.handler_word.specs.declared.mark.Mark.TheVariants.{Skipped, NoHandler, NotLogging, Recorded, RecordedArg}

-- a load: the word, and the value that it gave
pub record Load : Type 0 where
  pub word : ℕ
  pub value : ℕ

-- How far loads bring a passing: to the word that it loads next, with the mark that it gets if the log records; or to
-- its mark, with the loads that come after.
pub data Reading : Type 0 where
  Wants : (word : ℕ) → (recording : Mark) → Reading
  Marked : (mark : Mark) → (following : List Load) → Reading

-- the state word: at 2 the log records
abbrev pub from_state : Program → Mark → List Load → Reading
from_state program recording [] = Wants (state_word program) recording
from_state program recording (load ∷ loads) = Marked (if load.value == 2 then recording else NotLogging) loads

-- the handler word: 0 means that there is no handler
abbrev pub from_handler : Program → List Load → Reading
from_handler program [] = Wants (handler_word program) Recorded
from_handler program (load ∷ loads) = if load.value == 0 then Marked NoHandler loads else from_state program Recorded loads

-- the argument handler word: if it isn't 0, an event is recorded with its argument, and the handler word isn't loaded
abbrev pub from_arg_handler : Program → ℕ → List Load → Reading
from_arg_handler program threads [] = Wants (arg_handler_word program threads) Recorded
from_arg_handler program threads (load ∷ loads) =
    if load.value == 0 then from_handler program loads else from_state program RecordedArg loads

-- whether sleds of this kind log arguments
abbrev pub logs_args : SledKind → Bool
logs_args Entry = false
logs_args Exit = false
logs_args Tail = false
logs_args Args = true

-- whether the sled of this number does
abbrev pub sled_logs_args : Program → ℕ → Bool
sled_logs_args program sled = unwrap_or (option_map (λ s. logs_args s.kind) (slice_get program.sleds sled)) false

-- the words after those of a patched sled: the argument handler word only at a sled that logs arguments
abbrev pub from_handlers : Program → ℕ → ℕ → List Load → Reading
from_handlers program threads sled loads =
    if sled_logs_args program sled then from_arg_handler program threads loads else from_handler program loads

-- the offset, the opcode and the id of a patched sled
abbrev pub from_offset : Program → ℕ → ℕ → List Load → Reading
from_offset program threads sled [] = Wants (word_of sled Offset) Recorded
from_offset program threads sled (load ∷ loads) = from_handlers program threads sled loads

abbrev pub from_opcode : Program → ℕ → ℕ → List Load → Reading
from_opcode program threads sled [] = Wants (word_of sled Opcode) Recorded
from_opcode program threads sled (load ∷ loads) = from_offset program threads sled loads

abbrev pub from_id : Program → ℕ → ℕ → List Load → Reading
from_id program threads sled [] = Wants (word_of sled Id) Recorded
from_id program threads sled (load ∷ loads) = from_opcode program threads sled loads

-- the head: if it is unpatched, the passing skips the sled
abbrev pub from_head : Program → ℕ → ℕ → List Load → Reading
from_head program threads sled [] = Wants (word_of sled Head) Recorded
from_head program threads sled (load ∷ loads) =
    if load.value == patched_head then from_id program threads sled loads else Marked Skipped loads

-- the release word of a thread that is held here: it is loaded again after each 0
abbrev pub from_release : Program → ℕ → ℕ → ℕ → List Load → Reading
from_release program threads thread sled [] = Wants (release_word program thread) Recorded
from_release program threads thread sled (load ∷ loads) =
    if load.value == 0 then from_release program threads thread sled loads else from_head program threads sled loads

-- the loads of one passing; `held` says whether the script holds the thread here
abbrev pub from_start : Program → ℕ → ℕ → Bool → ℕ → List Load → Reading
from_start program threads thread true sled loads = from_release program threads thread sled loads
from_start program threads thread false sled loads = from_head program threads sled loads

-- whether a thread with this hold is held at a passing
abbrev pub is_held_at : Option ℕ → ℕ → Bool
is_held_at None passing = false
is_held_at (Some held) passing = held == passing

-- What comes of the loads of a thread: the passings that have their marks, each with its mark and its own loads; and of the
-- passing after them, if there is one, the word that it loads next, with the mark that it gets if the log records.
pub record Walk : Type 0 where
  pub made : List (Mark × List Load)
  pub wants : Option (ℕ × Mark)

abbrev pub onto_walk : Mark × List Load → Walk → Walk
onto_walk first walk = record { made = first ∷ walk.made; wants = walk.wants }

-- The walk of a thread along its passings. They are at the sleds of these numbers, numbered from a number on.
abbrev pub walk_from : Program → ℕ → ℕ → Option ℕ → ℕ → List ℕ → List Load → Walk
walk_from program threads thread hold number [] loads = record { made = []; wants = None }
walk_from program threads thread hold number (sled ∷ sleds) loads =
    read (from_start program threads thread (is_held_at hold number) sled loads) (walk_from program threads thread hold (number + 1) sleds)
  where
    read : Reading → (List Load → Walk) → Walk
    read (Wants word recording) later = record { made = []; wants = Some (word, recording) }
    read (Marked mark following) later = onto_walk (mark, take (length loads - length following) loads) (later following)

-- the marks of a thread, the word that it loads next, and the mark that it gets if the log records, from a passing on
abbrev pub marks_from : Program → ℕ → ℕ → Option ℕ → ℕ → List ℕ → List Load → List Mark
marks_from program threads thread hold number sleds loads = map (λ p. p.0) (walk_from program threads thread hold number sleds loads).made

abbrev pub next_from : Program → ℕ → ℕ → Option ℕ → ℕ → List ℕ → List Load → Option ℕ
next_from program threads thread hold number sleds loads = option_map (λ w. w.0) (walk_from program threads thread hold number sleds loads).wants

abbrev pub recording_from : Program → ℕ → ℕ → Option ℕ → ℕ → List ℕ → List Load → Mark
recording_from program threads thread hold number sleds loads =
    option_map_or (λ w. w.1) (walk_from program threads thread hold number sleds loads).wants Recorded

-- The same from its first passing on. `threads` is how many threads there are: the number of the argument handler word
-- rests on it.
abbrev pub marks_of : Program → ℕ → ℕ → Option ℕ → List ℕ → List Load → List Mark
marks_of program threads thread hold sleds loads = map (λ p. p.0) (walk_from program threads thread hold 0 sleds loads).made

abbrev pub next_load : Program → ℕ → ℕ → Option ℕ → List ℕ → List Load → Option ℕ
next_load program threads thread hold sleds loads = option_map (λ w. w.0) (walk_from program threads thread hold 0 sleds loads).wants

abbrev pub recording_of : Program → ℕ → ℕ → Option ℕ → List ℕ → List Load → Mark
recording_of program threads thread hold sleds loads = recording_from program threads thread hold 0 sleds loads

-- each load is of the word that is next after the loads before it
abbrev pub AreWanted : Program → ℕ → ℕ → Option ℕ → List ℕ → List Load → Type 0
AreWanted program threads thread hold sleds loads =
    (i : ℕ) (load : Load) → slice_get loads i ≡ Some load
    → next_load program threads thread hold sleds (take i loads) ≡ Some load.word
