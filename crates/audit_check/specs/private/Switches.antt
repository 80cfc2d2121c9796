-- The switches of a script, and its waits.
use Rattle.std.specs.Prelude.{◌≡◌, ◌≢◌, ◌<◌, ◌≤◌, ◌+◌, ◌==◌, ℕ, Bool, not, List, [], ◌∷◌, length, take, Some, slice_get}
use Rattle.xray_image.specs.Program.{Program}
use Rattle.sled_words.specs.declared.part.Part.TheVariants.{Head}
use Rattle.sled_words.specs.Parts.{patched_head}
use Rattle.sled_words.specs.Words.{IsCodeWord, arg_handler_word, handler_word, release_word, state_word, word_of}
use Rattle.patch_script.specs.declared.command.PatchCommand.{PatchCommand}
use Rattle.patch_script.specs.declared.micro.Micro.{Micro}
use Rattle.patch_script.specs.declared.micro.Micro.TheVariants.{Store, Await, End}
use Rattle.patch_script.specs.CodeAt.{code_at}
use Rattle.patch_script.specs.Limits.{most_micros}
use Rattle.patch_script.specs.Micros.{micro_at, micros, start_of, total_of}
use Rattle.patch_script.specs.Plans.{IsWithin, Plan}
use Rattle.audit_check.specs.declared.switches.Awaited.{Awaited}
use Rattle.audit_check.specs.declared.switches.Course.{Course}
use Rattle.audit_check.specs.declared.switches.Switches.{Switches}
use Rattle.audit_check.specs.declared.turns.Turns.{Turns}
use Rattle.audit_check.specs.private.Turns.{IsTurned}

-- ---- what the switches say of code

abbrev pub is_patched : ℕ → Bool
is_patched head = head == patched_head

abbrev pub is_set : ℕ → Bool
is_set value = not (value == 0)

abbrev pub is_recording : ℕ → Bool
is_recording state = state == 2

-- the turns are those of a test of a word's value
abbrev pub AreTurnsOf : (ℕ → ℕ → ℕ) → ℕ → ℕ → (ℕ → Bool) → Turns → Type 0
AreTurnsOf code last word test turns = IsTurned (λ place. test (code place word)) last turns.places.items

-- the switches are those of some code up to a last place
pub record AreSwitches (program : Program) (threads : ℕ) (code : ℕ → ℕ → ℕ) (last : ℕ) (s : Switches) : Type 0 where
  pub heads : (k : ℕ) (turns : Turns) → slice_get s.heads.items k ≡ Some turns → AreTurnsOf code last (word_of k Head) is_patched turns
  pub handler : AreTurnsOf code last (handler_word program) is_set s.handler
  pub log : AreTurnsOf code last (state_word program) is_recording s.log
  pub arg_handler : AreTurnsOf code last (arg_handler_word program threads) is_set s.arg_handler
  pub releases : (i : ℕ) (turns : Turns) → slice_get s.releases.items i ≡ Some turns
      → AreTurnsOf code last (release_word program (i + 1)) is_set turns

-- the switches have turns for each sled and each thread, and know the numbers of their words
pub record IsOfWords (program : Program) (threads : ℕ) (s : Switches) : Type 0 where
  pub sleds : length s.heads.items ≡ length program.sleds
  pub threads_are : length s.releases.items ≡ threads
  pub handler : s.handler_word ≡ handler_word program
  pub state : s.state_word ≡ state_word program
  pub arg_handler : s.arg_handler_word ≡ arg_handler_word program threads

-- code one place on: a word has a value, and all others are as they were
pub record IsNext (code : ℕ → ℕ → ℕ) (last word value : ℕ) : Type 0 where
  pub stored : code (last + 1) word ≡ value
  pub others : (other : ℕ) → other ≢ word → code (last + 1) other ≡ code last other

-- it can take a store in a word
pub record TakesStore (s : Switches) (word : ℕ) : Type 0 where
  pub program : Program
  pub threads : ℕ
  pub words : IsOfWords program threads s
  pub is_code : IsCodeWord program threads word

-- or all words are
abbrev pub StaysSame : (ℕ → ℕ → ℕ) → ℕ → Type 0
StaysSame code last = (word : ℕ) → code (last + 1) word ≡ code last word

-- ---- waits

-- the waits among micro steps, which are numbered from a place on
abbrev pub awaits_from : ℕ → List Micro → List Awaited
awaits_from place [] = []
awaits_from place (Store word value ∷ steps) = awaits_from (place + 1) steps
awaits_from place (Await thread count ∷ steps) = record { place = place; thread = thread; count = count } ∷ awaits_from (place + 1) steps
awaits_from place (End ∷ steps) = awaits_from (place + 1) steps

-- ---- the course of a script

-- what the first `last` micro steps of a script do
pub record IsCourseUpTo (program : Program) (threads : ℕ) (script : List PatchCommand) (last : ℕ) (course : Course) : Type 0 where
  pub words : IsOfWords program threads course.switches
  pub switches : AreSwitches program threads (code_at program threads script) last course.switches
  pub awaits : course.awaits.items ≡ awaits_from 0 (take last (micros program threads script))
  pub start : course.start ≡ start_of program threads script
  pub total : course.total ≡ total_of program threads script
  pub few : total_of program threads script ≤ most_micros

-- what all of them do
abbrev pub IsCourseOf : Program → ℕ → List PatchCommand → Course → Type 0
IsCourseOf program threads script course = IsCourseUpTo program threads script (total_of program threads script) course

-- ---- steps

-- it can take a micro step
pub record TakesStep (course : Course) (micro : Micro) : Type 0 where
  pub plan : Plan
  pub words : IsOfWords plan.program plan.threads course.switches
  pub within : IsWithin plan micro

-- a course takes the micro step at a place
abbrev pub TakesOne : Course → Micro → ℕ → Course → Type 0
TakesOne old micro place new =
    (program : Program) (threads : ℕ) (script : List PatchCommand) → IsCourseUpTo program threads script place old
    → place < total_of program threads script → micro_at program threads script place ≡ micro
    → IsCourseUpTo program threads script (place + 1) new
