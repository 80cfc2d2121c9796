-- What contracts see of a `Cpu`: a traced thread, and what its loads do to it.
use Rattle.std.specs.Prelude.{◌≡◌, ◌==◌, ◌+◌, ◌-◌, ◌*◌, ◌%◌, ◌++◌, ◌&&◌, ℕ, List, [], ◌∷◌, length, map, All, Bool, Option, Some, None, slice_get, nat_lt, if◌then◌else◌}
use Rattle.std.specs.List.{position_or_len}
use Rattle.xray_image.specs.Program.{Program}
use Rattle.sled_words.specs.declared.part.Part.{Part}
use Rattle.sled_words.specs.declared.part.Part.TheVariants.{Head, Id, Opcode, Offset}
use Rattle.sled_words.specs.Words.{IsCodeWord, part_number, word_of, handler_word, state_word, release_word, arg_handler_word}
use Rattle.sled_words.specs.Allowed.{IsAllowed}
use Rattle.sled_words.specs.Parts.{patched_head}
use Rattle.handler_word.specs.declared.mark.Mark.{Mark}
use Rattle.handler_word.specs.declared.mark.Mark.TheVariants.{Skipped, NoHandler, NotLogging}
use Rattle.machine_step.specs.declared.limits.Limits.{Limits}
use Rattle.machine_step.specs.declared.end.End.{End}
use Rattle.machine_step.specs.declared.want.Want.{Want}
use Rattle.machine_step.specs.declared.want.Want.TheVariants.{Gate, Load as Loads, Done}
use Rattle.machine_step.specs.PlainStep.{State, Passing, PlainRun}
use Rattle.machine_step.specs.Course.{ComesTo}
use Rattle.machine_step.specs.Loads.{AreWanted, Load, is_held_at, marks_of, next_load, recording_of}

-- a traced thread: which one it is, what its instructions have done, the marks of its passings, and what it wants
pub record Traced : Type 0 where
  pub program : Program
  pub thread : ℕ
  -- how many threads there are
  pub threads : ℕ
  -- the passing before which the script holds it
  pub hold : Option ℕ
  pub limits : Limits
  pub registers : List ℕ
  pub zero_flag : Bool
  pub stack : List ℕ
  pub output : List ℕ
  pub instructions : ℕ
  pub marks : List Mark
  -- the mark of the passing that comes next, if the log records: `RecordedArg` once it has found an argument handler
  pub recording : Mark
  pub want : Want

-- the same thread of the same image
pub record IsSameThread (old new : Traced) : Type 0 where
  pub program : new.program ≡ old.program
  pub thread : new.thread ≡ old.thread
  pub threads : new.threads ≡ old.threads
  pub hold : new.hold ≡ old.hold
  pub limits : new.limits ≡ old.limits

-- the thread of this number, of `threads` threads, that runs an image's program
pub record IsThreadOf (program : Program) (thread threads : ℕ) (hold : Option ℕ) (limits : Limits) (t : Traced) : Type 0 where
  pub program_is : t.program ≡ program
  pub thread_is : t.thread ≡ thread
  pub threads_are : t.threads ≡ threads
  pub hold_is : t.hold ≡ hold
  pub limits_are : t.limits ≡ limits

-- the state of a traced thread that is at an address
abbrev pub state_at : ℕ → Traced → State
state_at address t = record {
  address = address;
  registers = t.registers;
  zero_flag = t.zero_flag;
  stack = t.stack;
  output = t.output;
  instructions = t.instructions;
  passings = length t.marks;
}

-- ---- where it is on its plain run

-- it is where its plain run comes to the passing after those that have marks
pub record IsBeforePassing (t : Traced) : Type 0 where
  pub passed : List Passing
  pub next : Passing
  pub address : ℕ
  pub count : length passed ≡ length t.marks
  pub comes : ComesTo t.program t.limits t.thread passed (state_at address t) next

-- its plain run has this end, and leaves the same
pub record IsAtEnd (t : Traced) (end : End) : Type 0 where
  pub passed : List Passing
  pub address : ℕ
  pub count : length passed ≡ length t.marks
  pub run : PlainRun t.program t.limits t.thread passed end (state_at address t)

-- what it wants says where it is
abbrev pub StandsAs : Traced → Want → Type 0
StandsAs t (Gate passing) = IsBeforePassing t
StandsAs t (Loads word) = IsBeforePassing t
StandsAs t (Done end) = IsAtEnd t end

-- ---- what it wants

-- it wants to be let into a passing
abbrev pub IsGate : Want → Type 0
IsGate (Gate passing) = Unit {0}
IsGate (Loads word) = ⊥
IsGate (Done end) = ⊥

-- it wants a load
abbrev pub IsLoad : Want → Type 0
IsLoad (Gate passing) = ⊥
IsLoad (Loads word) = Unit {0}
IsLoad (Done end) = ⊥

-- it has ended
abbrev pub IsDone : Want → Type 0
IsDone (Gate passing) = ⊥
IsDone (Loads word) = ⊥
IsDone (Done end) = Unit {0}

-- a word that it wants is a code word
abbrev pub IsLoadable : Traced → Want → Type 0
IsLoadable t (Gate passing) = Unit {0}
IsLoadable t (Loads word) = IsCodeWord t.program t.threads word
IsLoadable t (Done end) = Unit {0}

-- it has made no passing yet, and isn't in one
pub record IsFresh (t : Traced) : Type 0 where
  pub no_marks : t.marks ≡ []
  pub no_load : IsLoad t.want → ⊥

-- ---- its loads

-- the numbers of the sleds that are passed
abbrev pub sleds_passed : List Passing → List ℕ
sleds_passed passed = map (λ p. p.sled) passed

-- the word that a thread loads after some loads
abbrev pub wanted_after : Traced → List Passing → List Load → Option ℕ
wanted_after t passed loads = next_load t.program t.threads t.thread t.hold (sleds_passed passed) loads

-- the first word of the next passing, at this sled
abbrev pub first_word : Traced → ℕ → ℕ
first_word t sled =
    if is_held_at t.hold (length t.marks) then release_word t.program t.thread else word_of sled Head

-- the next passing begins: its first word is the next one
pub record BeginsPassing (t : Traced) (passed : List Passing) (next : Option ℕ) : Type 0 where
  pub passing : Passing
  pub found : slice_get passed (length t.marks) ≡ Some passing
  pub first : next ≡ Some (first_word t passing.sled)

-- It wants one of three things: to be let into its next passing, which then begins; the word that it loads next; or
-- nothing, if it loads none, since it has ended.
abbrev pub IsWant : Traced → List Passing → Option ℕ → End → Want → Type 0
IsWant t passed next end (Gate passing) = (passing ≡ length t.marks) × BeginsPassing t passed next
IsWant t passed next end (Loads word) = next ≡ Some word
IsWant t passed next end (Done e) = (next ≡ None) × (e ≡ end)

-- The thread, whose plain run has these passings, was given these loads. Each was of the word that it wanted after the
-- loads before it, and of a value that is allowed there. The loads determine its marks, the mark with which it would
-- record, and what it wants.
pub record HasLoaded (t : Traced) (passed : List Passing) (loads : List Load) : Type 0 where
  pub end : End
  pub last : State
  pub run : PlainRun t.program t.limits t.thread passed end last
  pub wanted : AreWanted t.program t.threads t.thread t.hold (sleds_passed passed) loads
  pub allowed : All (λ load. IsAllowed t.program t.threads t.thread load.word load.value) loads
  pub marks : t.marks ≡ marks_of t.program t.threads t.thread t.hold (sleds_passed passed) loads
  pub recording : t.recording ≡ recording_of t.program t.threads t.thread t.hold (sleds_passed passed) loads
  pub wants : IsWant t passed (wanted_after t passed loads) end t.want

-- a value may be given to a thread: it wants a word, and the value is allowed there
abbrev pub Allows : Traced → Want → ℕ → Type 0
Allows t (Gate passing) value = ⊥
Allows t (Loads word) value = IsAllowed t.program t.threads t.thread word value
Allows t (Done end) value = ⊥

-- the load of this value, of the word that is wanted
abbrev pub load_of : Want → ℕ → List Load
load_of (Gate passing) value = []
load_of (Loads word) value = record { word = word; value = value } ∷ []
load_of (Done end) value = []

-- a passing that goes on wants a load and adds no mark; one that ends adds a mark
abbrev pub MarksAdded : List Mark → List Mark → Want → Type 0
MarksAdded old new (Gate passing) = (mark : Mark) × (new ≡ old ++ mark ∷ [])
MarksAdded old new (Loads word) = new ≡ old
MarksAdded old new (Done end) = (mark : Mark) × (new ≡ old ++ mark ∷ [])

-- the word is that of this part of some sled
abbrev pub is_word_of_part : Program → Part → ℕ → Bool
is_word_of_part program part word = word % 4 == part_number part && nat_lt word (handler_word program)

-- The mark that the load of a value ends a passing with, if it ends it: after an unpatched head, without a handler, or by
-- the log's state. No other load ends a passing. If the log records, it is the one that the thread records with.
abbrev pub ending_mark : Program → Mark → Want → ℕ → List Mark
ending_mark program recording (Gate passing) value = []
ending_mark program recording (Loads word) value =
    if is_word_of_part program Head word then (if value == patched_head then [] else Skipped ∷ [])
    else if word == handler_word program then (if value == 0 then NoHandler ∷ [] else [])
    else if word == state_word program then (if value == 2 then recording ∷ [] else NotLogging ∷ [])
    else []
ending_mark program recording (Done end) value = []

-- the value keeps the thread held: it is a release word of 0
pub record IsKept (t : Traced) (value : ℕ) : Type 0 where
  pub held : t.hold ≡ Some (length t.marks)
  pub word : t.want ≡ Loads (release_word t.program t.thread)
  pub unset : value ≡ 0

-- The stages of a passing after its gate, in order. Each says which words it loads: the thread's release word, the four
-- parts of a sled, the argument handler's word, the handler's word, and the log's state.
abbrev pub stages_of : Program → ℕ → ℕ → List (ℕ → Bool)
stages_of program threads thread =
    (λ word. word == release_word program thread)
    ∷ is_word_of_part program Head
    ∷ is_word_of_part program Id
    ∷ is_word_of_part program Opcode
    ∷ is_word_of_part program Offset
    ∷ (λ word. word == arg_handler_word program threads)
    ∷ (λ word. word == handler_word program)
    ∷ (λ word. word == state_word program)
    ∷ []

-- how many stages a passing has, with its gate
abbrev pub stage_count : Program → ℕ → ℕ → ℕ
stage_count program threads thread = 1 + length (stages_of program threads thread)

-- how many stages of a passing are left if a thread wants this: all of them, or those from the one that loads the word on
abbrev pub steps_left : Program → ℕ → ℕ → Want → ℕ
steps_left program threads thread (Gate passing) = stage_count program threads thread
steps_left program threads thread (Loads word) =
    length (stages_of program threads thread) - position_or_len (λ loads. loads word) (stages_of program threads thread)
steps_left program threads thread (Done end) = 0

-- the same with all passings up to the limit: each gate, and each load that doesn't hold the thread, brings it nearer
abbrev pub loads_left : Traced → ℕ
loads_left t =
    stage_count t.program t.threads t.thread * (t.limits.passings - length t.marks)
    + steps_left t.program t.threads t.thread t.want
