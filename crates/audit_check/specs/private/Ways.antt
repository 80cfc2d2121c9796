-- The ways of a thread through the places of a script.
-- A passing is a tree of loads. A way through it takes each load to a place, such that the places never fall, none is after
-- the bound of the passing, and the values at these places lead to the passing's mark.
use Rattle.std.specs.Prelude.{◌≢◌, ◌≡◌, ◌≤◌, ◌+◌, ◌==◌, ℕ, List, [], ◌∷◌, Bool, true, false, Option, Some, None, if◌then◌else◌}
use Rattle.xray_image.specs.Program.{Program}
use Rattle.handler_word.specs.declared.mark.Mark.{Mark}
use Rattle.handler_word.specs.declared.mark.Mark.TheVariants.{Skipped, NoHandler, NotLogging, Recorded, RecordedArg}
use Rattle.sled_words.specs.declared.part.Part.TheVariants.{Head, Id, Opcode, Offset}
use Rattle.sled_words.specs.Parts.{patched_head}
use Rattle.sled_words.specs.Words.{arg_handler_word, handler_word, release_word, state_word, word_of}
use Rattle.machine_step.specs.Loads.{Load, Reading, Wants, Marked, is_held_at, sled_logs_args}

-- What is left of a passing: its mark; or a load of a word, and what is left by the value, with the mark that the passing
-- gets if the log records; or loads of a word until it isn't 0.
pub data Tree : Type 0 where
  Leaf : (mark : Mark) → Tree
  Node : (word : ℕ) → (recording : Mark) → (next : ℕ → Tree) → Tree
  Held : (word : ℕ) → (next : Tree) → Tree

-- ---- the trees of passings

abbrev pub state_tree : Program → Mark → Tree
state_tree program recording = Node (state_word program) recording (λ value. Leaf (if value == 2 then recording else NotLogging))

abbrev pub handler_tree : Program → Tree
handler_tree program = Node (handler_word program) Recorded (λ value. if value == 0 then Leaf NoHandler else state_tree program Recorded)

abbrev pub arg_handler_tree : Program → ℕ → Tree
arg_handler_tree program threads =
    Node (arg_handler_word program threads) Recorded (λ value. if value == 0 then handler_tree program else state_tree program RecordedArg)

abbrev pub handlers_tree : Program → ℕ → ℕ → Tree
handlers_tree program threads sled = if sled_logs_args program sled then arg_handler_tree program threads else handler_tree program

abbrev pub offset_tree : Program → ℕ → ℕ → Tree
offset_tree program threads sled = Node (word_of sled Offset) Recorded (λ _. handlers_tree program threads sled)

abbrev pub opcode_tree : Program → ℕ → ℕ → Tree
opcode_tree program threads sled = Node (word_of sled Opcode) Recorded (λ _. offset_tree program threads sled)

abbrev pub id_tree : Program → ℕ → ℕ → Tree
id_tree program threads sled = Node (word_of sled Id) Recorded (λ _. opcode_tree program threads sled)

abbrev pub head_tree : Program → ℕ → ℕ → Tree
head_tree program threads sled =
    Node (word_of sled Head) Recorded (λ value. if value == patched_head then id_tree program threads sled else Leaf Skipped)

-- a whole passing; `held` says whether the script holds the thread before it
abbrev pub passing_tree : Program → ℕ → ℕ → Bool → ℕ → Tree
passing_tree program threads thread true sled = Held (release_word program thread) (head_tree program threads sled)
passing_tree program threads thread false sled = head_tree program threads sled

-- the passings of a thread at the sleds of these numbers, numbered from a number on
abbrev pub trees_of : Program → ℕ → ℕ → Option ℕ → ℕ → List ℕ → List Tree
trees_of program threads thread hold number [] = []
trees_of program threads thread hold number (sled ∷ sleds) =
    passing_tree program threads thread (is_held_at hold number) sled ∷ trees_of program threads thread hold (number + 1) sleds

-- ---- loads

-- how far loads bring a passing
abbrev pub read : List Load → Tree → Reading
read loads (Leaf mark) = Marked mark loads
read [] (Node word recording next) = Wants word recording
read (load ∷ loads) (Node word recording next) = read loads (next load.value)
read [] (Held word next) = Wants word Recorded
read (load ∷ loads) (Held word next) = if load.value == 0 then read loads (Held word next) else read loads next

abbrev pub marked : Reading → (List Load → List Mark) → List Mark
marked (Wants word recording) later = []
marked (Marked mark following) later = mark ∷ later following

abbrev pub wanted : Reading → (List Load → Option ℕ) → Option ℕ
wanted (Wants word recording) later = Some word
wanted (Marked mark following) later = later following

-- the marks of all passings by these loads, and the word that is loaded next
abbrev pub marks_in : List Tree → List Load → List Mark
marks_in [] loads = []
marks_in (tree ∷ trees) loads = marked (read loads tree) (marks_in trees)

abbrev pub next_in : List Tree → List Load → Option ℕ
next_in [] loads = None
next_in (tree ∷ trees) loads = wanted (read loads tree) (next_in trees)

-- a thread's release word is loaded where it may hold the thread, and nowhere else
abbrev pub IsOwn : ℕ → Tree → Type 0
IsOwn release (Leaf mark) = Unit {0}
IsOwn release (Node word recording next) = (word ≢ release) × ((value : ℕ) → IsOwn release (next value))
IsOwn release (Held word next) = (word ≡ release) × IsOwn release next

abbrev pub AreOwn : ℕ → List Tree → Type 0
AreOwn release [] = Unit {0}
AreOwn release (tree ∷ trees) = IsOwn release tree × AreOwn release trees

-- ---- ways

-- from a place on, loads within a bound bring a passing to this mark, the last of them at `end` or before
abbrev pub Reaches : (ℕ → ℕ → ℕ) → ℕ → Mark → Tree → ℕ → ℕ → Type 0
Reaches code bound wants (Leaf mark) place end = (mark ≡ wants) × (place ≤ end)
Reaches code bound wants (Node word recording next) place end =
    (at : ℕ) × (place ≤ at) × (at ≤ bound) × Reaches code bound wants (next (code at word)) at end
Reaches code bound wants (Held word next) place end =
    (at : ℕ) × (place ≤ at) × (at ≤ bound) × (code at word ≢ 0) × Reaches code bound wants next at end

-- so do all passings come to these marks, numbered from a number on, each within its bound
abbrev pub Passes : (ℕ → ℕ → ℕ) → (ℕ → ℕ) → ℕ → List Tree → List Mark → ℕ → ℕ → Type 0
Passes code bound number [] [] place end = place ≤ end
Passes code bound number [] (mark ∷ marks) place end = ⊥
Passes code bound number (tree ∷ trees) [] place end = ⊥
Passes code bound number (tree ∷ trees) (mark ∷ marks) place end =
    (at : ℕ) × Reaches code (bound number) mark tree place at × Passes code bound (number + 1) trees marks at end
