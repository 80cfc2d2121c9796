-- Schedules as texts: what their lines say, and the refusals, in the order of the checks.
use Rattle.std.specs.Prelude.{ℕ, ◌&&◌, ◌≤◌, Bool, true, false, not, nat_le, nat_lt, List, [], ◌∷◌, ◌++◌, length, Option, Some, None, Result, Ok, Err, codes, if◌then◌else◌}
use Rattle.std.specs.Str.Lines.{lines}
use Rattle.xray_io.specs.Rows.{First, InTurn}
use Rattle.text_lines.specs.Keywords.{is_word}
use Rattle.text_lines.specs.Lines.{numbered_lines}
use Rattle.text_lines.specs.Numbers.{number_of}
use Rattle.text_lines.specs.Words.{is_clean, words_of}
use Rattle.step_sim.specs.declared.fault.ScheduleFault.{ScheduleFault}
use Rattle.step_sim.specs.declared.fault.ScheduleFault.TheVariants as faults
use Rattle.step_sim.specs.declared.line.Said.{Said}
use Rattle.step_sim.specs.declared.line.Said.TheVariants.{Nothing, Loads, Steps, Unknown}
use Rattle.step_sim.specs.declared.turns.Turns.{Turns}
use Rattle.step_sim.specs.declared.turns.Turns.TheVariants.{Thread, Patcher}

-- the most lines of a schedule
abbrev pub most_lines : ℕ
most_lines = 1048576

-- ---- what a line says

-- after `t`: the thread T and its loads K
abbrev pub loads_of : List (List ℕ) → Said
loads_of (thread ∷ count ∷ []) = Loads (number_of thread) (number_of count)
loads_of words = Unknown

-- after `p`: the patcher's micro steps K
abbrev pub patcher_said : List (List ℕ) → Said
patcher_said (count ∷ []) = Steps (number_of count)
patcher_said words = Unknown

-- what words say: `t T K`, or `p K`
abbrev pub said_by : List (List ℕ) → Said
said_by [] = Nothing
said_by (who ∷ following) =
    if is_word who (codes "t") then loads_of following else if is_word who (codes "p") then patcher_said following else Unknown

-- the turns of a line, if it gives any
abbrev pub turns_said : Said → List Turns
turns_said (Loads (Some thread) (Some count)) = Thread thread count ∷ []
turns_said (Steps (Some count)) = Patcher count ∷ []
turns_said said = []

-- ---- the rows of a line

-- K is a number from 1 on
abbrev pub is_count : Option ℕ → Bool
is_count None = false
is_count (Some count) = nat_le 1 count

-- T is the number of a thread
abbrev pub is_thread : ℕ → Option ℕ → Bool
is_thread threads None = false
is_thread threads (Some thread) = nat_le 1 thread && nat_le thread threads

-- the words have the form of a line of a schedule, and K is a count
abbrev pub is_well_formed : Said → Bool
is_well_formed Nothing = true
is_well_formed (Loads thread count) = is_count count
is_well_formed (Steps count) = is_count count
is_well_formed Unknown = false

-- no thread is named, or one that exists
abbrev pub names_threads : ℕ → Said → Bool
names_threads threads Nothing = true
names_threads threads (Loads thread count) = is_thread threads thread
names_threads threads (Steps count) = true
names_threads threads Unknown = true

-- the turns so far, with those of a line that says this
abbrev pub turn_rows : ℕ → List Turns → ℕ → Said → Result (List Turns) ScheduleFault
turn_rows threads before number said =
    First (not (is_well_formed said)) (Err (faults.Syntax number))
    (First (not (names_threads threads said)) (Err (faults.Thread number))
    (Ok (before ++ turns_said said)))

-- the turns so far, with those of a line, which has to be clean
abbrev pub line_rows : ℕ → List Turns → ℕ × List ℕ → Result (List Turns) ScheduleFault
line_rows threads before (number, line) =
    First (not (is_clean line)) (Err (faults.Syntax number)) (turn_rows threads before number (said_by (words_of line)))

-- ---- a text

-- The turns of all lines, in order, or the first refusal. That the text has too many lines is looked for first.
abbrev pub schedule_of : ℕ → List ℕ → Result (List Turns) ScheduleFault
schedule_of threads text =
    First (nat_lt most_lines (length (lines text))) (Err faults.Limit)
    (InTurn (λ before line. line_rows threads before line) [] (numbered_lines text))

-- turns that a schedule may give to this many threads: at least one, of one of the threads or of the patcher
abbrev pub AreTurnsOf : ℕ → Turns → Type 0
AreTurnsOf threads (Thread thread count) = (1 ≤ thread) × (thread ≤ threads) × (1 ≤ count)
AreTurnsOf threads (Patcher count) = 1 ≤ count
