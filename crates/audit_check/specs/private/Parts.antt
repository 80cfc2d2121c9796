-- The parts of the rows of an audit.
use Rattle.std.specs.Prelude.{◌≡◌, ◌<◌, ◌≤◌, ◌+◌, ◌*◌, ◌^◌, ℕ, false, List, [], ◌∷◌, ◌++◌, codes, decimal}
use Rattle.std.specs.Char.{is_ascii_digit}
use Rattle.xray_io.specs.declared.wall.Wall.{Wall}
use Rattle.fdr_buffer.specs.declared.buffer.TheConstants.{LARGEST_SIZE, LEAST_SIZE, MOST_BUFFERS, TRACE_LIMIT}
use Rattle.sled_words.specs.declared.words.TheConstants.{MAX_THREADS}
use Rattle.machine_step.specs.declared.setup.Setup.{Setup}
use Rattle.machine_step.specs.Texts.{end_text, line_feed}
use Rattle.trace_flush.specs.Audit.{limits_text}
use Rattle.audit_check.specs.declared.thread_rows.Counts.{Counts}

-- the bytes don't go on with a digit
abbrev pub BeginsNoDigit : List ℕ → Type 0
BeginsNoDigit [] = Unit {0}
BeginsNoDigit (byte ∷ bytes) = is_ascii_digit byte ≡ false

-- the first row of each audit
abbrev pub format_row : List ℕ
format_row = codes "xray-audit 1" ++ line_feed

-- the threads and the buffers
abbrev pub buffers_part : (threads size max : ℕ) → List ℕ
buffers_part threads size max =
    codes "threads=" ++ decimal threads ++ codes " buffer-size=" ++ decimal size ++ codes " buffer-max=" ++ decimal max

-- the process, the seconds and the microseconds of the wall time, and the counter's frequency
abbrev pub stamps_part : (pid : ℕ) → Wall → (frequency : ℕ) → List ℕ
stamps_part pid wall frequency =
    codes " pid=" ++ decimal pid ++ codes " wall=" ++ decimal wall.secs ++ codes "." ++ decimal wall.micros
    ++ codes " frequency=" ++ decimal frequency

-- the second row, which says what the run was made with
abbrev pub setup_row : Setup → List ℕ
setup_row setup =
    buffers_part setup.threads setup.size setup.max ++ limits_text setup.limits ++ stamps_part setup.pid setup.wall setup.frequency ++ line_feed

-- ---- which setups a run may have, in parts

-- the threads and the buffers
pub record AreBuffers (setup : Setup) : Type 0 where
  pub some_thread : 1 ≤ setup.threads
  pub few_threads : setup.threads ≤ MAX_THREADS
  pub least : LEAST_SIZE ≤ setup.size
  pub most : setup.size ≤ LARGEST_SIZE
  pub enough : setup.threads ≤ setup.max
  pub few_buffers : setup.max ≤ MOST_BUFFERS
  pub room : setup.max * (setup.size + 16) + 32 ≤ TRACE_LIMIT

-- the process and the wall time
pub record AreStamps (setup : Setup) : Type 0 where
  pub pid : setup.pid < 2 ^ 31
  pub micros : setup.wall.micros < 1000000

-- ---- the counts of a thread

-- they have 32 bits
pub record HasShortCounts (counts : Counts) : Type 0 where
  pub passings : counts.passings < 2 ^ 32
  pub recorded : counts.recorded < 2 ^ 32
  pub segments : counts.segments < 2 ^ 32
  pub first : counts.first < 2 ^ 32

-- how it ended, and its counts
abbrev pub counts_part : Counts → List ℕ
counts_part counts =
    codes " " ++ end_text counts.end ++ codes " passings " ++ decimal counts.passings ++ codes " recorded " ++ decimal counts.recorded
    ++ codes " segments " ++ decimal counts.segments ++ codes " first " ++ decimal counts.first
