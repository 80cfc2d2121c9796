-- Reading a row from its first byte to its last, for the contracts of the reader's private functions.
use Rattle.std.specs.Prelude.{◌≡◌, ◌==◌, ◌&&◌, ◌^◌, ℕ, not, nat_lt, slice_index, List, [], ◌∷◌, length, take, drop, Option, Some, None, if◌then◌else◌, codes, decimal}
use Rattle.std.specs.Char.{is_ascii_digit}
use Rattle.std.specs.List.{position_or_len}
use Rattle.std.specs.Str.{bytes_eq}
use Rattle.text_lines.specs.Numbers.{numeral}
use Rattle.handler_word.specs.declared.mark.Mark.{Mark}
use Rattle.handler_word.specs.declared.mark.Mark.TheVariants.{Skipped, NoHandler, NotLogging, Recorded, RecordedArg}
use Rattle.machine_step.specs.declared.end.End.{End}
use Rattle.machine_step.specs.declared.end.End.TheVariants.{BadTarget, Fuel, OutputFull, Passings, Returned, StackEmpty, StackFull}
use Rattle.machine_step.specs.declared.limits.Limits.{Limits}
use Rattle.machine_step.specs.declared.setup.Setup.{Setup}
use Rattle.machine_step.specs.Texts.{end_text, line_feed}
use Rattle.audit_check.specs.declared.setup.Buffers.{Buffers}
use Rattle.audit_check.specs.declared.setup.Stamps.{Stamps}
use Rattle.audit_check.specs.declared.thread_rows.Counts.{Counts}

infixl 10 ◌>>=◌
-- what follows a value, if there is one
abbrev pub ◌>>=◌ : {A B : Type 0} → Option A → (A → Option B) → Option B
(Some x) >>= f = f x
None >>= f = None

-- what a function returned, as a view of it, is what reading gives
abbrev pub Gives : {X Y : Type 0} → (X → Y) → Option X → Option Y → Type 0
Gives view (Some x) read = read ≡ Some (view x)
Gives view None read = read ≡ None

-- a part of a row, and the bytes after it
abbrev pub Read : Type 0 → Type 0
Read A = Option (A × List ℕ)

-- ---- words and numbers

-- the bytes after a word
unfoldable pub after : List ℕ → List ℕ → Option (List ℕ)
after [] row = Some row
after (byte ∷ word) [] = None
after (byte ∷ word) (next ∷ row) = if byte == next then after word row else None

-- how many digits come first
abbrev pub digit_count : List ℕ → ℕ
digit_count row = position_or_len (λ byte. not (is_ascii_digit byte)) row

-- the number of 64 bits that a word prints
unfoldable pub printed : List ℕ → Option ℕ
printed word = do
  number ← numeral 10 word
  if bytes_eq (decimal number) word then Some number else None

unfoldable pub number_in : List ℕ → Read ℕ
number_in row = do
  number ← printed (take (digit_count row) row)
  Some (number, drop (digit_count row) row)

-- a name, and a number after it
unfoldable pub field_in : List ℕ → List ℕ → Read ℕ
field_in name row = do
  rest ← after name row
  number_in rest

-- the same for a number of 32 bits
unfoldable pub short_in : List ℕ → List ℕ → Read ℕ
short_in name row = do
  field ← field_in name row
  if nat_lt field.0 (2 ^ 32) then Some field else None

-- ---- ends and marks

abbrev pub byte_in : List ℕ → Read ℕ
byte_in [] = None
byte_in (byte ∷ row) = Some (byte, row)

-- the end of a stack whose name a row may begin with: the names differ at their seventh byte
abbrev pub stack_end : List ℕ → End
stack_end row = if nat_lt 6 (length row) && (slice_index row 6 == 102) then StackFull else StackEmpty

-- the end whose name a row may begin with, by its first byte
abbrev pub guessed_end : List ℕ → Option End
guessed_end row = do
  first ← byte_in row
  if first.0 == 114 then Some Returned
      else if first.0 == 102 then Some Fuel
      else if first.0 == 112 then Some Passings
      else if first.0 == 111 then Some OutputFull
      else if first.0 == 115 then Some (stack_end row)
      else if first.0 == 98 then Some BadTarget
      else None

unfoldable pub end_in : List ℕ → Read End
end_in row = do
  end ← guessed_end row
  rest ← after (end_text end) row
  Some (end, rest)

-- the mark of a character
abbrev pub mark_named : ℕ → Option Mark
mark_named byte =
    if byte == 46 then Some Skipped
    else if byte == 110 then Some NoHandler
    else if byte == 102 then Some NotLogging
    else if byte == 43 then Some Recorded
    else if byte == 97 then Some RecordedArg
    else None

unfoldable pub mark_in : List ℕ → Read Mark
mark_in row = do
  byte ← byte_in row
  mark ← mark_named byte.0
  Some (mark, byte.1)

-- a run of marks
unfoldable pub run_in : List ℕ → Read (Mark × ℕ)
run_in row = do
  mark ← mark_in row
  count ← short_in [] mark.1
  Some ((mark.0, count.0), count.1)

-- ---- the setup

unfoldable pub buffers_in : List ℕ → Read Buffers
buffers_in row = do
  threads ← short_in (codes "threads=") row
  size ← short_in (codes " buffer-size=") threads.1
  max ← short_in (codes " buffer-max=") size.1
  Some (record { threads = threads.0; size = size.0; max = max.0 }, max.1)

-- how many CPUs there are, by a number of 16 bits
unfoldable pub cpus_in : List ℕ → Read ℕ
cpus_in row = do
  cpus ← short_in (codes " cpus=") row
  if nat_lt cpus.0 (2 ^ 16) then Some cpus else None

unfoldable pub limits_in : List ℕ → Read Limits
limits_in row = do
  fuel ← field_in (codes " fuel=") row
  passings ← short_in (codes " passings=") fuel.1
  tick ← field_in (codes " tick=") passings.1
  tsc ← field_in (codes " tsc=") tick.1
  cpus ← cpus_in tsc.1
  migrate ← short_in (codes " migrate=") cpus.1
  Some (record { fuel = fuel.0; passings = passings.0; tick = tick.0; tsc = tsc.0; cpus = cpus.0; migrate = migrate.0 }, migrate.1)

unfoldable pub stamps_in : List ℕ → Read Stamps
stamps_in row = do
  pid ← short_in (codes " pid=") row
  secs ← field_in (codes " wall=") pid.1
  micros ← short_in (codes ".") secs.1
  frequency ← field_in (codes " frequency=") micros.1
  Some (record { pid = pid.0; wall = record { secs = secs.0; micros = micros.0 }; frequency = frequency.0 }, frequency.1)

-- a setup of its parts
abbrev pub setup_by : Buffers → Limits → Stamps → Setup
setup_by buffers limits stamps = record {
  threads = buffers.threads;
  size = buffers.size;
  max = buffers.max;
  limits = limits;
  pid = stamps.pid;
  wall = stamps.wall;
  frequency = stamps.frequency;
}

unfoldable pub setup_in : List ℕ → Option Setup
setup_in row = do
  buffers ← buffers_in row
  limits ← limits_in buffers.1
  stamps ← stamps_in limits.1
  if bytes_eq stamps.1 line_feed then Some (setup_by buffers.0 limits.0 stamps.0) else None

-- ---- a thread, and the end

unfoldable pub said_in : List ℕ → Read Counts
said_in row = do
  space ← after (codes " ") row
  end ← end_in space
  passings ← short_in (codes " passings ") end.1
  recorded ← short_in (codes " recorded ") passings.1
  segments ← short_in (codes " segments ") recorded.1
  first ← short_in (codes " first ") segments.1
  Some (record { end = end.0; passings = passings.0; recorded = recorded.0; segments = segments.0; first = first.0 }, first.1)

-- the counts of the thread of this number
unfoldable pub counts_in : ℕ → List ℕ → Option Counts
counts_in thread row = do
  number ← short_in (codes "thread ") row
  if number.0 == thread then (do
    counts ← said_in number.1
    if bytes_eq counts.1 line_feed then Some counts.0 else None) else None

unfoldable pub recycled_in : List ℕ → Option ℕ
recycled_in row = do
  recycled ← field_in (codes "recycled ") row
  if bytes_eq recycled.1 line_feed then Some recycled.0 else None
