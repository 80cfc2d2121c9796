-- Laws of logs of the Flight Data Recorder mode, over the grammar, and of what is printed of logs.
use Rattle.std.specs.Prelude.{◌≡◌, ◌≢◌, ◌⊎◌, ◌∷◌, ◌<◌, ◌≤◌, ◌==◌, ◌&&◌, ◌||◌, not, nat_lt, Bool, false, ℕ, ◌+◌, List, [], length, map, filter, take, sum, count_by, slice_index_or, All, Contains, Option, Some, None, Ok, if◌then◌else◌}
use Rattle.std.specs.List.{range_with_len}
use Rattle.std.specs.List.Sorted.{IsSortedBy}
use Rattle.std.specs.Set.{distinct_count}
use Rattle.std.specs.Str.{bytes_eq}
use Rattle.fdr_file.specs.declared.trace.Trace.{Trace}
use Rattle.fdr_file.specs.ThreadEvents.{ThreadEvent, thread_events}
use Rattle.fdr_file.specs.Traces.{logs_arg, trace_of, type_in}
use Rattle.runtime_log.specs.declared.facts.Facts.{Facts}
use Rattle.runtime_log.specs.Grammar.{IsLog}
use Rattle.runtime_log.specs.Imports.{IsImport}
use Rattle.runtime_log.specs.Logs.{Log, LogBlock, logged}
use Rattle.runtime_log.specs.Taken.{comes_before, is_doubled}
use Rattle.runtime_log.specs.Threads.{recorded_by}

-- what bytes are read as, if they say that they are a log of this mode, is a log by the grammar
abbrev pub LoggedIsLog : Type 0
LoggedIsLog = (bytes : List ℕ) (log : Log) → All (λ b. b < 256) bytes → type_in bytes ≡ 1 → logged bytes ≡ Ok log → IsLog bytes log

-- a log by the grammar is read as this log
abbrev pub LogIsLogged : Type 0
LogIsLogged = (bytes : List ℕ) (log : Log) → IsLog bytes log → logged bytes ≡ Ok log

-- ---- what is imported of a log of this mode

-- the events of blocks, in order
abbrev pub pool_events : List LogBlock → List ThreadEvent
pool_events blocks = thread_events (map (λ b. b.block) blocks)

-- the blocks of a thread, in order
abbrev pub blocks_of_thread : ℕ → List LogBlock → List LogBlock
blocks_of_thread thread blocks = filter (λ b. b.block.thread == thread) blocks

-- Of each thread, the events of the trace are those of its blocks that are taken, one block after the other. So none of
-- these is lost, none is new, and none is changed.
abbrev pub ThreadsAreKept : Type 0
ThreadsAreKept = (bytes file : List ℕ) (facts : Facts) (trace : Trace) (thread : ℕ) → All (λ b. b < 256) bytes → type_in bytes ≡ 1
    → (made : IsImport bytes file facts) → trace_of file ≡ Ok trace
    → recorded_by thread (thread_events trace.blocks) ≡ pool_events (blocks_of_thread thread made.takes.pool)

-- some block is so
abbrev pub SomeBlock : (LogBlock → Type 0) → List LogBlock → Type 0
SomeBlock IsSo [] = ⊥
SomeBlock IsSo (b ∷ blocks) = IsSo b ⊎ SomeBlock IsSo blocks

-- These are blocks of a log with events, in the order of their keys. Of each block of the log with events, one with the same
-- bytes is taken. No two that are taken have the same bytes.
pub record AreItsBlocks (blocks taken : List LogBlock) : Type 0 where
  pub each : All (λ b. SomeBlock (λ other. b ≡ other) blocks × (b.block.events ≢ [])) taken
  pub none_lost : All (λ b. b.block.events ≢ [] → SomeBlock (λ t. t.content ≡ b.content) taken) blocks
  pub once : (content : List ℕ) → count_by (λ t. bytes_eq t.content content) taken ≤ 1
  pub sorted : IsSortedBy comes_before taken

abbrev pub BlocksAreTaken : Type 0
BlocksAreTaken = (bytes file : List ℕ) (facts : Facts) → All (λ b. b < 256) bytes → type_in bytes ≡ 1 → (made : IsImport bytes file facts)
    → AreItsBlocks made.log.blocks made.takes.pool

-- the number is the least of these, or there are none
abbrev pub IsLeast : List ℕ → Option ℕ → Type 0
IsLeast numbers None = numbers ≡ []
IsLeast numbers (Some n) = Contains numbers n × All (λ m. n ≤ m) numbers

-- the number is the greatest of these, or there are none
abbrev pub IsGreatest : List ℕ → Option ℕ → Type 0
IsGreatest numbers None = numbers ≡ []
IsGreatest numbers (Some n) = Contains numbers n × All (λ m. m ≤ n) numbers

-- block i has bytes, and these are those of a block before it
abbrev pub is_double : List LogBlock → (i : ℕ) → Bool
is_double blocks i = let contents = map (λ b. b.content) blocks in is_doubled (take i contents) (slice_index_or contents i [])

-- block i has no events
abbrev pub is_empty_block : List LogBlock → (i : ℕ) → Bool
is_empty_block blocks i = slice_index_or (map (λ b. length b.block.events) blocks) i 0 == 0

-- the places of blocks: 0 for the first one
abbrev pub block_places : List LogBlock → List ℕ
block_places blocks = range_with_len 0 (length blocks)

-- some number is below the one before it
abbrev pub goes_back : List ℕ → Bool
goes_back [] = false
goes_back (n ∷ []) = false
goes_back (n ∷ next ∷ ns) = nat_lt next n || goes_back (next ∷ ns)

-- the counters of a thread's events, in their order
abbrev pub thread_counters : (thread : ℕ) → List ThreadEvent → List ℕ
thread_counters thread events = map (λ e. e.event.tsc) (recorded_by thread events)

-- how many threads these are, if each counts once
abbrev pub distinct_threads : List ℕ → ℕ
distinct_threads threads = distinct_count (λ a b. a == b) threads

-- What is printed of all events of a trace. A thread whose counter goes back has an event whose counter is below that of
-- its event before it.
pub record NumbersAreOfEvents (all : List ThreadEvent) (facts : Facts) : Type 0 where
  pub events : facts.events ≡ length all
  pub arguments : facts.arguments ≡ count_by (λ e. logs_arg e.event.kind) all
  pub threads : facts.threads ≡ distinct_threads (map (λ e. e.thread) all)
  pub first : IsLeast (map (λ e. e.event.tsc) all) facts.first
  pub last : IsGreatest (map (λ e. e.event.tsc) all) facts.last
  pub back : facts.back ≡ distinct_threads (filter (λ thread. goes_back (thread_counters thread all)) (map (λ e. e.thread) all))

-- What is printed of a log and of the trace that is made of it. Each block of the log is taken, doubled or empty. A block is
-- doubled if it has bytes, and these are those of a block before it. It is empty if it isn't doubled and has no events. The program's own
-- events and the cut records are those of all blocks. The other numbers are those of the trace.
pub record NumbersAreOf (log : Log) (trace : Trace) (facts : Facts) : Type 0 where
  pub blocks : facts.blocks + facts.doubled + facts.empty ≡ length log.blocks
  pub doubled : facts.doubled ≡ count_by (is_double log.blocks) (block_places log.blocks)
  pub empty : facts.empty ≡ count_by (λ i. is_empty_block log.blocks i && not (is_double log.blocks i)) (block_places log.blocks)
  pub custom : facts.custom ≡ sum (map (λ b. b.custom) log.blocks)
  pub typed : facts.typed ≡ sum (map (λ b. b.typed) log.blocks)
  pub lost : facts.lost ≡ 0
  pub cut : facts.cut ≡ sum (map (λ b. b.cut) log.blocks)
  pub frequency : facts.frequency ≡ trace.header.frequency
  pub of_events : NumbersAreOfEvents (thread_events trace.blocks) facts

abbrev pub NumbersAreMeant : Type 0
NumbersAreMeant = (bytes file : List ℕ) (facts : Facts) (trace : Trace) → All (λ b. b < 256) bytes → type_in bytes ≡ 1
    → (made : IsImport bytes file facts) → trace_of file ≡ Ok trace → NumbersAreOf made.log trace facts

-- ---- what is printed of a basic log

-- How many runs events make. A run is begun by the first event, and by each event of another thread or process than the one
-- before it.
abbrev pub run_count : List ThreadEvent → ℕ
run_count [] = 0
run_count (e ∷ []) = 1
run_count (e ∷ next ∷ events) = (if (e.thread == next.thread) && (e.pid == next.pid) then 0 else 1) + run_count (next ∷ events)

-- What is printed of a basic log and of the trace that is made of it. The blocks are the runs of the trace. Of a basic log
-- only arguments that have lost their entries are left out. The numbers of events are those of the trace, and those of the
-- log.
pub record BasicNumbersAreOf (log : Log) (trace : Trace) (facts : Facts) : Type 0 where
  pub blocks : facts.blocks ≡ run_count (thread_events trace.blocks)
  pub doubled : facts.doubled ≡ 0
  pub empty : facts.empty ≡ 0
  pub custom : facts.custom ≡ 0
  pub typed : facts.typed ≡ 0
  pub lost : facts.lost ≡ log.lost
  pub cut : facts.cut ≡ 0
  pub frequency : facts.frequency ≡ trace.header.frequency
  pub of_events : NumbersAreOfEvents (thread_events trace.blocks) facts
  pub of_log : NumbersAreOfEvents log.events facts

abbrev pub BasicNumbersAreMeant : Type 0
BasicNumbersAreMeant = (bytes file : List ℕ) (facts : Facts) (trace : Trace) → All (λ b. b < 256) bytes → type_in bytes ≡ 0
    → (made : IsImport bytes file facts) → trace_of file ≡ Ok trace → BasicNumbersAreOf made.log trace facts
