-- Laws of imports, over what the bytes of a log say.
use Rattle.std.specs.Prelude.{◌≡◌, ◌≢◌, ◌<◌, ⊤, ℕ, List, [], ◌∷◌, map, All, AllPairs, IsTrue, Some, Ok}
use Rattle.std.specs.Cmp.Lexicographic.{slice_cmp}
use Rattle.std.specs.Ordering.{nat_cmp}
use Rattle.std.specs.declared.cmp.Ordering.{Ordering}
use Rattle.std.specs.declared.cmp.Ordering.TheVariants.{Less, Equal, Greater}
use Rattle.fdr_buffer.specs.Filled.{Filled, has_event, used_bytes}
use Rattle.fdr_file.specs.declared.header.Header.{Header}
use Rattle.fdr_file.specs.declared.trace.Trace.{Trace}
use Rattle.fdr_file.specs.Files.{BlockFits, HeaderFits, file_bytes}
use Rattle.fdr_file.specs.ThreadEvents.{thread_events}
use Rattle.fdr_file.specs.Traces.{trace_of, type_in, version_in}
use Rattle.runtime_log.specs.declared.basic.BasicRec.{BasicRec}
use Rattle.runtime_log.specs.declared.facts.Facts.{Facts}
use Rattle.runtime_log.specs.declared.version.BasicVersion.{BasicVersion}
use Rattle.runtime_log.specs.BasicLogs.{basic_records, recorded_events}
use Rattle.runtime_log.specs.Imports.{IsImport, trace_taken}
use Rattle.runtime_log.specs.Logs.{Log, logged}
use Rattle.runtime_log.specs.Taken.{first_counter}
use Rattle.runtime_log.specs.Threads.{recorded_by}
use Rattle.runtime_log.specs.Versions.{basic_version_of}

-- a log is imported in one way only
abbrev pub OneImport : Type 0
OneImport = (bytes file other : List ℕ) (facts others : Facts) → IsImport bytes file facts → IsImport bytes other others
    → (other ≡ file) × (others ≡ facts)

-- and in some way
abbrev pub SomeImport : Type 0
SomeImport = (bytes : List ℕ) (log : Log) → logged bytes ≡ Ok log → (file : List ℕ) × (facts : Facts) × IsImport bytes file facts

-- The file of an import reads as the trace of the blocks that are taken: exactly their events, in this order.
abbrev pub ImportsRead : Type 0
ImportsRead = (bytes file : List ℕ) (facts : Facts) → All (λ b. b < 256) bytes → (made : IsImport bytes file facts)
    → trace_of file ≡ Ok (trace_taken made.log.header made.taken)

-- ---- threads of basic logs

-- The trace of a basic log has the events of each thread as the log has them: all of them and no others, in the order in which
-- they were recorded.
abbrev pub ThreadsKeepTheirOrder : Type 0
ThreadsKeepTheirOrder = (bytes file : List ℕ) (facts : Facts) (version : BasicVersion) (records : List BasicRec) → All (λ b. b < 256) bytes
    → type_in bytes ≡ 0 → basic_version_of (version_in bytes) ≡ Some version → basic_records version bytes ≡ Ok records → IsImport bytes file facts → (trace : Trace) × (trace_of file ≡ Ok trace)
    × ((thread : ℕ) → recorded_by thread (thread_events trace.blocks) ≡ recorded_by thread (recorded_events records))

-- ---- traces are logs

-- what a log says as a trace
abbrev pub said_of : Log → Trace
said_of log = record { header = log.header; blocks = map (λ b. b.block) log.blocks }

-- A trace of version 3 is a log, which says the trace. So one grammar serves both.
abbrev pub TracesAreLogs : Type 0
TracesAreLogs = (bytes : List ℕ) (trace : Trace) → trace_of bytes ≡ Ok trace → trace.header.version ≡ 3
    → (log : Log) × (logged bytes ≡ Ok log) × (said_of log ≡ trace)

-- ---- traces that are imported as themselves

-- where a buffer stands in the order of blocks
abbrev pub buffer_key : Filled → List ℕ
buffer_key buffer = buffer.thread ∷ buffer.wall.secs ∷ buffer.wall.micros ∷ first_counter buffer.events ∷ []

-- One of two buffers may stand before the other: it comes first by its thread, its wall time or its first counter. Two that
-- are level in these may stand in any order, but not have the same bytes, since the second one would be left out.
abbrev pub MayStandBefore : Ordering → Filled → Filled → Type 0
MayStandBefore Less buffer later = ⊤
MayStandBefore Equal buffer later = used_bytes buffer ≢ used_bytes later
MayStandBefore Greater buffer later = ⊥

-- Each buffer may stand before those behind it. The buffers of a run may if the counter of no thread falls, and no two
-- segments of a thread have the same events. With `--tick 0` two of them may.
abbrev pub AreInOrder : List Filled → Type 0
AreInOrder buffers =
    AllPairs (λ buffer later. MayStandBefore (slice_cmp nat_cmp (buffer_key buffer) (buffer_key later)) buffer later) buffers

-- A file that is written for buffers with events, in this order, is imported as itself.
abbrev pub ImportsItself : Type 0
ImportsItself = (header : Header) (buffers : List Filled) (file : List ℕ) (facts : Facts) → HeaderFits header → All BlockFits buffers
    → All (λ buffer. IsTrue (has_event buffer)) buffers → AreInOrder buffers → IsImport (file_bytes header buffers) file facts
    → file ≡ file_bytes header buffers
