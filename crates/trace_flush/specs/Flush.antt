-- The trace of a run: what its file is.
use Rattle.std.specs.Prelude.{◌≡◌, ◌==◌, Bool, true, ℕ, List, filter, map}
use Rattle.std.specs.List.{enumerate_from, flat_map}
use Rattle.fdr_record.specs.declared.event.Event.{Event}
use Rattle.fdr_file.specs.declared.header.Header.{Header}
use Rattle.fdr_file.specs.declared.trace.Block.{Block}
use Rattle.fdr_file.specs.declared.trace.Trace.{Trace}
use Rattle.fdr_file.specs.Files.{file_bytes}
use Rattle.fdr_file.specs.Grammar.{IsTrace}
use Rattle.machine_step.specs.declared.setup.Setup.{Setup}
use Rattle.traced_run.specs.Kept.{kept_buffers, kept_of}
use Rattle.traced_run.specs.Runs.{EachThread, ThreadRun, events_of}

-- The header of a trace with this setup: version 3, a counter that runs at a constant frequency and never stops, that
-- frequency in cycles per second, and the size of a buffer in bytes.
abbrev pub run_header : Setup → Header
run_header setup = record { version = 3; constant = true; nonstop = true; frequency = setup.frequency; size = setup.size }

-- the block of a segment of a thread
abbrev pub segment_block : Setup → ℕ → List Event → Block
segment_block setup thread events = record { thread = thread; wall = setup.wall; pid = setup.pid; events = events }

-- The bytes of the trace file of a run.
abbrev pub trace_bytes : Setup → List ThreadRun → List ℕ
trace_bytes setup runs = file_bytes (run_header setup) (kept_buffers setup runs)

-- ---- what the bytes say

-- whether a block belongs to a thread, and the blocks of a thread
abbrev pub is_of : ℕ → Block → Bool
is_of thread block = block.thread == thread

abbrev pub blocks_of : ℕ → Trace → List Block
blocks_of thread trace = filter (is_of thread) trace.blocks

-- the blocks of a thread of a run: the last whole segments of exactly the entries and exits that its marks record
abbrev pub thread_blocks : Setup → ℕ × ThreadRun → List Block
thread_blocks setup (thread, run) = map (segment_block setup thread) (kept_of setup.size run)

-- The bytes are the trace of a run. By the grammar of trace files, they are a header with the setup's frequency and
-- size of buffers, and blocks. The blocks of each thread are the last whole segments of exactly the entries and exits
-- that its marks record. Only its lost segments are missing, which are its oldest. If a thread has lost no segment, its
-- blocks hold all of these events. The blocks are ordered by thread, and those of a thread by segment. There are no
-- others.
pub record IsTraceOf (setup : Setup) (runs : List ThreadRun) (bytes : List ℕ) : Type 0 where
  pub trace : Trace
  pub reads : IsTrace bytes trace
  pub header : trace.header ≡ run_header setup
  pub blocks : EachThread runs (λ number run. blocks_of number trace ≡ thread_blocks setup (number, run))
  pub whole : EachThread runs (λ number run. run.lost ≡ 0
      → flat_map (λ block. block.events) (blocks_of number trace) ≡ events_of run)
  pub order : trace.blocks ≡ flat_map (thread_blocks setup) (enumerate_from 1 runs)
