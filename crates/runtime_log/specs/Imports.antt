-- The trace that a log is imported as.
use Rattle.std.specs.Prelude.{◌≡◌, ℕ, ◌++◌, true, List, map, Ok}
use Rattle.std.specs.List.{flat_map}
use Rattle.fdr_buffer.specs.declared.buffer.TheConstants.{LARGEST_SIZE}
use Rattle.fdr_buffer.specs.Filled.{Filled}
use Rattle.fdr_buffer.specs.Segments.{segments}
use Rattle.fdr_file.specs.declared.header.Header.{Header}
use Rattle.fdr_file.specs.declared.trace.Block.{Block}
use Rattle.fdr_file.specs.declared.trace.Trace.{Trace}
use Rattle.fdr_file.specs.Files.{file_bytes}
use Rattle.runtime_log.specs.declared.facts.Facts.{Facts}
use Rattle.runtime_log.specs.Facts.{facts_of}
use Rattle.runtime_log.specs.Logs.{Log, LogBlock, logged}
use Rattle.runtime_log.specs.Taken.{AreTaken}
use Rattle.runtime_log.specs.Threads.{AreByThread}

-- the blocks of a block: its events, cut where they need more bytes than a buffer may have
abbrev pub pieces_of : Block → List Block
pieces_of block = map (λ events. record block { events = events }) (segments LARGEST_SIZE block.events)

-- the trace of blocks that are taken
abbrev pub trace_taken : Header → List Block → Trace
trace_taken header taken = record { header = header; blocks = flat_map pieces_of taken }

-- a block as the buffer that it is written from
abbrev pub buffer_for : Block → Filled
buffer_for block = record {
  size = LARGEST_SIZE;
  begun = true;
  thread = block.thread;
  serial = 0;
  wall = block.wall;
  pid = block.pid;
  events = block.events;
}

-- the bytes of the file that is written for a trace
abbrev pub trace_file : Trace → List ℕ
trace_file trace = file_bytes trace.header (map buffer_for trace.blocks)

-- The blocks that are taken of a log: those of its pool, and those of its events, thread by thread.
pub record AreTakenOf (log : Log) (taken : List Block) : Type 0 where
  pub pool : List LogBlock
  pub chosen : AreTaken log.blocks pool
  pub threads : List Block
  pub by_thread : AreByThread log.events threads
  pub parts : taken ≡ map (λ b. b.block) pool ++ threads

-- The bytes are a log, of which this file is made, and of which this is printed.
pub record IsImport (bytes file : List ℕ) (facts : Facts) : Type 0 where
  pub log : Log
  pub says : logged bytes ≡ Ok log
  pub taken : List Block
  pub takes : AreTakenOf log taken
  pub file_is : file ≡ trace_file (trace_taken log.header taken)
  pub facts_are : facts ≡ facts_of log taken
