-- The ranges of the fields of a trace.
use Rattle.std.specs.Prelude.{◌<◌, ◌^◌, All}
pub use Rattle.fdr_buffer.specs.Segments.{EventFits}
use Rattle.fdr_file.specs.declared.trace.Block.{Block}
use Rattle.fdr_file.specs.declared.trace.Trace.{Trace}

-- each field of a block, and of its events, fits the record that says it
pub record BlockFieldsFit (block : Block) : Type 0 where
  pub thread : block.thread < 2 ^ 32
  pub secs : block.wall.secs < 2 ^ 64
  pub micros : block.wall.micros < 2 ^ 32
  pub pid : block.pid < 2 ^ 32
  pub events : All EventFits block.events

-- so do those of each block of a trace, and the numbers of its header fit their bytes
pub record TraceFieldsFit (trace : Trace) : Type 0 where
  pub version : trace.header.version < 2 ^ 16
  pub frequency : trace.header.frequency < 2 ^ 64
  pub size : trace.header.size < 2 ^ 64
  pub blocks : All BlockFieldsFit trace.blocks
