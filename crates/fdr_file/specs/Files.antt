-- The bytes of a trace file, as it is written.
use Rattle.std.specs.Prelude.{◌≡◌, ◌<◌, ◌^◌, ℕ, ◌+◌, List, ◌++◌, IsTrue, length, map, replicate, if◌then◌else◌}
use Rattle.std.specs.List.{flat_map}
use Rattle.byteorder.specs.Endian.{little_bytes}
use Rattle.fdr_record.specs.declared.rec.Rec.TheVariants.{Extents}
use Rattle.fdr_record.specs.Records.{record_bytes}
use Rattle.fdr_buffer.specs.Filled.{Filled, used_bytes}
use Rattle.fdr_buffer.specs.Fits.{BufferFits}
use Rattle.fdr_file.specs.declared.header.Header.{Header}
use Rattle.fdr_file.specs.declared.trace.Block.{Block}
use Rattle.fdr_file.specs.declared.trace.Trace.{Trace}

-- The flags of a header as a number. Bit 0 says that the counter's frequency is constant, and bit 1 that the counter
-- never stops.
abbrev pub flags_of : Header → ℕ
flags_of header = (if header.constant then 1 else 0) + (if header.nonstop then 2 else 0)

-- a header: its version, the type 1, its flags, the frequency, the size of a buffer, and 8 reserved bytes
abbrev pub header_bytes : Header → List ℕ
header_bytes header =
    little_bytes 2 header.version ++ little_bytes 2 1 ++ little_bytes 4 (flags_of header) ++ little_bytes 8 header.frequency
    ++ little_bytes 8 header.size ++ replicate 8 0

-- a block: extents that name the number of the bytes after them, and the bytes of a buffer
abbrev pub block_bytes : Filled → List ℕ
block_bytes buffer = record_bytes (Extents (length (used_bytes buffer))) ++ used_bytes buffer

-- The file of a header and of buffers, in order.
abbrev pub file_bytes : Header → List Filled → List ℕ
file_bytes header buffers = header_bytes header ++ flat_map block_bytes buffers

-- ---- what is read again

-- the block of a buffer
abbrev pub block_told : Filled → Block
block_told buffer = record { thread = buffer.thread; wall = buffer.wall; pid = buffer.pid; events = buffer.events }

-- the trace of a header and of buffers
abbrev pub trace_told : Header → List Filled → Trace
trace_told header buffers = record { header = header; blocks = map block_told buffers }

-- the fields of a header of version 3 fit the program's types
pub record HeaderFits (header : Header) : Type 0 where
  pub version : header.version ≡ 3
  pub frequency : header.frequency < 2 ^ 64
  pub size : header.size < 2 ^ 64

-- a buffer that was begun, and so has a preamble, and that fits its records
pub record BlockFits (buffer : Filled) : Type 0 where
  pub begun : IsTrue buffer.begun
  pub fits : BufferFits buffer
