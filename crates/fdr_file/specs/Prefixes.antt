-- The prefixes of bytes that are traces.
use Rattle.std.specs.Prelude.{◌≡◌, ◌≤◌, ◌<◌, ⊤, ℕ, ◌+◌, List, [], ◌∷◌, ◌++◌, length, map, take, Ok}
use Rattle.fdr_file.specs.declared.fault.TraceFault.{TraceFault}
use Rattle.fdr_file.specs.declared.fault.TraceFault.TheVariants as faults
use Rattle.fdr_file.specs.declared.trace.Block.{Block}
use Rattle.fdr_file.specs.declared.trace.Trace.{Trace}
use Rattle.fdr_file.specs.Traces.{block_length, block_starts, trace_of}

-- bytes that read as a trace
abbrev pub ReadsAsTrace : List ℕ → Type 0
ReadsAsTrace bytes = (trace : Trace) × (trace_of bytes ≡ Ok trace)

-- The longest prefix of the bytes that reads as a trace has this length.
pub record IsReadable (bytes : List ℕ) (len : ℕ) : Type 0 where
  pub within : len ≤ length bytes
  pub reads : ReadsAsTrace (take len bytes)
  pub longest : (more : ℕ) → len < more → more ≤ length bytes → ReadsAsTrace (take more bytes) → ⊥

-- a fault of a header, and not of a block
abbrev pub IsHeaderFault : TraceFault → Type 0
IsHeaderFault (faults.Short place) = place ≡ 0
IsHeaderFault (faults.Version number) = ⊤
IsHeaderFault (faults.Form number) = ⊤
IsHeaderFault (faults.Order place) = ⊥
IsHeaderFault (faults.Extents place) = ⊥
IsHeaderFault (faults.Bad place fault) = ⊥
IsHeaderFault (faults.NoBase place) = ⊥
IsHeaderFault faults.NoMemory = ⊥

-- the place after the block that begins at a place
abbrev pub block_end : ℕ × List ℕ → ℕ
block_end (at, bytes) = at + block_length bytes

-- The place after the header of a trace, and then the place after each of its blocks.
abbrev pub trace_ends : List ℕ → List ℕ
trace_ends bytes = 32 ∷ map block_end (block_starts bytes)

-- the trace of the first blocks
abbrev pub first_blocks : ℕ → Trace → Trace
first_blocks count trace = record trace { blocks = take count trace.blocks }

-- the trace with one more block
abbrev pub longer_trace : Trace → Block → Trace
longer_trace trace block = record trace { blocks = trace.blocks ++ block ∷ [] }
