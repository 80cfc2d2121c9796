use Rattle.std.proofs.Common.{◌≡◌, ◌*◌, ◌^◌, ◌≤◌, List, [], take}
use Rattle.std.specs.Prelude.{◌≢◌, All}
use Rattle.fdr_buffer.specs.declared.buffer.TheConstants.{LARGEST_SIZE}
use Rattle.runtime_log.specs.Logs.{Log, LogBlock}
use Rattle.runtime_log.specs.private.Choices.{AreAt}
use Rattle.runtime_log.specs.private.Notes.{AreFew}
use Rattle.runtime_log.specs.private.Packings.{HasPacked}
use Rattle.runtime_log.proofs.ImportedBlocks.{blocks_of}
use Rattle.runtime_log.proofs.import.pack_blocks.Given as goal

-- the blocks so far were packed
abbrev pub invariant-adding : goal.invariant-adding
invariant-adding l = record {
  few : AreFew l.packing.notes.facts;
  size : l.packing.buffer.size ≡ LARGEST_SIZE;
  room : l.packing.notes.facts.events ≤ l.block-index * 2 ^ 31;
  count : l.packing.notes.facts.blocks ≡ l.block-index;
  packed : (log : Log) (taken : List LogBlock) → HasPacked log [] l.initial.packing
      → AreAt l.bytes l.version l.blocks taken → All (λ b. b.block.events ≢ []) taken → HasPacked log (blocks_of (take l.block-index taken)) l.packing;
}
