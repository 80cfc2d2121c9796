-- The blocks of a log, as they are read.
use Rattle.std.specs.Prelude.{◌≡◌, ◌≢◌, ◌⊎◌, ℕ, ◌+◌, List, drop, map, sum, Option, None, Result, Ok, Err}
use Rattle.fdr_file.specs.declared.fault.TraceFault.{TraceFault}
use Rattle.fdr_file.specs.declared.fault.TraceFault.TheVariants.{NoMemory}
use Rattle.runtime_log.specs.declared.blocks.LogBlock.{LogBlock as Placed}
use Rattle.runtime_log.specs.declared.blocks.LogBlocks.{LogBlocks}
use Rattle.runtime_log.specs.declared.fault.LogFault.{LogFault}
use Rattle.runtime_log.specs.declared.stretch.Stretch.{Stretch}
use Rattle.runtime_log.specs.declared.version.LogVersion.{LogVersion}
use Rattle.runtime_log.specs.declared.walk.BlockWalk.{BlockWalk}
use Rattle.fdr_file.specs.Places.{starts}
use Rattle.fdr_file.specs.Traces.{block_length}
use Rattle.runtime_log.specs.declared.fault.LogFault.TheVariants.{Trace}
use Rattle.runtime_log.specs.Logs.{BlockSoFar, LogBlock, as_log, log_block_rows, log_places, recorder_blocks, said_rows}
use Rattle.xray_io.specs.Rows.{InTurn}
use Rattle.runtime_log.specs.private.Choices.{AreAt, Shows}
use Rattle.runtime_log.specs.private.Walks.{IsPastStretch}

-- these are the blocks that a log says, by their places, and how many events of the program's own they have
pub record AreRead (version : LogVersion) (bytes : List ℕ) (said : List LogBlock) (blocks : LogBlocks) : Type 0 where
  pub places : AreAt bytes version blocks.blocks.items said
  pub custom : blocks.custom ≡ sum (map (λ b. b.custom) said)
  pub typed : blocks.typed ≡ sum (map (λ b. b.typed) said)
  pub cut : blocks.cut ≡ sum (map (λ b. b.cut) said)

-- what comes of reading all of them
abbrev pub HasRead : LogVersion → List ℕ → LogBlocks → Result Unit LogFault → Type 0
HasRead version bytes blocks (Ok _) = (said : List LogBlock) × (recorder_blocks version bytes ≡ Ok said) × AreRead version bytes said blocks
HasRead version bytes blocks (Err fault) = (fault ≡ Trace NoMemory) ⊎ (as_log (recorder_blocks version bytes) ≡ Err fault)

-- what the records that are left of a walk say, after what was said before them
abbrev pub walk_reads : BlockWalk → BlockSoFar → Result BlockSoFar TraceFault
walk_reads walk so = InTurn (said_rows walk.version) so (log_places walk.version walk.at walk.rest.now)

-- the records of a block that were left, after the blocks before it
pub record RecordsRead (old new : LogBlocks) (so : BlockSoFar) (placed : Placed) (read : Result BlockSoFar TraceFault) : Type 0 where
  pub all : BlockSoFar
  pub reads : read ≡ Ok all
  pub shows : Shows placed all.block
  pub custom : new.custom + so.custom ≡ old.custom + all.custom
  pub typed : new.typed + so.typed ≡ old.typed + all.typed

-- Some records of a block were read: what the records say is what those that are left say, after those. The walk, the block
-- and the counts stand where these lead to.
pub record ReadsOn (so : BlockSoFar) (old : LogBlocks) (before : Placed) (first : BlockWalk) (new : LogBlocks) (placed : Placed) (walk : BlockWalk) : Type 0 where
  pub now : BlockSoFar
  pub on : walk_reads first so ≡ InTurn (said_rows first.version) now (log_places first.version walk.at walk.rest.now)
  pub stage : walk.stage ≡ now.stage
  pub shows : Shows before so.block → Shows placed now.block
  pub custom : new.custom + so.custom ≡ old.custom + now.custom
  pub typed : new.typed + so.typed ≡ old.typed + now.typed

-- a walk after a stretch, if the first counter of its block is known; or the same walk
abbrev pub MayPass : BlockWalk → Option ℕ → BlockWalk → Type 0
MayPass walk first next = (next ≡ walk) ⊎ ((first ≢ None) × (stretch : Stretch) × IsPastStretch walk stretch next)

-- the blocks up to a place were read
pub record BlocksRead (version : LogVersion) (bytes : List ℕ) (at : ℕ) (blocks : LogBlocks) : Type 0 where
  pub said : List LogBlock
  pub on : recorder_blocks version bytes ≡ InTurn (log_block_rows version) said (starts block_length 0 at (drop at bytes))
  pub places : AreAt bytes version blocks.blocks.items said
  pub custom : blocks.custom ≡ sum (map (λ b. b.custom) said)
  pub typed : blocks.typed ≡ sum (map (λ b. b.typed) said)
  pub cut : blocks.cut ≡ sum (map (λ b. b.cut) said)
