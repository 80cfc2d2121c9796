use Rattle.std.proofs.Common.{◌≡◌, ◌+◌, ◌≤◌, length}
use Rattle.runtime_log.specs.Logs.{BlockSoFar}
use Rattle.runtime_log.specs.private.Readings.{ReadsOn}
use Rattle.runtime_log.proofs.blocks.LogBlocks.read_records.Given as goal

-- the records so far were read
abbrev pub invariant-records : goal.invariant-records
invariant-records l = record {
  end : l.walk.at + length l.walk.rest.now ≡ l.initial.walk.at + length l.initial.walk.rest.now;
  version : l.walk.version ≡ l.initial.walk.version;
  counts : (l.self.custom ≤ l.walk.at) × (l.self.typed ≤ l.walk.at);
  reads : (so : BlockSoFar) → l.initial.walk.stage ≡ so.stage → ReadsOn so l.fn.self l.fn.block l.initial.walk l.self l.block l.walk;
  begin : l.block.begin ≡ l.fn.block.begin;
  others : l.self.blocks ≡ l.fn.self.blocks;
  cut : l.self.cut ≡ l.fn.self.cut;
}

abbrev pub decreases-records : goal.decreases-records
decreases-records l = length l.walk.rest.now
