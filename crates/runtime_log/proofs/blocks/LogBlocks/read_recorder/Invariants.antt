use Rattle.std.proofs.Common.{◌-◌, ◌≤◌, length}
use Rattle.runtime_log.specs.private.Readings.{BlocksRead}
use Rattle.runtime_log.proofs.blocks.LogBlocks.read_recorder.Given as goal

-- the blocks so far were read
abbrev pub invariant-reading : goal.invariant-reading
invariant-reading l = record {
  within : l.at ≤ length l.bytes;
  reads : BlocksRead l.version l.bytes l.at l.self;
  counts : (l.self.custom ≤ l.at) × (l.self.typed ≤ l.at) × (l.self.cut ≤ l.at);
}

abbrev pub decreases-reading : goal.decreases-reading
decreases-reading l = length l.bytes - l.at
