use Rattle.std.proofs.Common.{◌≡◌, ◌+◌, length}
use Rattle.runtime_log.specs.private.Walks.{walk_events}
use Rattle.runtime_log.proofs.blocks.next_told.Given as goal

-- no event has come so far
abbrev pub invariant-records : goal.invariant-records
invariant-records l = record {
  left : walk_events l.fn.walk ≡ walk_events l.walk;
  end : l.walk.at + length l.walk.rest.now ≡ l.fn.walk.at + length l.fn.walk.rest.now;
}

abbrev pub decreases-records : goal.decreases-records
decreases-records l = length l.walk.rest.now
