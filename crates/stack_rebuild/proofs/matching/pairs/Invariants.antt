use Rattle.std.proofs.Common.{◌≡◌, reverse, take}
use Rattle.stack_rebuild.specs.Calls.{pairs_in, standing_after}
use Rattle.stack_rebuild.proofs.matching.pairs.Given as goal

abbrev pub invariant-taking : goal.invariant-taking
invariant-taking l = record {
  stands : l.thread ≡ standing_after (reverse (take l.event-index l.events));
  pairs : l.pairs.items ≡ pairs_in (reverse (take l.event-index l.events));
}
