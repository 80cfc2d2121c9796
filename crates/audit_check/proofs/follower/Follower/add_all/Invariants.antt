use Rattle.audit_check.specs.private.Judging.{SameButGuesses}
use Rattle.audit_check.proofs.AllSearches.{HasAdded}
use Rattle.audit_check.proofs.follower.Follower.add_all.Given as goal

-- the loads of the first searches were added, and the others go on
abbrev pub invariant-loop-i : goal.invariant-loop-i
invariant-loop-i l = record {
  same : SameButGuesses l.fn.self l.self;
  added : HasAdded l.fn.self l.sought l.sled l.from l.bound l.i l.place l.fn.loads l.loads;
}
