use Rattle.std.proofs.Common.{◌≤◌, ◌*◌}
use Rattle.audit_check.specs.private.Judging.{SameButGuesses}
use Rattle.audit_check.proofs.AllSearches.{HasCounted}
use Rattle.audit_check.proofs.follower.Follower.find_all.Given as goal

-- the first searches have found loads, and the others go on
abbrev pub invariant-loop-i : goal.invariant-loop-i
invariant-loop-i l = record {
  same : SameButGuesses l.fn.self l.self;
  few : l.found.loads ≤ 4 * l.i;
  counted : HasCounted l.fn.self l.sought l.sled l.from l.bound l.i l.found.place l.found.loads;
}
