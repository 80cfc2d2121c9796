use Rattle.std.proofs.Common.{◌-◌, ◌≤◌, length, take}
use Rattle.std.specs.Prelude.{All}
use Rattle.runtime_log.specs.private.Passings.{IsOfRun}
use Rattle.runtime_log.proofs.threads.run_len.Given as goal

-- those so far are of the run
abbrev pub invariant-run : goal.invariant-run
invariant-run l = record {
  within : l.count ≤ length l.passings;
  same : All (IsOfRun l.first) (take l.count l.passings);
}

abbrev pub decreases-run : goal.decreases-run
decreases-run l = length l.passings - l.count
