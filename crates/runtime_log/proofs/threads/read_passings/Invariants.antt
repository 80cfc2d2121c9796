use Rattle.std.proofs.Common.{◌-◌, ◌≤◌, length}
use Rattle.runtime_log.specs.private.Passings.{PassingsRead}
use Rattle.runtime_log.proofs.threads.read_passings.Given as goal

-- the records so far were read
abbrev pub invariant-records : goal.invariant-records
invariant-records l = record {
  within : l.at ≤ length l.bytes;
  few : l.lost ≤ l.at;
  reads : PassingsRead l.version l.bytes l.at l.before l.lost l.passings.items;
}

abbrev pub decreases-records : goal.decreases-records
decreases-records l = length l.bytes - l.at
