use Rattle.std.proofs.Common.{◌≡◌, ◌+◌, ◌-◌, ◌^◌, ◌≤◌, length, drop}
use Rattle.runtime_log.specs.Logs.{cut_after, cut_length, log_places}
use Rattle.runtime_log.proofs.walk.cut_len.Given as goal

-- none of the records so far is cut
abbrev pub invariant-records : goal.invariant-records
invariant-records l = record {
  is : cut_length l.version l.content ≡ cut_after l.version (length l.content) l.typed (log_places l.version l.at (drop l.at l.content));
  typed : l.typed ≤ l.at;
  few : l.at ≤ length l.content + 2 ^ 33;
}

abbrev pub decreases-records : goal.decreases-records
decreases-records l = length l.content - l.at
