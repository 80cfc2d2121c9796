use Rattle.std.proofs.Common.{◌≡◌, length}
use Rattle.sled_rule.specs.Seats.{script_of}
use Rattle.thread_run.specs.private.Starting.{AreFreshThreads}
use Rattle.thread_run.proofs.recorded.new_cpus.Given as goal

abbrev pub invariant-loop-number : goal.invariant-loop-number
invariant-loop-number l = record {
  count : length l.cpus.items ≡ l.number;
  fresh : AreFreshThreads (script_of l.table) l.limits l.cpus.items;
}
