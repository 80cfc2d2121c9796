use Rattle.std.proofs.Common.{◌≡◌, ◌≤◌, ◌*◌, ◌-◌, length}
use Rattle.std.specs.Prelude.{min}
use Rattle.runtime_log.specs.private.Stretches.{AreStretch, last_counter}
use Rattle.runtime_log.proofs.stretch.longest_stretch.Given as goal

-- so many records were gone past
abbrev pub invariant-records : goal.invariant-records
invariant-records l = record {
  are : AreStretch l.count l.tsc l.bytes;
  counter : l.counter ≡ last_counter l.count l.tsc l.bytes;
  within : l.count * 8 ≤ l.end;
  end : l.end ≡ min (length l.bytes) l.most;
}

abbrev pub decreases-records : goal.decreases-records
decreases-records l = l.end - l.count * 8
