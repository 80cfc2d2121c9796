use Rattle.std.proofs.Common.{◌-◌, ◌≤◌, length, drop, Ok}
use Rattle.xray_io.specs.Writes.{Sends}
use Rattle.xray_io.proofs.whole.write_all.Given as goal

abbrev pub invariant-writing : goal.invariant-writing
invariant-writing g l = record {
  within : l.done ≤ length l.bytes;
  sends : Sends g.S.Sink.written g.S.Sink.faults g.S.Sink.along l.fn.sink l.sink l.bytes (drop l.done l.bytes) (Ok tt);
}

abbrev pub decreases-writing : goal.decreases-writing
decreases-writing g l = length l.bytes - l.done
