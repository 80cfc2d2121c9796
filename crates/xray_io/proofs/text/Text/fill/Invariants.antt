use Rattle.std.proofs.Common.{◌-◌, ◌≤◌, replicate, Ok}
use Rattle.xray_io.specs.Text.{AddsText}
use Rattle.xray_io.proofs.text.Text.fill.Given as goal

abbrev pub invariant-filling : goal.invariant-filling
invariant-filling g l = record {
  within : l.left ≤ l.fn.count;
  adds : AddsText g.S.Sink.written g.S.Sink.faults g.S.Sink.along l.fn.self l.self (replicate (l.fn.count - l.left) l.fn.byte) (Ok tt);
}

abbrev pub decreases-filling : goal.decreases-filling
decreases-filling g l = l.left
