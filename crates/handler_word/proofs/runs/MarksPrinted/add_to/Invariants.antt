use Rattle.std.proofs.Common.{◌≤◌, ◌-◌, length}
use Rattle.handler_word.proofs.MarkRuns.{HasRunsTo}
use Rattle.handler_word.proofs.runs.MarksPrinted.add_to.Given as goal

abbrev pub invariant-runs : goal.invariant-runs
invariant-runs g l = record {
  within : l.end ≤ length l.fn.self.items;
  has : HasRunsTo g.S.Sink.written g.S.Sink.faults g.S.Sink.along l.fn.to l.to l.fn.self.items l.end;
}

abbrev pub decreases-runs : goal.decreases-runs
decreases-runs g l = length l.fn.self.items - l.end
