use Rattle.std.proofs.Common.{ℕ, List, ◌+◌, ◌++◌, ◌-◌, ◌≤◌, length, take}
use Rattle.fdr_file.specs.Scanning.{blocks_given}
use Rattle.fdr_file.specs.Streams.{Scans}
use Rattle.fdr_file.specs.private.Scan.{among_events}
use Rattle.fdr_file.proofs.scan.TraceScan.pass_events.Given as goal

-- the bytes so far are a part of the stream, if the stage and the place are those after them
abbrev pub invariant-events : goal.invariant-events
invariant-events g l = record {
  within : l.from ≤ length l.bytes;
  stands : (stream : List ℕ) → Scans l.fn.self stream → g.K.Taker.took l.fn.taker (blocks_given stream)
      → Scans (among_events l.fn.self l.span (l.fn.self.at + l.from) l.base) (stream ++ take l.from l.bytes) × g.K.Taker.took l.taker (blocks_given (stream ++ take l.from l.bytes));
  later : g.K.Taker.refusals l.fn.taker ≤ g.K.Taker.refusals l.taker;
}

abbrev pub decreases-events : goal.decreases-events
decreases-events g l = length l.bytes - l.from
