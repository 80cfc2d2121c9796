use Rattle.std.proofs.Common.{ℕ, List, ◌++◌, ◌-◌, ◌≤◌, length, take}
use Rattle.fdr_file.specs.Scanning.{blocks_given}
use Rattle.fdr_file.specs.Streams.{Scans}
use Rattle.fdr_file.proofs.scan.TraceScan.feed.Given as goal

-- the bytes so far are a part of the stream
abbrev pub invariant-feeding : goal.invariant-feeding
invariant-feeding g l = record {
  within : l.from ≤ length l.piece;
  stands : (stream : List ℕ) → Scans l.fn.self stream → g.K.Taker.took l.fn.taker (blocks_given stream)
      → Scans l.self (stream ++ take l.from l.piece) × g.K.Taker.took l.taker (blocks_given (stream ++ take l.from l.piece));
  later : g.K.Taker.refusals l.fn.taker ≤ g.K.Taker.refusals l.taker;
}

abbrev pub decreases-feeding : goal.decreases-feeding
decreases-feeding g l = length l.piece - l.from
