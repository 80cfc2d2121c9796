-- the bytes so far were fed
use Rattle.std.proofs.Common.{◌-◌, ◌≤◌, length, take}
use Rattle.fdr_file.specs.Scanning.{blocks_given}
use Rattle.fdr_file.specs.Streams.{Scans}
use Rattle.layer_tests.proofs.fed_traces.feed_pieces.Given as goal

abbrev pub invariant-feeding : goal.invariant-feeding
invariant-feeding g l = record {
  within : l.from ≤ length l.bytes;
  scans : Scans l.scan (take l.from l.bytes);
  took : g.K.Taker.took l.taker (blocks_given (take l.from l.bytes));
}

abbrev pub decreases-feeding : goal.decreases-feeding
decreases-feeding g l = length l.bytes - l.from
