use Rattle.std.proofs.Common.{◌-◌, ◌≤◌, length, take}
use Rattle.fdr_file.specs.Streams.{Scans}
use Rattle.layer_tests.proofs.damaged_traces.read_in_pieces.Given as goal

-- the scan was fed the bytes so far
abbrev pub invariant-feeding : goal.invariant-feeding
invariant-feeding l = record {
  within : l.from ≤ length l.bytes;
  scans : Scans l.scan (take l.from l.bytes);
}

abbrev pub decreases-feeding : goal.decreases-feeding
decreases-feeding l = length l.bytes - l.from
