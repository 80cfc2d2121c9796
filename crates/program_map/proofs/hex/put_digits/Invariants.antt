use Rattle.std.proofs.Common.{◌≡◌, ◌^◌, ◌<◌, ◌≤◌, true, length, drop}
use Rattle.std.specs.Fmt.{digits}
use Rattle.program_map.proofs.HexDigits.{digits_left}
use Rattle.program_map.proofs.hex.put_digits.Given as goal

abbrev pub invariant-more : goal.invariant-more
invariant-more l = record {
  size : length l.buffer ≡ 16;
  within : l.start ≤ 16;
  some : 0 < l.start;
  short : l.rest < 16 ^ l.start;
  left : digits_left l.start l.rest (drop l.start l.buffer) ≡ digits 16 true l.n;
}

abbrev pub decreases-more : goal.decreases-more
decreases-more l = l.start
