use Rattle.std.proofs.Common.{take, ◌≤◌}
use Rattle.program_map.specs.private.Counts.{IsCounted}
use Rattle.program_map.proofs.numbering.by_function.Given as goal

abbrev pub invariant-loop-sled : goal.invariant-loop-sled
invariant-loop-sled l = (l.counting.functions ≤ l.sled-index) × IsCounted (take l.sled-index l.sleds) l.counting
