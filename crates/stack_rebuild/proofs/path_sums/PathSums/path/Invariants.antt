use Rattle.std.proofs.Common.{◌≡◌, ◌++◌, ◌<◌, reverse, length}
use Rattle.stack_rebuild.specs.PathSums.{path_at}
use Rattle.stack_rebuild.proofs.path_sums.PathSums.path.Given as goal

abbrev pub invariant-climbing : goal.invariant-climbing
invariant-climbing l = record {
  within : l.number < length l.self.paths;
  rest : path_at l.self.paths l.number ++ reverse l.path.items ≡ path_at l.self.paths l.number-2;
}

abbrev pub decreases-climbing : goal.decreases-climbing
decreases-climbing l = l.number
