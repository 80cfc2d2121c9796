use Rattle.std.proofs.Common.{◌≡◌, ◌<◌, ℕ, get_or}
use Rattle.flame_graph.proofs.sums.shared.Given as goal

abbrev pub invariant-same : goal.invariant-same
invariant-same l = (k : ℕ) → k < l.count → get_or l.path k 0 ≡ get_or l.other k 0
