use Rattle.std.proofs.Common.{length}
use Rattle.call_trie.specs.private.Chains.{Walks}
use Rattle.call_trie.proofs.table.number_in.Given as goal

abbrev pub invariant-walking : goal.invariant-walking
invariant-walking l = Walks (length l.latest) l.steps l.step l.number

abbrev pub decreases-walking : goal.decreases-walking
decreases-walking l = l.number
