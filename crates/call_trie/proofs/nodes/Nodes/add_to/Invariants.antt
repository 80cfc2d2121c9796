use Rattle.call_trie.proofs.AddedTallies.{Adds}
use Rattle.call_trie.proofs.nodes.Nodes.add_to.Given as goal

abbrev pub invariant-adding : goal.invariant-adding
invariant-adding l = Adds l.fn.sums l.sums l.self.paths l.self.tallies l.numbers.items l.place
