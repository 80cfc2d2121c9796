use Rattle.std.proofs.Common.{ap}
use Rattle.call_trie.specs.declared.table.Step.{Step}
use Rattle.call_trie.specs.private.Paths.{Numbered}
use Rattle.call_trie.proofs.NodeLemmas.{child_is}
use Rattle.call_trie.proofs.nodes.Nodes.child.Goals as goal

pub returns : goal.returns
returns c =
    let step : Step = record { parent = c.args.parent; func = c.args.func } in
    record { child = child_is c.self.inside.table.steps c.args.self.now.paths step c.find.result c.self.invariant.climb (ap (λ (n : Numbered). n.paths) c.self.view_is) c.requires c.find.ensures }
