use Rattle.std.proofs.Common.{◌≡◌, ◌++◌, ℕ, [], ◌∷◌, ap, arith, length, length-append}
use Rattle.call_trie.specs.declared.table.Step.{Step}
use Rattle.call_trie.specs.private.Chains.{Steps}
use Rattle.call_trie.specs.private.Paths.{Numbered}
use Rattle.call_trie.proofs.NodeLemmas.{climb_added}
use Rattle.call_trie.proofs.nodes.Nodes.add.Goals as goal

pub invariant_of-self : goal.invariant_of-self
invariant_of-self c =
    let a = c.self.inside in
    let step : Step = record { parent = c.args.parent; func = c.args.func } in
    let more : c.add.new.self.steps ≡ a.table.steps ++ step ∷ [] = ap (λ (s : Steps). s.steps) c.add.ensures.added in
    record {
      climb = climb_added a.table.steps c.add.new.self.steps c.args.self.now.paths step c.self.invariant.climb (ap (λ (n : Numbered). n.paths) c.self.view_is)
          c.requires.parent c.requires.absent more;
      level = omega (arith, ap {B = ℕ} length more, length-append a.table.steps (step ∷ []), c.self.invariant.level, ap {B = ℕ} length c.push_reserved.ensures.items, length-append a.tallies.items (c.none.result ∷ []));
      fit = omega (arith, c.self.invariant.fit, c.push_reserved.ensures.capacity, ap {B = ℕ} (λ (s : Steps). s.room) c.add.ensures.added);
    }
