use Rattle.std.proofs.Common.{◌∙◌, ℕ, ap, arith, length, sym}
use Rattle.std.proofs.lemmas.List.{length-map}
use Rattle.call_trie.specs.private.Frames.{node_in}
use Rattle.call_trie.proofs.frames.Frames.spend.Goals as goal

pub invariant_of-self : goal.invariant_of-self
invariant_of-self c =
    let i = c.self.invariant in
    let new = c.spend.new.frames.items in
    let old = c.self.inside.frames.items in
    record {
      counted = record { size = i.counted.size; each = λ b low. i.counted.each b low ∙ sym (c.spend.ensures.like b) };
      few = omega (arith, ap {B = ℕ} length c.spend.ensures.nodes, length-map new node_in, length-map old node_in, i.few);
      fit = omega (arith, c.spend.ensures.capacity, i.fit);
    }
