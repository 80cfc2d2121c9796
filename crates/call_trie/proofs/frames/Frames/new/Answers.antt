use Rattle.std.proofs.Common.{ℕ, List, ap, arith, length, refl, rules, subst, sym}
use Rattle.call_trie.specs.declared.frames.Frame.{Frame}
use Rattle.call_trie.specs.private.Frames.{AreCounts}
use Rattle.call_trie.proofs.FrameLemmas.{counts_none}
use Rattle.call_trie.proofs.frames.Frames.new.Goals as goal

pub invariant_of-result : goal.invariant_of-result
invariant_of-result c = record {
  counted = subst (λ (fs : List Frame). AreCounts fs c.in_ok-counts.counts.items) (sym c.in_ok-frames.ensures.items) (counts_none c.in_ok-counts.counts.items 8192 refl (search rules));
  few = omega (arith, ap {B = ℕ} length c.in_ok-frames.ensures.items);
  fit = omega (arith, c.in_ok-frames.ensures.exact);
}
