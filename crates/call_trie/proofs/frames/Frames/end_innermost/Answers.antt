use Rattle.std.proofs.Common.{◌≡◌, ◌++◌, ℕ, List, [], ◌∷◌, ap, arith, length, length-append, refl, subst}
use Rattle.call_trie.specs.declared.frames.Frame.{Frame}
use Rattle.call_trie.specs.private.Frames.{AreCounts}
use Rattle.call_trie.proofs.frames.Frames.end_innermost.Goals as goal

pub invariant_of-self-2 : goal.invariant_of-self-2
invariant_of-self-2 c =
    let i = c.self.invariant in
    let frame = c.in_ok-frame.frame in
    let left = c.pop.new.self.items in
    let were : c.self.inside.frames.items ≡ left ++ frame ∷ [] = c.in_ok-frame.ensures.items in
    record {
      counted = c.count_down.ensures left frame refl (subst (λ (fs : List Frame). AreCounts fs c.self.inside.counts.items) were i.counted);
      few = omega (arith, ap {B = ℕ} length were, length-append left (frame ∷ []), i.few);
      fit = omega (arith, c.in_ok-frame.ensures.capacity, i.fit);
    }
