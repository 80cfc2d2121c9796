use Rattle.std.proofs.Common.{ℕ, List, [], ◌∷◌, ap, arith, length, length-append, refl, subst, sym}
use Rattle.call_trie.specs.declared.frames.Frame.{Frame}
use Rattle.call_trie.specs.private.Frames.{AreCounts}
use Rattle.call_trie.proofs.frames.Frames.begin.Goals as goal

pub invariant_of-self : goal.invariant_of-self
invariant_of-self c =
    let a = c.self.inside in
    let i = c.self.invariant in
    let more = c.push_reserved.ensures in
    record {
      counted = subst (λ (fs : List Frame). AreCounts fs c.count_up.new.counts.items) (sym more.items) (c.count_up.ensures a.frames.items c.args.frame i.counted refl);
      few = omega (arith, ap {B = ℕ} length more.items, length-append a.frames.items (c.args.frame ∷ []), c.requires, ap {B = ℕ} length c.self.view_is);
      fit = omega (arith, more.capacity, i.fit);
    }
