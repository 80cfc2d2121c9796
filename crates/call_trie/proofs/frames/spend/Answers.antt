use Rattle.std.proofs.Common.{◌+◌, ℕ, ap, refl}
use Rattle.std.proofs.Math.Seq.{map-set_same}
use Rattle.call_trie.specs.declared.frames.Frame.{Frame}
use Rattle.call_trie.specs.private.Frames.{node_in}
use Rattle.call_trie.proofs.FrameLemmas.{spent_last}
use Rattle.call_trie.proofs.frames.spend.Goals as goal

pub returns-in-Some-clause-spent : goal.returns-in-Some-clause-spent
returns-in-Some-clause-spent c = λ paths.
    let at = c.in-Some.frame.now in
    spent_last paths c.args.frames.now.items c.args.frames.now.len c.args.duration at
    (record { node = at.node; func = at.func; tsc = at.tsc; spent = at.spent + c.from.result }) c.args.frames.now.ok.0
    (c.in-Some.ensures.variant.0 refl) c.in-Some.ensures.value
    (ap {B = Frame} (λ (n : ℕ). record { node = at.node; func = at.func; tsc = at.tsc; spent = at.spent + n }) c.from.ensures)

pub returns-in-Some-clause-nodes : goal.returns-in-Some-clause-nodes
returns-in-Some-clause-nodes c = map-set_same node_in _ _ _ c.in-Some.frame.now (ap node_in c.in-Some.ensures.value)
