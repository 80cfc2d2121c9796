use Rattle.std.proofs.Common.{ap, arith, refl}
use Rattle.call_trie.specs.private.Paths.{Numbered}
use Rattle.call_trie.proofs.RecorderFields.{AreKept, frames_roomy, kept_left, left_ended, node_roomy, node_within}
use Rattle.call_trie.proofs.recorder.TrieRecorder.leave.Goals as goal

pub spend-requires : goal.spend-requires
spend-requires c =
    let a = c.self.inside in
    let p = c.in-Some.ensures.place in
    frames_roomy c.args.self.now a.state a.nodes a.frames c.end.new.self p.0 c.self.view_is c.requires p.2

pub add_pair-requires-clause-number : goal.add_pair-requires-clause-number
add_pair-requires-clause-number c =
    let a = c.self.inside in
    let p = c.in-Some.ensures.place in
    node_within a.nodes.paths a.frames p.0 c.in-Some.ended c.self.invariant.frames p.1 (p.3 c.in-Some.ended)

pub add_pair-requires-clause-roomy : goal.add_pair-requires-clause-roomy
add_pair-requires-clause-roomy c =
    let a = c.self.inside in
    node_roomy c.args.self.now a.state a.nodes a.frames _ c.self.view_is c.requires

pub invariant_of-self : goal.invariant_of-self
invariant_of-self c =
    let a = c.self.inside in
    let i = c.self.invariant in
    let p = c.in-Some.ensures.place in
    let own : AreKept a.nodes.paths a.frames = record { frames_within = i.frames; root = i.root; some = i.some } in
    let kept = kept_left a.nodes c.add_pair.new.self a.frames c.end.new.self c.spend.new.self p.0 own p.2 c.spend.ensures.nodes (ap (λ (n : Numbered). n.paths) c.add_pair.ensures) in
    record { frames = kept.frames_within; root = kept.root; some = kept.some }

pub returns-in-Some : goal.returns-in-Some
returns-in-Some c =
    let a = c.self.inside in
    let p = c.in-Some.ensures.place in
    left_ended c.args.self.now a.state a.nodes c.add_pair.new.self a.frames c.end.new.self c.spend.new.self c.in-Some.ended c.args.func c.args.tsc _ c.saturating_sub-own.result
    c.self.view_is (node_within a.nodes.paths a.frames p.0 c.in-Some.ended c.self.invariant.frames p.1 (p.3 c.in-Some.ended))
    (c.in-Some.ensures.ended a.nodes.paths) refl (omega (arith, c.saturating_sub-own.ensures, c.from.ensures))
    (c.spend.ensures.spent a.nodes.paths) c.add_pair.ensures
