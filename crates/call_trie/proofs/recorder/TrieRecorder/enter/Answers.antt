use Rattle.std.proofs.Common.{◌<◌, arith, length}
use Rattle.stack_rebuild.specs.Stacks.{most_open}
use Rattle.call_trie.proofs.RecorderFields.{AreKept, below, entered, entered_deep, entered_full, kept_entered, kept_full}
use Rattle.call_trie.proofs.recorder.TrieRecorder.enter.Goals as goal

pub node_of-requires : goal.node_of-requires
node_of-requires c =
    let a = c.self.inside in
    c.innermost.ensures.within (length a.nodes.paths) c.self.invariant.some (below a.nodes.paths a.frames c.self.invariant.frames)

pub invariant_of-self-in-Some : goal.invariant_of-self-in-Some
invariant_of-self-in-Some c =
    let a = c.self.inside in
    let i = c.self.invariant in
    let own : AreKept a.nodes.paths a.frames = record { frames_within = i.frames; root = i.root; some = i.some } in
    let kept = kept_entered a.nodes c.node_of.new.self a.frames c.begin.new.self _ c.in-Some.node c.args.func c.args.tsc own c.in-Some.ensures c.begin.ensures in
    record { frames = kept.frames_within; root = kept.root; some = kept.some }

pub invariant_of-self-in-None : goal.invariant_of-self-in-None
invariant_of-self-in-None c =
    let a = c.self.inside in
    let i = c.self.invariant in
    let own : AreKept a.nodes.paths a.frames = record { frames_within = i.frames; root = i.root; some = i.some } in
    let kept = kept_full _ a.nodes c.node_of.new.self a.frames own c.in-None.ensures in
    record { frames = kept.frames_within; root = kept.root; some = kept.some }

pub returns-then-len-eq-MOST_OPEN : goal.returns-then-len-eq-MOST_OPEN
returns-then-len-eq-MOST_OPEN c =
    let a = c.self.inside in
    entered_deep c.args.self.now a.state a.nodes a.frames c.args.func c.args.tsc c.self.view_is (omega arith)

pub returns-in-Some : goal.returns-in-Some
returns-in-Some c =
    let a = c.self.inside in
    let few : length a.frames < most_open = omega arith in
    entered c.args.self.now a.state a.nodes c.node_of.new.self a.frames c.begin.new.self c.innermost.result c.in-Some.node c.args.func c.args.tsc
    c.self.view_is few c.self.invariant.frames (c.innermost.ensures.path a.nodes.paths c.self.invariant.root) c.in-Some.ensures c.begin.ensures

pub returns-in-None : goal.returns-in-None
returns-in-None c =
    let a = c.self.inside in
    let few : length a.frames < most_open = omega arith in
    entered_full c.args.self.now a.state a.nodes c.node_of.new.self a.frames c.innermost.result c.args.func c.args.tsc
    c.self.view_is few (c.innermost.ensures.path a.nodes.paths c.self.invariant.root) c.in-None.ensures
