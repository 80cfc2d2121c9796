use Rattle.std.proofs.Common.{[], arith}
use Rattle.call_trie.specs.declared.frames.Frame.{Frame}
use Rattle.call_trie.proofs.FrameLemmas.{cut_fewer, ended_by, left_all, left_fewer}
use Rattle.call_trie.proofs.frames.Frames.end.Goals as goal

pub ending-init : goal.ending-init
ending-init c =
    let none : Frame = record { node = 0; func = 0; tsc = 0; spent = 0 } in
    left_all c.args.self.now c.in_ok-place.place (c.in_ok-place.ensures [] none).0

pub ending-preserved : goal.ending-preserved
ending-preserved c =
    left_fewer c.args.self.now c.ending.self c.end_innermost.new.self c.end_innermost.result c.in_ok-place.place c.ending.invariant (omega arith) c.end_innermost.ensures

pub ending-smaller : goal.ending-smaller
ending-smaller c = cut_fewer c.ending.self c.end_innermost.new.self c.end_innermost.result (omega arith) c.end_innermost.ensures

pub returns : goal.returns
returns c =
    let ended = ended_by c.args.func c.in_ok-place.place c.args.self.now c.ending.self c.end_innermost-2.new.self c.end_innermost-2.result
    c.in_ok-place.ensures c.ending.invariant (omega arith) c.end_innermost-2.ensures in
    record { ended = ended.ended; place = ended.place }
