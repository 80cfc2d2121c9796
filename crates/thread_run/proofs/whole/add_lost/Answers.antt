use Rattle.std.proofs.Common.{◌∙◌, arith}
use Rattle.thread_run.proofs.RunLemmas.{lost_more}
use Rattle.thread_run.proofs.whole.add_lost.Goals as goal

pub push_reserved-requires : goal.push_reserved-requires
push_reserved-requires c =
    let kept = c.loop-segments.invariant in
    omega (arith, kept.len, kept.capacity, c.requires.room, c.loop-segments-test.true)

pub loop-segments-preserved : goal.loop-segments-preserved
loop-segments-preserved c =
    let kept = c.loop-segments.invariant in
    record {
      thread = omega (arith, kept.thread);
      lost = lost_more c.args.buffers.now c.args.lost.now.items c.loop-segments.lost.items c.push_reserved.new.self.items c.args.segments.now
          c.loop-segments.segments-index c.loop-segments.thread c.lost_of.result c.loop-segments-test.true kept.thread kept.lost c.push_reserved.ensures.items c.lost_of.ensures;
      len = omega (arith, kept.len, c.push_reserved.ensures.len);
      capacity = c.push_reserved.ensures.capacity ∙ kept.capacity;
    }
