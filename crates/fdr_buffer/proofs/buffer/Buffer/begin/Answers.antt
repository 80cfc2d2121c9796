use Rattle.std.proofs.Common.{length, ap, arith}
use Rattle.fdr_buffer.proofs.BufferFields.{begin_leaves}
use Rattle.fdr_buffer.proofs.buffer.Buffer.begin.Goals as goal

pub invariant_of-self : goal.invariant_of-self
invariant_of-self c =
    let put = c.put_preamble-self-inside in
    (begin_leaves c.self.inside c.args.self.now put.new.bytes put.result c.args.thread c.args.serial c.args.wall c.args.pid c.self.view_is c.self.invariant
    (omega (arith, c.ranges.thread), put.ensures.secs, put.ensures.micros, omega (arith, c.ranges.pid))
    (omega (arith, put.auto.bytes, ap length c.deref_mut.ensures.value))
    put.ensures.bytes put.ensures.next).0

pub returns-clause-begun : goal.returns-clause-begun
returns-clause-begun c =
    let put = c.put_preamble-self-inside in
    (begin_leaves c.self.inside c.args.self.now put.new.bytes put.result c.args.thread c.args.serial c.args.wall c.args.pid c.self.view_is c.self.invariant
    (omega (arith, c.ranges.thread), put.ensures.secs, put.ensures.micros, omega (arith, c.ranges.pid))
    (omega (arith, put.auto.bytes, ap length c.deref_mut.ensures.value))
    put.ensures.bytes put.ensures.next).1
