use Rattle.std.proofs.Common.{arith, sym}
use Rattle.flame_graph.proofs.Measures.{shared_is}
use Rattle.flame_graph.proofs.sums.shared.Goals as goal

pub returns-then-path-count : goal.returns-then-path-count
returns-then-path-count c =
    sym (shared_is c.args.path.now c.args.other.now c.same.count (omega arith) (omega arith) c.same.invariant (λ one other same. c.if-path-count.true same))

pub returns : goal.returns
returns c =
    sym (shared_is c.args.path.now c.args.other.now c.min-most.result (omega arith) (omega arith) (λ k few. c.same.invariant k (omega (arith, few)))
    (λ one other same. omega (arith, one, other)))
