use Rattle.std.proofs.Common.{[]}
use Rattle.run_order.proofs.OneAnswer.{ordered_same, some_answer}
use Rattle.run_order.proofs.laws.one_order_of_an_audit.Goals as goal

pub returns-clause-one : goal.returns-clause-one
returns-clause-one c bytes program script statement answer other accepted a b =
    ordered_same program (λ limits thread passed passed' end end' last last'.
    c.one_end.ensures bytes program limits thread passed passed' end end' last last' accepted) script statement answer other a b

pub returns-clause-some : goal.returns-clause-some
returns-clause-some c bytes program script statement accepted may =
    let judged = c.some_verdict.ensures bytes program script statement [] accepted may in
    some_answer (λ p n s thread passing. c.awaits_bound_passings.ensures.within p n s thread passing) program script statement judged.0 may.names judged.1
