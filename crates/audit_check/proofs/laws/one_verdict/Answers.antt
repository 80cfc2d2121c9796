use Rattle.audit_check.proofs.OneVerdict.{judged_same}
use Rattle.audit_check.proofs.laws.one_verdict.Goals as goal

pub returns : goal.returns
returns c = λ bytes program script statement trace verdict other accepted a b.
    judged_same program (λ limits thread passed passed' end end' last last'.
    c.one_end.ensures bytes program limits thread passed passed' end end' last last' accepted) script statement trace verdict other a b
