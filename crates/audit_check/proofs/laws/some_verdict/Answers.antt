use Rattle.audit_check.proofs.SomeVerdict.{some_verdict}
use Rattle.audit_check.proofs.laws.some_verdict.Goals as goal

pub returns : goal.returns
returns c = λ bytes program script statement trace accepted may.
    some_verdict program (λ thread s. c.some_end.ensures bytes program s.setup.limits thread accepted) script statement trace may.names
