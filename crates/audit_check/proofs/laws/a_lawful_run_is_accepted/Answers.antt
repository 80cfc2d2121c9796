use Rattle.std.proofs.Common.{refl}
use Rattle.audit_check.proofs.LawfulRuns.{accepted, stated}
use Rattle.audit_check.proofs.laws.a_lawful_run_is_accepted.Goals as goal

pub returns-clause-read : goal.returns-clause-read
returns-clause-read c = λ program script setup runs setup_is is_run follow lost. (
  stated program script setup runs is_run follow lost setup_is (λ thread passed end last run. c.passings_are_limited.ensures program setup.limits thread passed end last run),
  refl,
)

pub returns-clause-yes : goal.returns-clause-yes
returns-clause-yes c = λ program script setup runs is_run follow lost. accepted program script setup runs is_run follow lost
