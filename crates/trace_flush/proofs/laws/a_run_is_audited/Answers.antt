use Rattle.trace_flush.proofs.AuditOfRun.{run_is_audited, run_recycles}
use Rattle.trace_flush.proofs.laws.a_run_is_audited.Goals as goal

pub returns-clause-threads : goal.returns-clause-threads
returns-clause-threads c = run_is_audited

pub returns-clause-recycled : goal.returns-clause-recycled
returns-clause-recycled c = run_recycles
