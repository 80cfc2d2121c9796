use Rattle.trace_flush.proofs.TellsAll.{audit_tells_recycled, audit_tells_setup, audit_tells_threads}
use Rattle.trace_flush.proofs.laws.audit_tells_its_run.Goals as goal

pub returns-clause-threads : goal.returns-clause-threads
returns-clause-threads c = audit_tells_threads

pub returns-clause-recycled : goal.returns-clause-recycled
returns-clause-recycled c = audit_tells_recycled

pub returns-clause-setup : goal.returns-clause-setup
returns-clause-setup c = audit_tells_setup
