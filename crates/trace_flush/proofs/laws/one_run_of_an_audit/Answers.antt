use Rattle.trace_flush.proofs.TellsRuns.{one_run}
use Rattle.trace_flush.proofs.laws.one_run_of_an_audit.Goals as goal

pub returns : goal.returns
returns c = one_run c.one_end.ensures
