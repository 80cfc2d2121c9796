use Rattle.runtime_log.proofs.TraceIsLog.{trace_is_log}
use Rattle.runtime_log.proofs.laws.traces_are_logs.Goals as goal

pub returns : goal.returns
returns c = trace_is_log c.a_file_is_read_by_records.ensures.ends
