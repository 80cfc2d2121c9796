use Rattle.fdr_file.proofs.GrammarIsRead.{one_trace, trace_again}
use Rattle.fdr_file.proofs.laws.a_trace_is_read.Goals as goal

pub returns-clause-read : goal.returns-clause-read
returns-clause-read c = trace_again

pub returns-clause-one : goal.returns-clause-one
returns-clause-one c = one_trace
