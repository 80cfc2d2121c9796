use Rattle.trace_forms.proofs.Logs.{log_reads_back}
use Rattle.trace_forms.proofs.LogsFit.{log_fits}
use Rattle.trace_forms.proofs.TracesFit.{trace_fits}
use Rattle.trace_forms.proofs.laws.a_basic_log_reads_back.Goals as goal

pub returns-clause-fits : goal.returns-clause-fits
returns-clause-fits c = log_reads_back

pub returns-clause-read : goal.returns-clause-read
returns-clause-read c bytes trace all is narrow = log_reads_back trace (trace_fits trace (c.what_is_read_fits.ensures.fields bytes trace all is) narrow)

pub returns-clause-log : goal.returns-clause-log
returns-clause-log c bytes trace all is = log_reads_back trace (log_fits bytes trace all is)
