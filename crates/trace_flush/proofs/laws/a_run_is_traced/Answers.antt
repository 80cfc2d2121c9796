use Rattle.trace_flush.proofs.TraceOfRun.{run_is_traced}
use Rattle.trace_flush.proofs.laws.a_run_is_traced.Goals as goal

pub returns : goal.returns
returns c = run_is_traced c.a_file_reads_back.ensures.trace c.a_run_fits_its_buffers.ensures c.a_run_without_losses_is_whole.ensures.thread
