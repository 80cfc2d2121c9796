use Rattle.trace_flush.proofs.ShortTraces.{short_trace}
use Rattle.trace_flush.proofs.laws.a_trace_is_short.Goals as goal

pub returns : goal.returns
returns c = short_trace c.a_run_fits_its_buffers.ensures c.a_run_leaves_few_buffers.ensures.few c.a_run_leaves_few_buffers.ensures.sizes
