use Rattle.traced_run.proofs.FewBuffers.{few_kept, kept_sizes}
use Rattle.traced_run.proofs.laws.a_run_leaves_few_buffers.Goals as goal

pub returns-clause-few : goal.returns-clause-few
returns-clause-few c = few_kept

pub returns-clause-sizes : goal.returns-clause-sizes
returns-clause-sizes c = kept_sizes
