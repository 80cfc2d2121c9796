use Rattle.fdr_file.proofs.TracePrefixes.{trace_longer}
use Rattle.fdr_file.proofs.laws.a_block_may_follow.Goals as goal

pub returns : goal.returns
returns c = trace_longer
