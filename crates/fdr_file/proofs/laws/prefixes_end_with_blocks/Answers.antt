use Rattle.fdr_file.proofs.TracePrefixes.{prefix_is_trace, prefix_within, trace_prefix}
use Rattle.fdr_file.proofs.laws.prefixes_end_with_blocks.Goals as goal

pub returns-clause-within : goal.returns-clause-within
returns-clause-within c = prefix_within

pub returns-clause-trace : goal.returns-clause-trace
returns-clause-trace c = prefix_is_trace

pub returns-clause-only : goal.returns-clause-only
returns-clause-only c = trace_prefix
