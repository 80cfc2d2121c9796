use Rattle.fdr_file.proofs.ReadIsGrammar.{trace_described}
use Rattle.fdr_file.proofs.laws.what_is_read_is_a_trace.Goals as goal

pub returns : goal.returns
returns c = trace_described c.one_answer.ensures.some
