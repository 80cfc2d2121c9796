use Rattle.fdr_file.proofs.WrittenIsGrammar.{file_is_trace}
use Rattle.fdr_file.proofs.GrammarIsRead.{trace_again}
use Rattle.fdr_file.specs.Files.{file_bytes, trace_told}
use Rattle.fdr_file.proofs.laws.a_file_reads_back.Goals as goal

pub returns-clause-trace : goal.returns-clause-trace
returns-clause-trace c = file_is_trace

pub returns-clause-read : goal.returns-clause-read
returns-clause-read c header buffers header_fits fit = trace_again (file_bytes header buffers) (trace_told header buffers) (file_is_trace header buffers header_fits fit)
