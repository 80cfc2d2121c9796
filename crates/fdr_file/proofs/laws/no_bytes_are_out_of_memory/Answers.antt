use Rattle.fdr_file.proofs.PartFaults.{never_memory}
use Rattle.fdr_file.proofs.laws.no_bytes_are_out_of_memory.Goals as goal

pub returns : goal.returns
returns c = never_memory
