use Rattle.function_names.proofs.ReadNames.{yaml_reads_back}
use Rattle.function_names.proofs.laws.yaml_reads_names_back.Goals as goal

pub returns : goal.returns
returns c = yaml_reads_back
