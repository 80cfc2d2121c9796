use Rattle.function_names.proofs.ReadNames.{csv_reads_back}
use Rattle.function_names.proofs.laws.csv_reads_names_back.Goals as goal

pub returns : goal.returns
returns c = csv_reads_back
