use Rattle.account_report.proofs.RowsOverStacks.{all_summed}
use Rattle.account_report.proofs.laws.a_row_sums_the_stacks_of_its_function.Goals as goal

pub returns : goal.returns
returns c = all_summed
