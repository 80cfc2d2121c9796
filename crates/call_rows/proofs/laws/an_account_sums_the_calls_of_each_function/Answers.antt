use Rattle.call_rows.proofs.CallSums.{account_sums}
use Rattle.call_rows.proofs.laws.an_account_sums_the_calls_of_each_function.Goals as goal

pub returns : goal.returns
returns c = account_sums
