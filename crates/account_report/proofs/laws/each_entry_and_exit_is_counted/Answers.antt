use Rattle.account_report.proofs.RowsOverStacks.{all_counted}
use Rattle.account_report.proofs.laws.each_entry_and_exit_is_counted.Goals as goal

pub returns : goal.returns
returns c = all_counted
