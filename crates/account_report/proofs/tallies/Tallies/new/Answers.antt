use Rattle.account_report.proofs.FunctionList.{none_yet}
use Rattle.account_report.proofs.tallies.Tallies.new.Goals as goal

pub returns : goal.returns
returns c = none_yet _ c.new.ensures.items c.new-2.ensures.empty
