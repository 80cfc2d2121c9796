use Rattle.stack_rebuild.specs.Histories.{history_of}
use Rattle.account_report.proofs.fold.AccountFold.rows.Goals as goal

pub returns-clause-distinct : goal.returns-clause-distinct
returns-clause-distinct c = λ blocks folds. c.in_ok-rows.ensures.distinct (history_of blocks) folds.tallied
