use Rattle.std.proofs.Common.{refl}
use Rattle.account_report.proofs.FoldSteps.{added_to}
use Rattle.account_report.proofs.fold.AccountFold.add.Goals as goal

pub returns-clause-added : goal.returns-clause-added
returns-clause-added c = λ blocks last folds.
    added_to c.args.self.now _ blocks last c.args.event.now c.in_ok-pair.pair folds refl refl c.in_ok-pair.ensures.pair c.in_ok-pair.ensures.stands
    c.in_ok-add.ensures.tallied c.in_ok-add.ensures.few c.in_ok-add.ensures.present
