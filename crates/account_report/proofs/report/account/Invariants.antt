use Rattle.std.proofs.Common.{take}
use Rattle.account_report.specs.private.Folding.{Folds}
use Rattle.account_report.proofs.report.account.Given as goal

abbrev pub invariant-folding : goal.invariant-folding
invariant-folding l = Folds l.fold (take l.block-index l.block-items)
