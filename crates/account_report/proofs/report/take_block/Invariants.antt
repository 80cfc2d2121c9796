use Rattle.std.proofs.Common.{List, [], ◌∷◌, ◌++◌, take}
use Rattle.fdr_file.specs.declared.trace.Block.{Block}
use Rattle.account_report.specs.private.Folding.{Folds}
use Rattle.account_report.proofs.report.take_block.Given as goal

abbrev pub invariant-taking : goal.invariant-taking
invariant-taking l = (blocks : List Block) → Folds l.fn.fold blocks
    → Folds l.fold (blocks ++ record l.block { events = take l.event-index l.event-items } ∷ [])
