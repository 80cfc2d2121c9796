use Rattle.std.proofs.Common.{◌++◌, [], ◌∷◌}
use Rattle.std.proofs.lemmas.Result.{on_ok_weaker}
use Rattle.fdr_file.specs.Scanning.{longer_block}
use Rattle.stack_rebuild.proofs.FoldSteps.{folds_counted}
use Rattle.stack_rebuild.proofs.fold.StackFoldTaker.event.Goals as goal

pub returns-clause-took : goal.returns-clause-took
returns-clause-took c =
    on_ok_weaker c.add-taken.result
    (λ added blocks last is.
    folds_counted c.add-taken.new.self c.refuse.new.refused (blocks ++ longer_block last c.args.event.now ∷ []) (added blocks last is)) c.add-taken.ensures.added
