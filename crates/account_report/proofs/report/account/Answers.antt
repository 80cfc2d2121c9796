use Rattle.std.proofs.Common.{◌≡◌, ◌+◌, ◌∙◌, ◌++◌, [], ◌∷◌, take, ap, sym, subst, arith}
use Rattle.std.proofs.lemmas.List.{take_all, take_more}
use Rattle.fdr_file.specs.declared.trace.Block.{Block}
use Rattle.account_report.specs.private.Folding.{Folds}
use Rattle.account_report.proofs.report.account.Goals as goal

pub folding-preserved : goal.folding-preserved
folding-preserved c =
    let blocks = c.as_slice-block-items.result.now in
    let i = c.folding.block-index in
    let block = c.block-item.result in
    let more : take (i + 1) blocks ≡ take i blocks ++ block ∷ [] =
    take_more blocks i block (omega arith) ∙ ap (λ (b : Block). take i blocks ++ b ∷ []) (sym c.block-item.is) in
    subst (Folds c.take_block.new.fold) (sym more) (c.in_ok-take_block.ensures (take i blocks) c.folding.invariant)

pub returns-clause-rows : goal.returns-clause-rows
returns-clause-rows c =
    let blocks = c.as_slice-block-items.result.now in
    c.in_ok-rows.ensures.rows c.args.trace.now.blocks
    (subst (Folds c.folding.fold) (take_all c.folding.block-index blocks (omega arith) ∙ c.as_slice-block-items.ensures) c.folding.invariant)

pub returns-clause-distinct : goal.returns-clause-distinct
returns-clause-distinct c =
    c.in_ok-rows.ensures.distinct (take c.folding.block-index c.as_slice-block-items.result.now) c.folding.invariant
