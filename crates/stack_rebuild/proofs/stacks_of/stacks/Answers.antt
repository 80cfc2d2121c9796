use Rattle.std.proofs.Common.{◌++◌, ◌∙◌, [], ◌∷◌, ap, arith, subst, sym, take}
use Rattle.std.proofs.lemmas.List.{take_more}
use Rattle.fdr_file.specs.declared.trace.Block.{Block}
use Rattle.stack_rebuild.specs.private.Folding.{Folds}
use Rattle.stack_rebuild.proofs.stacks_of.stacks.Goals as goal

pub folding-preserved : goal.folding-preserved
folding-preserved c =
    let blocks = c.as_slice-block-items.result.now in
    let before = take c.folding.block-index blocks in
    let one = c.block-item.result in
    subst (Folds c.add_block.new.self)
    (ap (λ (b : Block). before ++ b ∷ []) c.block-item.is ∙ sym (take_more blocks c.folding.block-index one (omega (arith, c.folding-test.true))))
    (c.in_ok-add_block.ensures before c.folding.invariant)
