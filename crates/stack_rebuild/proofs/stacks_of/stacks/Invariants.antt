use Rattle.std.proofs.Common.{take}
use Rattle.stack_rebuild.specs.private.Folding.{Folds}
use Rattle.stack_rebuild.proofs.stacks_of.stacks.Given as goal

abbrev pub invariant-folding : goal.invariant-folding
invariant-folding l = Folds l.fold (take l.block-index l.block-items)
