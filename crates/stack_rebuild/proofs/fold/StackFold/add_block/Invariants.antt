use Rattle.std.proofs.Common.{◌++◌, List, [], ◌∷◌, take}
use Rattle.fdr_file.specs.declared.trace.Block.{Block}
use Rattle.stack_rebuild.specs.private.Folding.{Folds}
use Rattle.stack_rebuild.proofs.fold.StackFold.add_block.Given as goal

abbrev pub invariant-taking : goal.invariant-taking
invariant-taking l = record {
  some : (blocks : List Block) × Folds l.fn.self blocks;
  taken : (blocks : List Block) → Folds l.fn.self blocks
      → Folds l.self (blocks ++ record { thread = l.block.thread; wall = l.block.wall; pid = l.block.pid; events = take l.event-index l.event-items } ∷ []);
}
