-- What a fold stands for.
use Rattle.std.specs.Prelude.{◌≡◌, ◌++◌, ℕ, List, [], ◌∷◌}
use Rattle.fdr_file.specs.declared.trace.Block.{Block}
use Rattle.stack_rebuild.specs.Calls.{standing_after}
use Rattle.stack_rebuild.specs.Histories.{history_of, history_of_thread}
use Rattle.account_report.specs.declared.fold.AccountFold.{AccountFold}
use Rattle.account_report.specs.private.Tallies.{standing_in}
use Rattle.account_report.specs.private.AllTallies.{AreTallies}

-- The last block is of the thread at hand, whose calls are kept apart from those of the other threads.
pub record Folds (fold : AccountFold) (blocks : List Block) : Type 0 where
  pub last : (first : List Block) (block : Block) → blocks ≡ first ++ block ∷ [] → block.thread ≡ fold.thread
  pub own : fold.calls ≡ standing_after (history_of_thread fold.thread (history_of blocks))
  pub others : (other : ℕ) → (fold.thread ≡ other → ⊥) → standing_in fold.threads other ≡ standing_after (history_of_thread other (history_of blocks))
  pub tallied : AreTallies fold.tallies (history_of blocks)
