-- What a fold stands for.
use Rattle.std.specs.Prelude.{◌≡◌, ◌++◌, ℕ, List, [], ◌∷◌, length, nat_eq, unwrap_or}
use Rattle.std.specs.HashMap.{get, HashMap}
use Rattle.std.specs.declared.hash.FoldHasher.{FoldHasher}
use Rattle.std.specs.declared.hash.BuildHasherDefault.{BuildHasherDefault}
use Rattle.fdr_file.specs.declared.trace.Block.{Block}
use Rattle.fdr_file.specs.ThreadEvents.{ThreadEvent}
use Rattle.stack_rebuild.specs.Histories.{history_of}
use Rattle.call_rows.specs.declared.fold.CallFold.{CallFold}
use Rattle.call_rows.specs.declared.kept.KeptCalls.{KeptCalls}
use Rattle.call_rows.specs.private.FirstRows.{Collects}
use Rattle.call_rows.specs.private.Frames.{Framed, framed_after}

-- threads by their ids
abbrev pub FramedThreads : Type 0
FramedThreads = HashMap ℕ Framed (BuildHasherDefault FoldHasher)

-- where a thread is; one that isn't there had no event
abbrev pub framed_in : FramedThreads → ℕ → Framed
framed_in threads thread = unwrap_or (get nat_eq threads thread) (framed_after [] thread)

-- A fold after a history. The thread of the last event is kept apart from the others.
pub record Follows (fold : CallFold) (history : List ThreadEvent) : Type 0 where
  pub count : fold.events ≡ length history
  pub own : fold.own ≡ framed_after history fold.thread
  pub others : (other : ℕ) → (fold.thread ≡ other → ⊥) → framed_in fold.others other ≡ framed_after history other

-- The first of the wanted rows of blocks are kept, and the thread and the process of the last block.
pub record KeepsCalls (kept : KeptCalls) (blocks : List Block) : Type 0 where
  pub thread : (first : List Block) (block : Block) → blocks ≡ first ++ block ∷ [] → block.thread ≡ kept.thread
  pub pid : (first : List Block) (block : Block) → blocks ≡ first ++ block ∷ [] → block.pid ≡ kept.pid
  pub follows : Follows kept.fold (history_of blocks)
  pub collects : Collects kept.first kept.wanted (history_of blocks)
