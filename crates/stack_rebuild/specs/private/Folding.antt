-- What a fold stands for, for the contracts of private functions.
use Rattle.std.specs.Prelude.{◌≡◌, ◌<◌, ◌++◌, ⊤, Bool, true, false, ℕ, List, [], ◌∷◌, map, nat_eq, reverse, Option, None, Some}
use Rattle.std.specs.HashMap.{HashMap, get}
use Rattle.std.specs.declared.hash.FoldHasher.{FoldHasher}
use Rattle.std.specs.declared.hash.BuildHasherDefault.{BuildHasherDefault}
use Rattle.fdr_record.specs.declared.event.Event.{Event}
use Rattle.fdr_file.specs.declared.trace.Block.{Block}
use Rattle.fdr_file.specs.ThreadEvents.{ThreadEvent}
use Rattle.stack_rebuild.specs.declared.fold.StackFold.{StackFold}
use Rattle.stack_rebuild.specs.declared.thread_stack.ThreadStack.{ThreadStack}
use Rattle.stack_rebuild.specs.Calls.{open_calls, standing_after}
use Rattle.stack_rebuild.specs.Histories.{history_of, history_of_thread, pairs_after}
use Rattle.stack_rebuild.specs.Stacks.{Timed, gets_deep, most_open, timed}
use Rattle.stack_rebuild.specs.private.Scanning.{AreFrames}
use Rattle.stack_rebuild.specs.PathSums.{AreSums}

-- a thread is followed, unless it or a lesser one had too many calls open
abbrev pub IsFollowed : Option ℕ → ℕ → Type 0
IsFollowed None thread = ⊤
IsFollowed (Some deep) thread = thread < deep

-- the least number for which a test holds, or none
abbrev pub IsLeast : (ℕ → Bool) → Option ℕ → Type 0
IsLeast test None = (n : ℕ) → test n ≡ false
IsLeast test (Some least) = (test least ≡ true) × ((n : ℕ) → n < least → test n ≡ false)

-- open calls by threads
abbrev pub Threads : Type 0
Threads = HashMap ℕ ThreadStack (BuildHasherDefault FoldHasher)

-- where a thread is after its history, with the frames of its open calls
pub record IsStack (stack : ThreadStack) (paths : List (List ℕ)) (history : List Event) : Type 0 where
  pub stands : stack.calls ≡ standing_after history
  pub framed : AreFrames paths (reverse history) (reverse stack.frames.items) (open_calls history)

-- the same of a thread that may have no event yet
abbrev pub IsStackOf : Option ThreadStack → List (List ℕ) → List Event → Type 0
IsStackOf None paths history = history ≡ []
IsStackOf (Some stack) paths history = IsStack stack paths history

-- the pairs that a history makes, in the order of their exits, with their paths
abbrev pub timed_after : List ThreadEvent → List Timed
timed_after history = map (λ made. timed (reverse (history_of_thread made.thread history)) made.pair) (pairs_after history)

-- A fold after a history. The open calls of the last block's thread are kept apart from those of the others. As long as
-- no thread had too many calls open, the sums are those of all pairs.
pub record IsFold (fold : StackFold) (history : List ThreadEvent) : Type 0 where
  pub deepest : IsLeast (λ thread. gets_deep most_open (history_of_thread thread history)) fold.deep
  pub own : IsFollowed fold.deep fold.thread → IsStack fold.stack fold.sums.paths (history_of_thread fold.thread history)
  pub others : (other : ℕ) → (fold.thread ≡ other → ⊥) → IsFollowed fold.deep other
      → IsStackOf (get nat_eq fold.others other) fold.sums.paths (history_of_thread other history)
  pub pairs : List Timed
  pub summed : AreSums fold.sums.paths fold.sums.tallies pairs
  pub all : fold.deep ≡ None → pairs ≡ timed_after history

-- a fold stands for blocks
pub record Folds (fold : StackFold) (blocks : List Block) : Type 0 where
  pub last : (first : List Block) (block : Block) → blocks ≡ first ++ block ∷ [] → block.thread ≡ fold.thread
  pub knows : IsFold fold (history_of blocks)
