-- Blocks that are made of events, one after the other.
use Rattle.std.specs.Prelude.{◌≡◌, ℕ, List, [], ◌∷◌, ◌++◌}
use Rattle.fdr_record.specs.declared.event.Event.{Event}
use Rattle.fdr_file.specs.declared.trace.Block.{Block}
use Rattle.trace_forms.specs.declared.runs.RunBlocks.{RunBlocks}
use Rattle.fdr_file.specs.ThreadEvents.{ThreadEvent, event_given}
use Rattle.trace_forms.specs.Runs.{run_of, runs}

-- the block of these events, unless there are none
abbrev pub last_run : ℕ → ℕ → List Event → List Block
last_run thread pid [] = []
last_run thread pid (event ∷ events) = run_of thread pid (event ∷ events) ∷ []

-- the blocks so far, of which the last may go on
abbrev pub blocks_so_far : RunBlocks → List Block
blocks_so_far r = r.blocks.items ++ last_run r.thread r.pid r.events.items

-- After one more event of this thread and this process, which belongs to the last block, the blocks are the runs of these
-- events and that one.
pub record TakesNext (r : RunBlocks) (events : List ThreadEvent) (thread pid : ℕ) : Type 0 where
  pub next : (event : Event) → r.blocks.items ++ run_of r.thread r.pid (r.events.items ++ event ∷ []) ∷ []
      ≡ runs (events ++ event_given (thread, pid, event) ∷ [])

-- The blocks are the runs of these events. The last of them isn't begun only if there are no events.
pub record HoldsRuns (r : RunBlocks) (events : List ThreadEvent) : Type 0 where
  pub runs : blocks_so_far r ≡ runs events
  pub begun : r.events.items ≡ [] → events ≡ []
