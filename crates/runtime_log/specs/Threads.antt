-- The events of a basic log as the blocks of a trace, thread by thread.
use Rattle.std.specs.Prelude.{◌≡◌, ◌≢◌, ◌<◌, ◌⊎◌, ⊤, ℕ, ◌==◌, List, [], ◌∷◌, All, filter}
use Rattle.fdr_file.specs.declared.trace.Block.{Block}
use Rattle.fdr_file.specs.ThreadEvents.{ThreadEvent, thread_events}

-- the events that a thread recorded, in their order
abbrev pub recorded_by : ℕ → List ThreadEvent → List ThreadEvent
recorded_by thread events = filter (λ e. e.thread == thread) events

-- a block may stand behind another one: its thread is higher, or it is of another process of the same thread
abbrev pub StandsBehind : Block → Block → Type 0
StandsBehind before block = (before.thread < block.thread) ⊎ ((before.thread ≡ block.thread) × (before.pid ≢ block.pid))

-- threads ascend, and two blocks of a thread that are neighbours are of different processes
abbrev pub AscendByThread : List Block → Type 0
AscendByThread [] = ⊤
AscendByThread (block ∷ []) = ⊤
AscendByThread (block ∷ next ∷ blocks) = StandsBehind block next × AscendByThread (next ∷ blocks)

-- Blocks are those of events, thread by thread: the events of each thread are the same, in the same order. Each block is a
-- whole run of events of one thread and one process. It was begun at the wall time 0.
pub record AreByThread (events : List ThreadEvent) (blocks : List Block) : Type 0 where
  pub same : (thread : ℕ) → recorded_by thread (thread_events blocks) ≡ recorded_by thread events
  pub ascend : AscendByThread blocks
  pub some : All (λ b. b.events ≢ []) blocks
  pub wall : All (λ b. b.wall ≡ record { secs = 0; micros = 0 }) blocks
