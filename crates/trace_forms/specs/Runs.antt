-- Events as blocks: a block for each run of events of one thread and one process.
use Rattle.std.specs.Prelude.{◌≡◌, ◌≢◌, ◌==◌, ◌&&◌, ⊤, Bool, ℕ, List, [], ◌∷◌, All, if◌then◌else◌}
use Rattle.xray_io.specs.declared.wall.Wall.{Wall}
use Rattle.fdr_record.specs.declared.event.Event.{Event}
use Rattle.fdr_file.specs.declared.trace.Block.{Block}
use Rattle.fdr_file.specs.ThreadEvents.{ThreadEvent, thread_events}

-- the wall time of these blocks, for which no event says one
abbrev pub no_wall : Wall
no_wall = record { secs = 0; micros = 0 }

-- a block of these events of a thread and a process
abbrev pub run_of : ℕ → ℕ → List Event → Block
run_of thread pid events = record { thread = thread; wall = no_wall; pid = pid; events = events }

-- a block of one event
abbrev pub run_with : ThreadEvent → Block
run_with e = run_of e.thread e.pid (e.event ∷ [])

-- the event is of the thread and the process of the block
abbrev pub belongs : ThreadEvent → Block → Bool
belongs e block = (e.thread == block.thread) && (e.pid == block.pid)

-- Blocks after one more event, which comes before theirs. It is the first event of the first block if it belongs to that
-- block, and has a block of its own otherwise.
abbrev pub run_before : ThreadEvent → List Block → List Block
run_before e [] = run_with e ∷ []
run_before e (block ∷ blocks) =
    if belongs e block then record block { events = e.event ∷ block.events } ∷ blocks else run_with e ∷ block ∷ blocks

-- the runs of events, as blocks
abbrev pub runs : List ThreadEvent → List Block
runs [] = []
runs (e ∷ events) = run_before e (runs events)

-- ---- the same, as what is true of these blocks

-- the next block, if there is one, is of another thread or another process
abbrev pub IsOtherThan : Block → List Block → Type 0
IsOtherThan block [] = ⊤
IsOtherThan block (next ∷ blocks) = (block.thread ≡ next.thread) × (block.pid ≡ next.pid) → ⊥

-- no two blocks that follow each other are of one thread and one process
abbrev pub AreApart : List Block → Type 0
AreApart [] = ⊤
AreApart (block ∷ blocks) = IsOtherThan block blocks × AreApart blocks

-- The blocks are the longest runs of these events: they have these events in this order, none is empty, none could be
-- joined with the next one, and their wall time is 0.
pub record AreRuns (given : List ThreadEvent) (blocks : List Block) : Type 0 where
  pub events : thread_events blocks ≡ given
  pub some : All (λ block. block.events ≢ []) blocks
  pub apart : AreApart blocks
  pub walls : All (λ block. block.wall ≡ no_wall) blocks
