-- A pool and its passes, as contracts see them.
use Rattle.std.specs.Prelude.{◌≡◌, ◌<◌, ◌+◌, ℕ, List, [], ◌∷◌, ◌++◌, length, map, slice_index_or}
use Rattle.atomic_table.specs.Seated.{TableId}
use Rattle.fdr_buffer.specs.Filled.{Filled, empty_buffer}
use Rattle.machine_step.specs.declared.setup.Setup.{Setup}

-- which pool it is, and what it was made with
pub record PoolIs : Type 0 where
  pub pool : TableId
  pub setup : Setup

-- The pass of a thread: of which pool it is, what that was made with, the thread's number, and the buffers that the
-- thread has sealed, in order.
pub record PassIs : Type 0 where
  pub pool : TableId
  pub setup : Setup
  pub thread : ℕ
  pub sealed : List Filled

-- it is a pass of this pool
pub record IsOf (pool : PoolIs) (pass : PassIs) : Type 0 where
  pub same_pool : pass.pool ≡ pool.pool
  pub same_setup : pass.setup ≡ pool.setup

-- one more buffer was sealed
abbrev pub sealing : PassIs → Filled → PassIs
sealing pass buffer = record pass { sealed = pass.sealed ++ buffer ∷ [] }

-- the pass of a thread that has sealed nothing
abbrev pub new_pass : PoolIs → ℕ → PassIs
new_pass pool thread = record { pool = pool.pool; setup = pool.setup; thread = thread; sealed = [] }

-- what a thread begins with
abbrev pub new_hand : PoolIs → ℕ → PassIs × Filled
new_hand pool thread = (new_pass pool thread, empty_buffer pool.setup.size)

-- what the threads from one number to another begin with
abbrev pub AreNew : PoolIs → ℕ → ℕ → List (PassIs × Filled) → Type 0
AreNew pool first last hands = (length hands + first ≡ last + 1)
    × ((k : ℕ) (other : PassIs × Filled) → k < length hands → slice_index_or hands k other ≡ new_hand pool (first + k))

-- they are passes of this pool, those of a thread and the threads after it
abbrev pub AreOf : PoolIs → ℕ → List PassIs → Type 0
AreOf pool first passes = (k : ℕ) (other : PassIs) → k < length passes
    → IsOf pool (slice_index_or passes k other) × ((slice_index_or passes k other).thread ≡ first + k)

-- what each thread has sealed
abbrev pub sealed_of : List PassIs → List (List Filled)
sealed_of passes = map (λ pass. pass.sealed) passes
