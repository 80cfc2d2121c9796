-- What a pool leaves of the buffers that its threads have sealed.
use Rattle.std.specs.Prelude.{◌≡◌, ◌<◌, ◌+◌, ◌-◌, ◌==◌, ℕ, true, List, [], ◌∷◌, ◌++◌, All, filter, length, replicate, slice_index_or, sum_by}
use Rattle.fdr_buffer.specs.Filled.{Filled, empty_buffer}
use Rattle.machine_step.specs.declared.setup.Setup.{Setup}
use Rattle.machine_step.specs.Buffers.{spare_of}

-- those of the buffers that a thread has sealed
abbrev pub of_thread : ℕ → List Filled → List Filled
of_thread thread buffers = filter (λ buffer. buffer.thread == thread) buffers

-- the list at a place, if there is one
abbrev pub row_at : List (List Filled) → ℕ → List Filled
row_at rows place = slice_index_or rows place []

-- the last buffers of a list
abbrev pub IsSuffix : List Filled → List Filled → Type 0
IsSuffix last buffers = (gone : List Filled) × (buffers ≡ gone ++ last)

-- how many buffers all threads have sealed
abbrev pub sealed_in_all : List (List Filled) → ℕ
sealed_in_all rows = sum_by length rows

-- How many buffers of the threads from this one on are absent. Each row has what a thread has sealed, and `used` has
-- what is left of all of them.
abbrev pub absent_from : ℕ → List (List Filled) → List Filled → ℕ
absent_from thread [] used = 0
absent_from thread (row ∷ rows) used =
    (length row - length (of_thread thread used)) + absent_from (thread + 1) rows used

-- a buffer of this size that a thread below this number has sealed
pub record IsUsed (size bound : ℕ) (buffer : Filled) : Type 0 where
  pub is_size : buffer.size ≡ size
  pub is_begun : buffer.begun ≡ true
  pub some_thread : 0 < buffer.thread
  pub below : buffer.thread < bound

-- What is left in a pool. The rows have the buffers that each thread has sealed, thread 1 first. Fresh buffers come
-- first, and sealed ones after them. Those of a thread are the last that it sealed, in their order. If the threads have
-- sealed more than there are spare buffers, exactly the excess is absent; otherwise none is.
pub record IsLeft (setup : Setup) (rows : List (List Filled)) (left : List Filled) : Type 0 where
  pub fresh : ℕ
  pub used : List Filled
  pub all : left ≡ replicate fresh (empty_buffer setup.size) ++ used
  pub count : length left ≡ spare_of setup
  pub each : All (IsUsed setup.size (length rows + 1)) used
  pub last : (place : ℕ) → IsSuffix (of_thread (place + 1) used) (row_at rows place)
  pub absent : absent_from 1 rows used ≡ sealed_in_all rows - spare_of setup

-- what is left in a pool comes after what a list held
abbrev pub AddsLeft : Setup → List (List Filled) → List Filled → List Filled → Type 0
AddsLeft setup rows old new = (left : List Filled) × (new ≡ old ++ left) × IsLeft setup rows left
