-- Steps with numbers from 1 on. The steps of a bucket are chained, from the latest one to the first.
use Rattle.std.specs.Prelude.{◌≡◌, ◌<◌, ◌≤◌, ◌+◌, ◌*◌, ◌-◌, ◌/◌, ◌%◌, ◌^◌, ℕ, List, bit_xor, length, slice_index_or}
use Rattle.call_trie.specs.declared.table.Step.{Step}
use Rattle.call_trie.specs.declared.table.TheConstants.{PARENT_FACTOR, STEP_FACTOR}

-- for how many steps a table has room, and its steps by their numbers
pub record Steps : Type 0 where
  pub room : ℕ
  pub steps : List Step

-- the step with this number is this one
pub record IsNumberOf (steps : List Step) (step : Step) (n : ℕ) : Type 0 where
  pub some : 0 < n
  pub within : n ≤ length steps
  pub is : (d : Step) → slice_index_or steps (n - 1) d ≡ step

-- no step is this one
abbrev pub HasNone : List Step → Step → Type 0
HasNone steps step = (k : ℕ) (d : Step) → k < length steps → slice_index_or steps k d ≡ step → ⊥

-- the bucket of a step, if there are so many
unfoldable pub bucket_in : ℕ → Step → ℕ
bucket_in buckets step =
    let both = (step.parent * PARENT_FACTOR % 2 ^ 64 + step.func) % 2 ^ 64 in
    bit_xor both (both / 2 ^ 32) * STEP_FACTOR % 2 ^ 64 / 2 ^ 32 * buckets / 2 ^ 32

-- this is the number of the latest of the first so many steps that is in a bucket, or 0 if none is
pub record IsLatest (buckets : ℕ) (steps : List Step) (bucket count n : ℕ) : Type 0 where
  pub low : n ≤ count
  pub own : (d : Step) → 0 < n → bucket_in buckets (slice_index_or steps (n - 1) d) ≡ bucket
  pub none : (k : ℕ) (d : Step) → n ≤ k → k < count → bucket_in buckets (slice_index_or steps k d) ≡ bucket → ⊥

-- each bucket has the number of its latest step, and each step that of the latest one before it in its bucket
pub record AreChained (buckets : ℕ) (steps : List Step) (before latest : List ℕ) : Type 0 where
  pub level : length before ≡ length steps
  pub latest_are : (bucket : ℕ) → bucket < buckets → IsLatest buckets steps bucket (length steps) (slice_index_or latest bucket 0)
  pub before_are : (i : ℕ) (d : Step) → i < length steps
      → IsLatest buckets steps (bucket_in buckets (slice_index_or steps i d)) i (slice_index_or before i 0)

-- the number of a step that is looked for is this one or a lower one, or it has none
pub record Walks (buckets : ℕ) (steps : List Step) (step : Step) (n : ℕ) : Type 0 where
  pub low : n ≤ length steps
  pub own : (d : Step) → 0 < n → bucket_in buckets (slice_index_or steps (n - 1) d) ≡ bucket_in buckets step
  pub absent : (k : ℕ) (d : Step) → n ≤ k → k < length steps → slice_index_or steps k d ≡ step → ⊥
