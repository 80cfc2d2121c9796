-- The table over the code's bytes that finds units by address.
use Rattle.std.specs.Prelude.{◌≡◌, ◌≢◌, ◌<◌, ◌≤◌, ◌+◌, ◌-◌, ◌*◌, ◌/◌, ◌^◌, ℕ, List, length, slice_index, Contains}
use Rattle.xray_image.specs.declared.unit_index.UnitIndex.{UnitIndex}

-- each address is that of one of the n bytes from base on
abbrev pub AreWithin : ℕ → ℕ → List ℕ → Type 0
AreWithin base n all = (i : ℕ) → i < length all → (base ≤ slice_index all i) × (slice_index all i < base + n)

-- if the k-th byte has a step, its address is in the list
abbrev pub StandsAtStep : List ℕ → ℕ → List ℕ → ℕ → Type 0
StandsAtStep all base steps k = k < length steps → slice_index steps k ≢ 255 → Contains all (base + k)

-- the number of the address at a byte is the first number of the byte's block, plus the byte's step
pub record IsNumbered (firsts steps : List ℕ) (k number : ℕ) : Type 0 where
  pub has_block : k / 128 < length firsts
  pub has_step : slice_index steps k < 255
  pub sum : slice_index firsts (k / 128) + slice_index steps k ≡ number

-- the index is that of these addresses
pub record IsIndexOf (all : List ℕ) (index : UnitIndex) : Type 0 where
  pub few : length all < 2 ^ 32 - 1
  pub within : AreWithin index.base (length index.steps.items) all
  pub stands : (k : ℕ) → StandsAtStep all index.base index.steps.items k
  pub numbered : (i : ℕ) → i < length all → IsNumbered index.firsts.items index.steps.items (slice_index all i - index.base) i

-- ---- while the index is made

-- the blocks up to this one are begun, and no later ones; those that weren't begun before have this number as their
-- first
pub record HasBegun (old new : List ℕ) (block number : ℕ) : Type 0 where
  pub longer : length old ≤ length new
  pub kept : (b : ℕ) → b < length old → slice_index new b ≡ slice_index old b
  pub begun : (b : ℕ) → length old ≤ b → b < length new → (b ≤ block) × (slice_index new b ≡ number)

-- the first of a block is one of the first i addresses or the next one; no address from it on lies before the block
pub record IsFirstOf (all firsts : List ℕ) (base i b : ℕ) : Type 0 where
  pub counted : slice_index firsts b ≤ i
  pub following : (j : ℕ) → j < length all → slice_index firsts b ≤ j → base + 128 * b ≤ slice_index all j

-- the index has the first i addresses
pub record HasFirst (all firsts steps : List ℕ) (base i : ℕ) : Type 0 where
  pub first_of : (b : ℕ) → b < length firsts → IsFirstOf all firsts base i b
  pub stands : (k : ℕ) → StandsAtStep all base steps k
  pub numbered : (j : ℕ) → j < i → IsNumbered firsts steps (slice_index all j - base) j
