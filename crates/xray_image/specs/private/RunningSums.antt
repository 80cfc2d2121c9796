-- Running sums as they are stored.
use Rattle.std.specs.Prelude.{◌≡◌, ◌≢◌, ◌<◌, ◌≤◌, ◌+◌, ◌*◌, ◌/◌, ◌%◌, ℕ, List, [], ◌∷◌, length, slice_index}
use Rattle.xray_image.specs.declared.running_sums.RunningSums.{RunningSums}
use Rattle.xray_image.specs.declared.running_sums.TheConstants.{LARGEST_STEP}

-- the sums of numbers from i on: each is the first of its block of sixteen, plus its own step
abbrev pub sums_from : List ℕ → ℕ → List ℕ → List ℕ
sums_from firsts i [] = []
sums_from firsts i (step ∷ steps) = (slice_index firsts (i / 16) + step) ∷ sums_from firsts (i + 1) steps

-- the sums
abbrev pub sums_in : RunningSums → List ℕ
sums_in s = sums_from s.firsts.items 0 s.steps.items

-- the blocks are those of the steps; no sum is above the total; the total isn't far above the first of the last block
pub record AreSums (firsts steps : List ℕ) (total : ℕ) : Type 0 where
  pub blocks : length firsts ≡ (length steps + 15) / 16
  pub each : (i : ℕ) → i < length steps → slice_index firsts (i / 16) + slice_index steps i ≤ total
  pub near : length steps % 16 ≢ 0
      → (slice_index firsts (length steps / 16) ≤ total) × (total ≤ slice_index firsts (length steps / 16) + LARGEST_STEP * (length steps % 16))

abbrev pub IsSound : RunningSums → Type 0
IsSound s = AreSums s.firsts.items s.steps.items s.total

-- the block of the next sum, after n, is begun: its first is close to the total
pub record HasBegunBlock (old new : List ℕ) (n total : ℕ) : Type 0 where
  pub kept : (b : ℕ) → b < length old → slice_index new b ≡ slice_index old b
  pub reaches : length new ≡ n / 16 + 1
  pub low : slice_index new (n / 16) ≤ total
  pub near : total ≤ slice_index new (n / 16) + LARGEST_STEP * (n % 16)
