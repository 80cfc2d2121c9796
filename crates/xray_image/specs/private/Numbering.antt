-- How function ids are counted.
use Rattle.std.specs.Prelude.{◌≡◌, ◌<◌, ◌≤◌, ◌-◌, ℕ, List, [], length, map, take, slice_index, MatchOption, Option, Some, slice_get}
use Rattle.xray_image.specs.Program.{distinct}

-- the numbers of some addresses among all
pub record AreNumbersOf (all some numbers : List ℕ) : Type 0 where
  pub each : map (slice_get all) numbers ≡ map Some some

-- the function of the entry before this one, if there is one
abbrev pub IsBefore : List ℕ → ℕ → Option ℕ → Type 0
IsBefore functions i last = MatchOption last (i ≡ 0) (λ x. (0 < i) × (slice_index functions (i - 1) ≡ x))

-- the ids given to the first i entries, and the functions that have them
pub record HasCounted (starts functions ids : List ℕ) (i : ℕ) (last : Option ℕ) (numbers so_far : List ℕ) : Type 0 where
  pub numbers_are : AreNumbersOf starts (distinct [] (take i functions)) numbers
  pub few : length numbers ≤ i
  pub ids_are : so_far ≡ take i ids
  pub before : IsBefore functions i last
