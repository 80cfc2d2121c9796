-- Numbers for paths, for the contracts of private functions.
use Rattle.std.specs.Prelude.{◌≡◌, ◌<◌, ◌≤◌, ◌+◌, ◌-◌, ◌++◌, ◌==◌, ◌&&◌, Bool, ℕ, List, [], ◌∷◌, length, Option, Some, slice_index_or}
use Rattle.std.specs.HashMap.{get, HashMap}
use Rattle.std.specs.declared.hash.FoldHasher.{FoldHasher}
use Rattle.std.specs.declared.hash.BuildHasherDefault.{BuildHasherDefault}
use Rattle.stack_rebuild.specs.declared.node.Step.{Step}
use Rattle.stack_rebuild.specs.PathSums.{AreApart, path_at}

-- the path of a step: that of its parent, and then its function
abbrev pub path_by : List (List ℕ) → Step → List ℕ
path_by paths step = path_at paths step.parent ++ step.func ∷ []

-- The paths that steps make, if the steps are listed from the last one to the first. Number 0 is the empty path.
abbrev pub paths_after : List Step → List (List ℕ)
paths_after [] = [] ∷ []
paths_after (step ∷ before) = paths_after before ++ path_by (paths_after before) step ∷ []

-- numbers of steps
abbrev pub Numbers : Type 0
Numbers = HashMap Step ℕ (BuildHasherDefault FoldHasher)

abbrev pub is_step : Step → Step → Bool
is_step step other = (step.parent == other.parent) && (step.func == other.func)

-- the number that a table has for a step
abbrev pub number_in : Numbers → Step → Option ℕ
number_in numbers step = get is_step numbers step

-- a step goes on from the path of a lower number, and makes its own path
pub record Climbs (paths : List (List ℕ)) (i : ℕ) (step : Step) : Type 0 where
  pub lower : step.parent ≤ i
  pub is : path_at paths (i + 1) ≡ path_by paths step

-- the steps make the paths, and each has the number of its path
pub record AreNumbered (paths : List (List ℕ)) (steps : List Step) (number_of : Step → Option ℕ) : Type 0 where
  pub count : length paths ≡ length steps + 1
  pub root : path_at paths 0 ≡ []
  pub climbs : (i : ℕ) (d : Step) → i < length steps → Climbs paths i (slice_index_or steps i d)
  pub told : (i : ℕ) (d : Step) → i < length steps → number_of (slice_index_or steps i d) ≡ Some (i + 1)
  pub found : (step : Step) (n : ℕ) → number_of step ≡ Some n → (0 < n) × (n ≤ length steps) × (slice_index_or steps (n - 1) step ≡ step)
  pub apart : AreApart paths
