-- The paths of a trie, with their numbers and their tallies.
use Rattle.std.specs.Prelude.{◌≡◌, ◌<◌, ◌≤◌, ◌+◌, ◌++◌, ℕ, List, [], ◌∷◌, length, map, reverse, slice_index_or}
use Rattle.stack_rebuild.specs.declared.tally.Tally.{Tally}
use Rattle.stack_rebuild.specs.PathSums.{AllNumbered, AreApart, no_tally, path_at, tally_of}
use Rattle.stack_rebuild.specs.Stacks.{Timed}
use Rattle.call_trie.specs.declared.table.Step.{Step}

-- for how many paths there are nodes; the paths by their numbers, of which number 0 is the empty path; and the tallies of
-- the others
pub record Numbered : Type 0 where
  pub room : ℕ
  pub paths : List (List ℕ)
  pub tallies : List Tally

-- the path of a step: that of its parent, and then its function
abbrev pub path_by : List (List ℕ) → Step → List ℕ
path_by paths step = path_at paths step.parent ++ step.func ∷ []

-- The paths that steps make, if the steps are listed from the last one to the first. Number 0 is the empty path.
abbrev pub paths_after : List Step → List (List ℕ)
paths_after [] = [] ∷ []
paths_after (step ∷ before) = paths_after before ++ path_by (paths_after before) step ∷ []

abbrev pub paths_of_steps : List Step → List (List ℕ)
paths_of_steps steps = paths_after (reverse steps)

-- each step goes on from the path of a lower number, and makes its own path; no two numbers have the same path
pub record Climb (steps : List Step) (paths : List (List ℕ)) : Type 0 where
  pub count : length paths ≡ length steps + 1
  pub root : path_at paths 0 ≡ []
  pub lower : (i : ℕ) (d : Step) → i < length steps → (slice_index_or steps i d).parent ≤ i
  pub is : (i : ℕ) (d : Step) → i < length steps → path_at paths (i + 1) ≡ path_by paths (slice_index_or steps i d)
  pub apart : AreApart paths

-- no number has this path
abbrev pub IsNew : List (List ℕ) → List ℕ → Type 0
IsNew paths path = (n : ℕ) → n < length paths → path_at paths n ≡ path → ⊥

-- a number has this path
pub record IsAt (paths : List (List ℕ)) (path : List ℕ) (n : ℕ) : Type 0 where
  pub within : n < length paths
  pub is : path_at paths n ≡ path

-- a path has this node: it had it before, or it is new and gets the next number
pub data GetsNode (path : List ℕ) (old new : Numbered) (n : ℕ) : Type 0 where
  had : IsAt old.paths path n → new ≡ old → GetsNode path old new n
  got : IsNew old.paths path → length old.paths ≤ old.room → n ≡ length old.paths
      → new ≡ record old { paths = old.paths ++ path ∷ []; tallies = old.tallies ++ no_tally ∷ [] } → GetsNode path old new n

-- a path is new, and there is no node left for it
pub record GetsNone (path : List ℕ) (old new : Numbered) : Type 0 where
  pub absent : IsNew old.paths path
  pub used : length old.paths ≡ old.room + 1
  pub same : new ≡ old

-- number 0 is the empty path
pub record HasRoot (paths : List (List ℕ)) : Type 0 where
  pub some : 0 < length paths
  pub root : path_at paths 0 ≡ []

-- the tallies are what pairs say of the paths after the empty one, and each pair has one of these paths
pub record AreTallies (paths : List (List ℕ)) (tallies : List Tally) (pairs : List Timed) : Type 0 where
  pub opened : List (List ℕ)
  pub paths_are : paths ≡ [] ∷ opened
  pub tallies_are : tallies ≡ map (tally_of pairs) opened
  pub numbered : AllNumbered opened pairs
