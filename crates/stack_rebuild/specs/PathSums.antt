-- The paths so far, each with a number, and what pairs say of each.
use Rattle.std.specs.Prelude.{◌≡◌, ◌<◌, ◌+◌, ◌++◌, ◌⊎◌, ℕ, List, [], ◌∷◌, length, sum_by, count_by, true, All, if◌then◌else◌, slice_index_or}
use Rattle.stack_rebuild.specs.declared.tally.Tally.{Tally}
use Rattle.stack_rebuild.specs.Stacks.{Timed, has_path}

-- ---- paths by their numbers

-- the path with this number
abbrev pub path_at : List (List ℕ) → ℕ → List ℕ
path_at paths n = slice_index_or paths n []

-- no two numbers have the same path
pub record AreApart (paths : List (List ℕ)) : Type 0 where
  pub apart : (n m : ℕ) → n < length paths → m < length paths → path_at paths n ≡ path_at paths m → n ≡ m

-- a path that had no number has the next number
pub record IsFresh (path : List ℕ) (n : ℕ) (old new : List (List ℕ)) : Type 0 where
  pub more : new ≡ old ++ path ∷ []
  pub last : n ≡ length old
  pub absent : (k : ℕ) → k < length old → path_at old k ≡ path → ⊥

-- A path has a number. Each path that had a number still has it.
pub record HasNumber (path : List ℕ) (n : ℕ) (old new : List (List ℕ)) : Type 0 where
  pub is : path_at new n ≡ path
  pub within : n < length new
  pub grows : (new ≡ old) ⊎ IsFresh path n old new

-- ---- tallies

abbrev pub no_tally : Tally
no_tally = record { count = 0; sum = 0; own = 0 }

-- a tally and one more pair
abbrev pub with_pair : ℕ → ℕ → Tally → Tally
with_pair duration own tally = record { count = tally.count + 1; sum = tally.sum + duration; own = tally.own + own }

-- two tallies together
abbrev pub both_tallies : Tally → Tally → Tally
both_tallies tally other = record { count = tally.count + other.count; sum = tally.sum + other.sum; own = tally.own + other.own }

-- what pairs say of a path
abbrev pub tally_of : List Timed → List ℕ → Tally
tally_of pairs path = record {
  count = count_by (has_path path) pairs;
  sum = sum_by (λ pair. if has_path path pair then pair.duration else 0) pairs;
  own = sum_by (λ pair. if has_path path pair then pair.own else 0) pairs;
}

-- some pairs are all of this path, and this is what they say of it
pub record AreOfPath (path : List ℕ) (tally : Tally) (pairs : List Timed) : Type 0 where
  pub all : All (λ pair. has_path path pair ≡ true) pairs
  pub tally_is : tally ≡ tally_of pairs path

-- ---- both

-- paths with their tallies, by their numbers
pub record Summed : Type 0 where
  pub paths : List (List ℕ)
  pub tallies : List Tally

-- each pair's path has a number
abbrev pub AllNumbered : List (List ℕ) → List Timed → Type 0
AllNumbered paths [] = Unit {0}
AllNumbered paths (pair ∷ pairs) = ((n : ℕ) × (n < length paths) × (path_at paths n ≡ pair.path)) × AllNumbered paths pairs

-- The tallies of paths, by their numbers, are what pairs say. No path has two numbers, and number 0 is the empty path.
pub record AreSums (paths : List (List ℕ)) (tallies : List Tally) (pairs : List Timed) : Type 0 where
  pub level : length tallies ≡ length paths
  pub each : (n : ℕ) (d : Tally) → n < length tallies → slice_index_or tallies n d ≡ tally_of pairs (path_at paths n)
  pub numbered : AllNumbered paths pairs
  pub apart : AreApart paths
  pub some : 0 < length paths
  pub root : path_at paths 0 ≡ []
