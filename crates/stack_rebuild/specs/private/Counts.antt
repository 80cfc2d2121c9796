-- How many calls of each function are open, for the contracts of private functions.
use Rattle.std.specs.Prelude.{◌≡◌, ◌==◌, Bool, ℕ, List, count_by, nat_eq, unwrap_or}
use Rattle.std.specs.HashMap.{get, HashMap}
use Rattle.std.specs.declared.hash.FoldHasher.{FoldHasher}
use Rattle.std.specs.declared.hash.BuildHasherDefault.{BuildHasherDefault}
use Rattle.stack_rebuild.specs.declared.call.Call.{Call}

-- numbers of calls by their functions
abbrev pub Counts : Type 0
Counts = HashMap ℕ ℕ (BuildHasherDefault FoldHasher)

-- the number of a function
abbrev pub count_in : Counts → ℕ → ℕ
count_in counts func = unwrap_or (get nat_eq counts func) 0

-- whether a call is of a function
abbrev pub is_of : ℕ → Call → Bool
is_of func call = call.func == func

-- the numbers are those of the calls
pub record AreCountsOf (calls : List Call) (counts : Counts) : Type 0 where
  pub each : (func : ℕ) → count_in counts func ≡ count_by (is_of func) calls
