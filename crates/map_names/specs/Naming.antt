-- The names of functions by their ids.
use Rattle.std.specs.Prelude.{ℕ, List, Option, None}

-- what gives functions their names: for each id, the name of its function, if it has one
pub record Naming : Type 0 where
  pub name : ℕ → Option (List ℕ)

-- no function has a name
abbrev pub no_names : Naming
no_names = record { name = λ id. None }
