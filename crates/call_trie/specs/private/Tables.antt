-- What the fields of a table say.
use Rattle.std.specs.Prelude.{◌≡◌, ◌<◌, ◌≤◌, ◌*◌, length, vec_capacity}
use Rattle.call_trie.specs.declared.table.Table.TheInside.{Inside}
use Rattle.call_trie.specs.private.Chains.{AreChained, Steps}

-- for how many steps it has room, and the steps
abbrev pub steps_in : Inside → Steps
steps_in a = record { room = a.room; steps = a.steps.items }

-- a table has room for its steps
pub record IsTable (a : Inside) : Type 0 where
  pub chained : AreChained (length a.latest.items) a.steps.items a.before.items a.latest.items
  pub buckets : length a.latest.items ≡ 2 * a.room
  pub some : 0 < a.room
  pub few : a.room ≤ 262144
  pub within : length a.steps.items ≤ a.room
  pub steps_fit : a.room ≤ vec_capacity a.steps
  pub before_fits : a.room ≤ vec_capacity a.before
