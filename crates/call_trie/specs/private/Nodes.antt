-- What the fields of nodes say.
use Rattle.std.specs.Prelude.{◌≡◌, ◌≤◌, length, vec_capacity}
use Rattle.call_trie.specs.declared.nodes.Nodes.TheInside.{Inside}
use Rattle.call_trie.specs.private.Paths.{Climb, Numbered, paths_of_steps}

-- for how many paths there are nodes, the paths and the tallies
abbrev pub numbered_in : Inside → Numbered
numbered_in a = record { room = a.table.room; paths = paths_of_steps a.table.steps; tallies = a.tallies.items }

-- there is a tally for each step, and room for all
pub record AreNodes (a : Inside) : Type 0 where
  pub climb : Climb a.table.steps (paths_of_steps a.table.steps)
  pub level : length a.tallies.items ≡ length a.table.steps
  pub fit : a.table.room ≤ vec_capacity a.tallies
