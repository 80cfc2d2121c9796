-- The characters of a name that are still to come.
use Rattle.std.specs.Prelude.{ℕ, List}
use Rattle.flame_graph.specs.Characters.{characters}
use Rattle.flame_graph.specs.declared.characters.Characters.{Characters}

abbrev pub characters_left : Characters → List (List ℕ)
characters_left given = characters given.rest.now
