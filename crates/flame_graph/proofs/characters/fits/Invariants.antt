use Rattle.std.proofs.Common.{◌≡◌, ◌+◌, length}
use Rattle.flame_graph.specs.Characters.{characters}
use Rattle.flame_graph.specs.private.Left.{characters_left}
use Rattle.flame_graph.proofs.characters.fits.Given as goal

abbrev pub invariant-counting : goal.invariant-counting
invariant-counting l = length (characters l.name) ≡ l.counter + length (characters_left l.characters)
