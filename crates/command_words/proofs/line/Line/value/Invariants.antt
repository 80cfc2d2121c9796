use Rattle.std.proofs.Common.{◌≡◌}
use Rattle.command_words.proofs.ClapMatches.{given_from_place}
use Rattle.command_words.proofs.line.Line.value.Given as goal

abbrev pub invariant-loop-given : goal.invariant-loop-given
invariant-loop-given l = given_from_place l.name l.self.given.items l.given-index ≡ given_from_place l.name l.self.given.items 0
