use Rattle.std.proofs.Common.{◌≡◌, drop}
use Rattle.std.specs.List.{position_from}
use Rattle.std.specs.Str.{bytes_eq}
use Rattle.command_words.proofs.line.place_of.Given as goal

abbrev pub invariant-loop-place : goal.invariant-loop-place
invariant-loop-place l = position_from (λ one. bytes_eq l.word one.now) l.place (drop l.place l.words) ≡ position_from (λ one. bytes_eq l.word one.now) 0 l.words
