use Rattle.std.proofs.Common.{◌≡◌, ◌++◌, map, drop}
use Rattle.command_words.specs.private.Clapped.{given_in, rows_in}
use Rattle.command_words.specs.private.CodeViews.{option_view}
use Rattle.command_words.proofs.cutting.given_in.Given as goal

abbrev pub invariant-loop-option : goal.invariant-loop-option
invariant-loop-option l = map (λ pair. (pair.0.now, pair.1.now)) l.given.items ++ given_in (map option_view (drop l.option-index l.options)) (rows_in l.matches)
    ≡ given_in (map option_view l.options) (rows_in l.matches)
