use Rattle.std.proofs.Common.{ℕ, sym}
use Rattle.command_words.proofs.NumberLemmas.{number_found, no_number}
use Rattle.command_words.proofs.line.number_within.Goals as goal

pub returns-in-Ok-clause-number : goal.returns-in-Ok-clause-number
returns-in-Ok-clause-number c =
    sym (number_found ℕ c.args.least c.args.most c.in-Ok.number c.args.word.now c.in-Ok.ensures.value.0 c.if-least-number.true c.if-number-most.true)

pub returns-in_default-3-clause-number : goal.returns-in_default-3-clause-number
returns-in_default-3-clause-number c =
    sym (no_number ℕ c.args.least c.args.most c.args.word.now 0 c.in_default.ensures.value.0 c.ranges.most.fits)
