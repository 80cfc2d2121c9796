use Rattle.std.proofs.Common.{◌∙◌, ◌<◌, arith, length, ap, option_copied, option_map}
use Rattle.command_words.specs.private.Clapped.{rows_in}
use Rattle.command_words.proofs.ClapMatches.{given_from, none_more, one_more, value_of_row}
use Rattle.command_words.proofs.cutting.given_in.Goals as goal
use Rattle.command_words.proofs.cutting.given_in.Goals.{in-Some+in_ok-push, in_default}

pub loop-option-preserved : goal.loop-option-preserved
loop-option-preserved c =
    let within : c.loop-option.option-index < length c.args.options.now = omega arith in
    let step = given_from c.args.options.now c.loop-option.option-index _ (rows_in c.args.matches.now) within in
    let value = value_of_row c.args.matches.now _ c.get_str.result c.get_str.ensures in
    elim c.match-get_str.branch [
      | in-Some+in_ok-push w ↦
          rw (w.given-is, w.in_ok-push.ensures.items)
          (one_more (λ pair. (pair.0.now, pair.1.now)) c.loop-option.given.items _ _ _ _ _ step (ap (option_map (λ value. (_, value))) (value ∙ ap option_copied w.in-Some.is)) c.loop-option.invariant)
      | in_default w ↦
          rw w.given-is (none_more (λ pair. (pair.0.now, pair.1.now)) c.loop-option.given.items _ _ _ _ step
          (ap (option_map (λ value. (_, value))) (value ∙ ap option_copied w.in_default.is)) c.loop-option.invariant)
    ]
