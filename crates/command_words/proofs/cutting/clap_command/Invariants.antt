use Rattle.std.proofs.Common.{◌≡◌, fold, map, drop}
use Rattle.clap.specs.Simple.{app_of, with_rule}
use Rattle.command_words.specs.private.Clapped.{app_by, option_rule}
use Rattle.command_words.specs.private.CodeViews.{row_view}
use Rattle.command_words.proofs.cutting.clap_command.Given as goal

abbrev pub invariant-loop-option : goal.invariant-loop-option
invariant-loop-option l = fold with_rule (app_of l.command) (map (λ option. option_rule option.name.now) (drop l.option-index l.row.options.now))
    ≡ app_by (row_view l.row)
