use Rattle.std.proofs.Common.{◌∙◌, ap, ap₂, fold}
use Rattle.clap.specs.Simple.{app_of, with_rule}
use Rattle.command_words.specs.private.Clapped.{bare_app, file_rule, option_rule}
use Rattle.command_words.specs.private.CodeViews.{file_view, option_view}
use Rattle.command_words.proofs.ClapMatches.{mapped_twice}
use Rattle.command_words.proofs.CommandSteps.{all_added, one_added}
use Rattle.command_words.proofs.cutting.clap_command.Goals as goal

pub loop-option-init : goal.loop-option-init
loop-option-init c =
    let row = c.args.row.now in
    let files = c.in_ok-command.ensures ∙ ap (fold with_rule (bare_app row.word.now)) (mapped_twice file_view file_rule row.files.now) in
    ap₂ (fold with_rule) files (mapped_twice option_view (λ option. option_rule option.name) row.options.now)

pub loop-option-preserved : goal.loop-option-preserved
loop-option-preserved c =
    one_added (λ option. option_rule option.name.now) c.args.row.now.options.now c.loop-option.option-index _ (app_of c.loop-option.command) _ _ c.loop-option-test.true
    c.in_ok-command-2.ensures c.loop-option.invariant

pub returns : goal.returns
returns c = all_added (λ option. option_rule option.name.now) c.args.row.now.options.now c.loop-option.option-index _ _ c.loop-option-test.false c.loop-option.invariant
