use Rattle.std.proofs.Common.{rules, ap₂, refl, ◌≡◌, ◌∙◌}
use Rattle.std.proofs.lemmas.Result.{IfOk-weaker}
use Rattle.clap.specs.Simple.{with_rule}
use Rattle.clap.specs.Walk.{rule_of}
use Rattle.command_words.specs.private.Clapped.{file_rule}
use Rattle.command_words.specs.private.CodeViews.{file_view}
use Rattle.command_words.proofs.cutting.with_file.Goals as goal

pub returns : goal.returns
returns c =
    let rule_is : rule_of c.action-positional.result ≡ file_rule (file_view c.args.file.now) = search rules in
    IfOk-weaker c.arg.result _ _ (λ command added. added.shape (search rules) ∙ ap₂ with_rule refl rule_is) c.arg.ensures
