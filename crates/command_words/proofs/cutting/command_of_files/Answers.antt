use Rattle.std.proofs.Common.{ap, fold, map}
use Rattle.clap.specs.Simple.{app_of, with_rule}
use Rattle.command_words.specs.private.Clapped.{file_rule}
use Rattle.command_words.specs.private.CodeViews.{file_view}
use Rattle.command_words.proofs.CommandSteps.{all_added, one_added}
use Rattle.command_words.proofs.cutting.command_of_files.Goals as goal

pub loop-file-init : goal.loop-file-init
loop-file-init c = ap (λ app. fold with_rule app (map (λ file. file_rule (file_view file)) c.args.row.now.files.now)) c.bare_command-command.ensures

pub loop-file-preserved : goal.loop-file-preserved
loop-file-preserved c =
    one_added (λ file. file_rule (file_view file)) c.args.row.now.files.now c.loop-file.file-index _ (app_of c.loop-file.command) _ _ c.loop-file-test.true
    c.in_ok-command.ensures c.loop-file.invariant

pub returns : goal.returns
returns c = all_added (λ file. file_rule (file_view file)) c.args.row.now.files.now c.loop-file.file-index _ _ c.loop-file-test.false c.loop-file.invariant
