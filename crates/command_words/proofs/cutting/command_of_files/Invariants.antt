use Rattle.std.proofs.Common.{◌≡◌, fold, map, drop}
use Rattle.clap.specs.Simple.{app_of, with_rule}
use Rattle.command_words.specs.private.Clapped.{bare_app, file_rule}
use Rattle.command_words.specs.private.CodeViews.{file_view}
use Rattle.command_words.proofs.cutting.command_of_files.Given as goal

abbrev pub invariant-loop-file : goal.invariant-loop-file
invariant-loop-file l = fold with_rule (app_of l.command) (map (λ file. file_rule (file_view file)) (drop l.file-index l.row.files.now))
    ≡ fold with_rule (bare_app l.row.word.now) (map (λ file. file_rule (file_view file)) l.row.files.now)
