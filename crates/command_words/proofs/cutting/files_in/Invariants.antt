use Rattle.std.proofs.Common.{◌≡◌, ◌++◌, map, drop}
use Rattle.command_words.specs.private.Clapped.{names_in, rows_in}
use Rattle.command_words.specs.private.CodeViews.{file_view}
use Rattle.command_words.proofs.cutting.files_in.Given as goal

abbrev pub invariant-loop-file : goal.invariant-loop-file
invariant-loop-file l = map (λ name. name.now) l.names.items ++ names_in (map file_view (drop l.file-index l.files)) (rows_in l.matches)
    ≡ names_in (map file_view l.files) (rows_in l.matches)
