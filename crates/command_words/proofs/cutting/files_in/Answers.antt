use Rattle.std.proofs.Common.{◌∙◌, arith, ap, sym, option_copied}
use Rattle.clap.specs.Walk.{first_of}
use Rattle.command_words.specs.private.Clapped.{rows_in}
use Rattle.command_words.proofs.ClapMatches.{names_from, none_more, one_more, value_of_row}
use Rattle.command_words.proofs.cutting.files_in.Goals as goal
use Rattle.command_words.proofs.cutting.files_in.Goals.{in-Some+in_ok-push, in_default}

pub loop-file-preserved : goal.loop-file-preserved
loop-file-preserved c =
    let step = names_from c.args.files.now c.loop-file.file-index _ (rows_in c.args.matches.now) (omega arith) in
    let value = ap (λ id. first_of id (rows_in c.args.matches.now)) (sym c.label.ensures)
    ∙ value_of_row c.args.matches.now _ c.get_str.result c.get_str.ensures in
    elim c.match-get_str.branch [
      | in-Some+in_ok-push w ↦
          rw (w.names-is, w.in_ok-push.ensures.items)
          (one_more (λ name. name.now) c.loop-file.names.items w.in-Some.name _ _ _ _ step (value ∙ ap option_copied w.in-Some.is) c.loop-file.invariant)
      | in_default w ↦ rw w.names-is (none_more (λ name. name.now) c.loop-file.names.items _ _ _ _ step (value ∙ ap option_copied w.in_default.is) c.loop-file.invariant)
    ]
