use Rattle.std.proofs.Common.{◌≡◌, [], ◌++◌, refl, subst}
use Rattle.std.specs.Prelude.{decimal}
use Rattle.std.proofs.lemmas.List.{append-nil}
use Rattle.handler_word.specs.Runs.{run_text}
use Rattle.xray_io.specs.Text.{AddsText}
use Rattle.handler_word.proofs.runs.add_run.Goals as goal

pub returns : goal.returns
returns g c =
    let same : c.args.before.now ++ (c.mark_symbol.result.now ++ (decimal c.from.result ++ [])) ≡ c.args.before.now ++ run_text (c.args.run.mark, c.args.run.length) =
    rw (c.mark_symbol.ensures, c.from.ensures, append-nil) refl in
    subst (λ t. AddsText g.S.Sink.written g.S.Sink.faults g.S.Sink.along c.args.text.now c.pieces.new.self t c.pieces.result) same c.pieces.ensures.adds
