use Rattle.std.proofs.Common.{subst}
use Rattle.xray_io.specs.Text.{AddsText}
use Rattle.machine_step.proofs.PlainText.{counts_pieces}
use Rattle.machine_step.proofs.plain_text.add_counts.Goals as goal

pub returns : goal.returns
returns g c =
    let same = counts_pieces c.args.thread _ c.args.end _ _ _ c.args.instructions c.args.passings
    c.from.ensures c.end_name.ensures c.from-2.ensures c.from-3.ensures in
    subst (λ t. AddsText g.S.Sink.written g.S.Sink.faults g.S.Sink.along c.args.text.now c.pieces.new.self t c.pieces.result) same c.pieces.ensures.adds
