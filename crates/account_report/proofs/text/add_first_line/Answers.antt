use Rattle.std.proofs.Common.{subst}
use Rattle.xray_io.specs.Text.{AddsText}
use Rattle.account_report.proofs.AccountLines.{first_pieces}
use Rattle.account_report.proofs.text.add_first_line.Goals as goal

pub returns-in-Text : goal.returns-in-Text
returns-in-Text g c =
    let same = first_pieces c.args.format c.args.latencies _ c.in-Text.is c.from.ensures in
    subst (λ t. AddsText g.S.Sink.written g.S.Sink.faults g.S.Sink.along c.args.text.now c.pieces.new.self t c.pieces.result) same c.pieces.ensures.adds
