use Rattle.std.proofs.Common.{subst}
use Rattle.xray_io.specs.Text.{AddsText}
use Rattle.trace_flush.proofs.AuditText.{stamps_pieces}
use Rattle.trace_flush.proofs.audit.add_stamps.Goals as goal

pub returns : goal.returns
returns g c =
    let same = stamps_pieces c.args.setup.now _ _ _ _ c.from.ensures c.from-2.ensures c.from-3.ensures c.from-4.ensures in
    subst (λ t. AddsText g.S.Sink.written g.S.Sink.faults g.S.Sink.along c.args.text.now c.pieces.new.self t c.pieces.result) same c.pieces.ensures.adds
