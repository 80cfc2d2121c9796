use Rattle.std.proofs.Common.{subst}
use Rattle.xray_io.specs.Text.{AddsText}
use Rattle.trace_flush.proofs.AuditText.{limits_pieces}
use Rattle.trace_flush.proofs.audit.add_limits.Goals as goal

pub returns : goal.returns
returns g c =
    let same = limits_pieces c.args.limits.now _ _ _ _ _ _ c.from.ensures c.from-2.ensures c.from-3.ensures c.from-4.ensures c.from-5.ensures c.from-6.ensures in
    subst (λ t. AddsText g.S.Sink.written g.S.Sink.faults g.S.Sink.along c.args.text.now c.pieces.new.self t c.pieces.result) same c.pieces.ensures.adds
