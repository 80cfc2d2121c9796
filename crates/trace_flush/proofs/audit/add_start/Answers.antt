use Rattle.std.proofs.Common.{◌∙◌, subst}
use Rattle.xray_io.specs.Text.{AddsText}
use Rattle.trace_flush.specs.Audit.{thread_audit}
use Rattle.trace_flush.proofs.AuditText.{start_pieces}
use Rattle.trace_flush.proofs.audit.add_start.Goals as goal

pub returns : goal.returns
returns g c =
    let same = start_pieces (thread_audit c.args.line.now c.args.marks.now.items) _ _ _ _ c.from.ensures c.end_name.ensures
    (c.from-2.ensures ∙ c.len.ensures.count) (c.from-3.ensures ∙ c.recorded.ensures) in
    subst (λ t. AddsText g.S.Sink.written g.S.Sink.faults g.S.Sink.along c.args.text.now c.pieces.new.self t c.pieces.result) same c.pieces.ensures.adds
