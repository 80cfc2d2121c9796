use Rattle.std.proofs.Common.{Err, subst}
use Rattle.xray_io.specs.Text.{AddsText, adds_more, adds_stop, adds_failed}
use Rattle.trace_flush.specs.private.Parts.{rest_of}
use Rattle.trace_flush.proofs.AuditText.{said_in_parts}
use Rattle.trace_flush.proofs.audit.add_thread.Goals as goal

pub returns-in_err-add_start : goal.returns-in_err-add_start
returns-in_err-add_start g c =
    let line = c.args.line.now in
    let marks = c.args.marks.now.items in
    adds_failed (subst (λ t. AddsText g.S.Sink.written g.S.Sink.faults g.S.Sink.along c.args.text.now c.add_start.new.text t (Err _)) (said_in_parts c.args.detail line marks)
    (adds_stop (rest_of c.args.detail line marks) c.in_err-add_start.ensures)) c.from_residual.result c.from_residual.ensures.1

pub returns : goal.returns
returns g c =
    let line = c.args.line.now in
    let marks = c.args.marks.now.items in
    subst (λ t. AddsText g.S.Sink.written g.S.Sink.faults g.S.Sink.along c.args.text.now c.add_rest.new.text t c.add_rest.result) (said_in_parts c.args.detail line marks)
    (adds_more g.met.S.Sink.along_both c.in_ok-add_start.ensures c.add_rest.ensures)
