use Rattle.std.proofs.Common.{◌≡◌, ◌∙◌, List, ap, length, subst, sym}
use Rattle.std.specs.List.{All}
use Rattle.std.proofs.lemmas.Result.{IfOk-weaker}
use Rattle.fdr_buffer.specs.Filled.{Filled}
use Rattle.fdr_file.specs.Files.{file_bytes}
use Rattle.machine_step.specs.Traced.{IsDone}
use Rattle.trace_flush.specs.Audit.{recycled_by, thread_audits}
use Rattle.trace_flush.specs.Flush.{run_header}
use Rattle.trace_flush.specs.Lines.{audit_lines_of}
use Rattle.trace_flush.specs.declared.line.AuditLine.{AuditLine}
use Rattle.xray_io.specs.Memory.{sink_bytes}
use Rattle.xray_io.specs.declared.memory.MemSink.{MemSink}
use Rattle.xray_program.specs.Soak.{IsSummary, soak_setup}
use Rattle.xray_program.specs.private.Drawn.{IsReadBack, summary_with}
use Rattle.xray_program.proofs.RunWritten.{all_begun, lines_count, lost_counts, only_lines, run_ended, segment_counts}
use Rattle.xray_program.proofs.SoakReads.{summary_is}
use Rattle.xray_program.proofs.summary.summary_of.Goals as goal

pub read_back-requires : goal.read_back-requires
read_back-requires c =
    let left = c.in_ok-end.ensures in
    record { begun = all_begun soak_setup left.runs c.deref.result.now (c.deref.ensures.value ∙ left.leaves.buffers_are) }

pub add_audit_lines-requires-clause-done : goal.add_audit_lines-requires-clause-done
add_audit_lines-requires-clause-done c =
    let left = c.in_ok-end.ensures in
    subst (All (λ t. IsDone t.want)) (sym c.deref-2.ensures.value) (run_ended soak_setup left.runs _ _ _ _ left.leaves)

pub summed_up-requires : goal.summed_up-requires
summed_up-requires c =
    let left = c.in_ok-end.ensures in
    let end = c.in_ok-end.end in
    let lines = only_lines c.deref-5.result.now c.in_ok-lines.lines.items end.cpus.items c.deref-2.result.now end.segments.items c.deref-3.result.now
    end.first.items c.deref-4.result.now (c.deref-5.ensures.value ∙ c.add_audit_lines.ensures.lines) c.in_ok-lines.ensures.none c.deref-2.ensures.value
    c.deref-3.ensures.value c.deref-4.ensures.value in
    ap length lines ∙ lines_count end.cpus.items end.segments.items end.first.items (segment_counts soak_setup left.runs _ _ _ _ left.leaves)
    (lost_counts soak_setup left.runs _ _ _ _ left.leaves) ∙ sym (ap length c.deref-6.ensures.value)

pub returns : goal.returns
returns c =
    let left = c.in_ok-end.ensures in
    let end = c.in_ok-end.end in
    let inputs = c.in_ok-inputs.inputs in
    let back = c.in_ok-back.back in
    let lines = only_lines c.deref-5.result.now c.in_ok-lines.lines.items end.cpus.items c.deref-2.result.now end.segments.items c.deref-3.result.now
    end.first.items c.deref-4.result.now (c.deref-5.ensures.value ∙ c.add_audit_lines.ensures.lines) c.in_ok-lines.ensures.none c.deref-2.ensures.value
    c.deref-3.ensures.value c.deref-4.ensures.value in
    let threads = thread_audits c.deref-5.result.now c.deref-6.result.now in
    let accounted = ap (λ (l : List AuditLine). thread_audits l c.deref-6.result.now) lines
    ∙ ap (thread_audits (audit_lines_of end.cpus.items end.segments.items end.first.items)) c.deref-6.ensures.value
    ∙ c.a_run_is_audited.ensures.threads soak_setup left.runs end.cpus.items end.segments.items end.first.items end.buffers.items left.leaves in
    let recycled = recycled_by c.deref-5.result.now in
    let lost = ap recycled_by lines
    ∙ c.a_run_is_audited.ensures.recycled soak_setup left.runs end.cpus.items end.segments.items end.first.items end.buffers.items left.leaves in
    let read = subst (λ (buffers : List Filled). IsReadBack (file_bytes (run_header soak_setup) buffers) back.bytes back.rows.items)
    c.deref.ensures.value c.in_ok-back.ensures in
    let text = summary_with c.args.number threads recycled back.bytes back.rows.items in
    IfOk-weaker c.summed_up.result (λ (sink : MemSink). sink_bytes sink ≡ text) (λ (sink : MemSink). IsSummary c.args.number (sink_bytes sink))
    (λ (sink : MemSink) (written : sink_bytes sink ≡ text).
    summary_is c.args.number inputs.image inputs.script inputs.schedule c.in_ok-inputs.ensures.inputs left.runs left.replay end.cpus.items
    end.segments.items end.first.items end.buffers.items left.leaves back.bytes back.rows.items read threads accounted recycled lost (sink_bytes sink) written)
    c.summed_up.ensures
