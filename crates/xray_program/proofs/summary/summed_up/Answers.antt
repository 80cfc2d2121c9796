use Rattle.trace_flush.specs.Audit.{recycled_by, thread_audits}
use Rattle.xray_io.specs.Memory.{sink_bytes}
use Rattle.xray_io.specs.Writes.{text_of_writes}
use Rattle.xray_program.specs.private.Drawn.{summary_with}
use Rattle.xray_program.proofs.SoakTexts.{all_written}
use Rattle.xray_program.proofs.summary.summed_up.Goals as goal

pub returns-in-Ok : goal.returns-in-Ok
returns-in-Ok c =
    let back = c.args.back.now in
    let text = summary_with c.args.number (thread_audits c.args.lines.now c.args.cpus.now) (recycled_by c.args.lines.now) back.bytes back.rows.items in
    all_written (sink_bytes c.new-sink.result) (sink_bytes c.write_text.new.sink) text c.new-sink.ensures.empty (text_of_writes c.in-Ok.ensures.writes)
