use Rattle.std.proofs.Common.{◌++◌, sym, append_assoc, refl}
use Rattle.std.specs.Prelude.{codes, decimal}
use Rattle.machine_step.specs.Texts.{line_feed}
use Rattle.trace_flush.specs.Audit.{recycled_by, thread_audits}
use Rattle.trace_flush.specs.Summary.{summary_text}
use Rattle.xray_io.specs.Text.{adds_more, adds_stop, adds_within, adds_failed}
use Rattle.xray_program.specs.Soak.{trace_lines}
use Rattle.xray_program.proofs.summary.SummaryPrinted.add_to.Goals as goal

pub returns-in_err-add_number : goal.returns-in_err-add_number
returns-in_err-add_number g c = record {
  adds =
      let back = c.args.self.now.back.now in
      let head = codes "soak " ++ decimal c.args.self.now.number ++ line_feed in
      let threads = summary_text (thread_audits c.args.self.now.lines.now c.args.self.now.cpus.now) (recycled_by c.args.self.now.lines.now) in
      let last = trace_lines back.bytes back.rows.items in
      let broken = adds_stop (threads ++ last) c.in_err-add_number.ensures in
      adds_failed (rw (sym (append_assoc head threads last)) at broken) c.from_residual.result c.from_residual.ensures.1;
}

pub returns-in_err-add_summary : goal.returns-in_err-add_summary
returns-in_err-add_summary g c = record {
  adds =
      let back = c.args.self.now.back.now in
      adds_failed (adds_within g.met.S.Sink.along_both (trace_lines back.bytes back.rows.items) c.in_ok-add_number.ensures c.in_err-add_summary.ensures refl)
      c.from_residual-in_err-add_summary.result c.from_residual-in_err-add_summary.ensures.1;
}

pub returns : goal.returns
returns g c = record {
  adds =
      adds_more g.met.S.Sink.along_both (adds_more g.met.S.Sink.along_both c.in_ok-add_number.ensures c.in_ok-add_summary.ensures) c.add_trace.ensures;
}
