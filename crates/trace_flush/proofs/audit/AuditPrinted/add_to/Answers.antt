use Rattle.std.proofs.Common.{◌++◌, sym, refl, append_assoc}
use Rattle.std.specs.List.{flat_map}
use Rattle.xray_io.specs.Text.{adds_more, adds_stop, adds_within, adds_failed}
use Rattle.trace_flush.specs.Audit.{thread_audits, recycled_by, recycled_line, setup_lines, thread_lines}
use Rattle.trace_flush.proofs.audit.AuditPrinted.add_to.Goals as goal

pub returns-in_err-add_setup : goal.returns-in_err-add_setup
returns-in_err-add_setup g c = record {
  adds =
      let told = thread_audits c.args.self.now.lines.now c.args.self.now.cpus.now in
      let threads = flat_map thread_lines told in
      let recycled = recycled_line (recycled_by c.args.self.now.lines.now) in
      let broken = adds_stop (threads ++ recycled) c.in_err-add_setup.ensures in
      adds_failed (rw (sym (append_assoc (setup_lines c.args.self.now.setup.now) threads recycled)) at broken) c.from_residual.result c.from_residual.ensures.1;
}

pub returns-in_err-add_threads : goal.returns-in_err-add_threads
returns-in_err-add_threads g c = record {
  adds =
      let recycled = recycled_line (recycled_by c.args.self.now.lines.now) in
      adds_failed (adds_within g.met.S.Sink.along_both recycled c.in_ok-add_setup.ensures c.in_err-add_threads.ensures refl)
      c.from_residual-in_err-add_threads.result c.from_residual-in_err-add_threads.ensures.1;
}

pub returns : goal.returns
returns g c = record {
  adds = adds_more g.met.S.Sink.along_both (adds_more g.met.S.Sink.along_both c.in_ok-add_setup.ensures c.in_ok-add_threads.ensures) c.add_recycled.ensures;
}
