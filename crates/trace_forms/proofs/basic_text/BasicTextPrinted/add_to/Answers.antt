use Rattle.std.proofs.Common.{◌∙◌, List, ap, subst}
use Rattle.fdr_file.specs.ThreadEvents.{ThreadEvent}
use Rattle.xray_io.specs.Text.{AddsText}
use Rattle.trace_forms.specs.BasicLogs.{log_bytes, wide_cpu}
use Rattle.trace_forms.proofs.basic_text.BasicTextPrinted.add_to.Goals as goal

pub add_log-requires : goal.add_log-requires
add_log-requires g c = ap wide_cpu c.new.ensures ∙ c.requires.ready

pub returns : goal.returns
returns g c = record {
  adds =
      subst (λ (events : List ThreadEvent). AddsText g.S.Sink.written g.S.Sink.faults g.S.Sink.along c.args.to.now c.add_log.new.text
      (log_bytes c.args.self.now.trace.now.header events) c.add_log.result) c.new.ensures c.add_log.ensures;
}
