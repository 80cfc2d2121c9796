use Rattle.std.proofs.Common.{◌∙◌, List, ℕ, ap, ap₂, subst, sym}
use Rattle.xray_io.specs.Text.{AddsText}
use Rattle.trace_forms.specs.BasicLogs.{log_bytes, log_read, wide_cpu}
use Rattle.trace_forms.proofs.of_bytes.BasicBytesPrinted.add_to.Goals as goal

pub add_log-requires : goal.add_log-requires
add_log-requires g c = ap wide_cpu (c.new-cursor.ensures.events c.requires.ready.0 c.requires.ready.1) ∙ c.requires.ready.2

pub returns : goal.returns
returns g c = record {
  adds =
      let trace = c.requires.ready.0 in
      let read = c.requires.ready.1 in
      let same =
      ap₂ log_bytes (c.header-header.ensures ∙ c.new-cursor.ensures.header trace read) (c.new-cursor.ensures.events trace read) ∙ ap log_read (sym read) in
      subst (λ (t : List ℕ). AddsText g.S.Sink.written g.S.Sink.faults g.S.Sink.along c.args.to.now c.add_log.new.text t c.add_log.result) same c.add_log.ensures;
}
