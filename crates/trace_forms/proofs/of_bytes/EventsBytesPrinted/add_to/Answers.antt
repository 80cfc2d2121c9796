use Rattle.std.proofs.Common.{◌∙◌, List, ℕ, ap, subst, sym}
use Rattle.function_names.specs.Name.{naming}
use Rattle.xray_io.specs.Text.{AddsText}
use Rattle.trace_forms.specs.TraceEvents.{events_read, events_text}
use Rattle.trace_forms.proofs.of_bytes.EventsBytesPrinted.add_to.Goals as goal

pub returns : goal.returns
returns g c = record {
  adds =
      let names = naming c.args.self.now.names in
      let trace = c.requires.ready.0 in
      let read = c.requires.ready.1 in
      let same = ap (events_text names) (c.new.ensures.events trace read) ∙ ap (events_read names) (sym read) in
      subst (λ (t : List ℕ). AddsText g.S.Sink.written g.S.Sink.faults g.S.Sink.along c.args.to.now c.add_events.new.text t c.add_events.result) same c.add_events.ensures;
}
