use Rattle.std.proofs.Common.{List, subst}
use Rattle.function_names.specs.Name.{naming}
use Rattle.fdr_file.specs.ThreadEvents.{ThreadEvent}
use Rattle.xray_io.specs.Text.{AddsText}
use Rattle.trace_forms.specs.TraceEvents.{events_text}
use Rattle.trace_forms.proofs.trace_events.EventsTextPrinted.add_to.Goals as goal

pub returns : goal.returns
returns g c = record {
  adds =
      let names = naming c.args.self.now.names in
      subst (λ (events : List ThreadEvent). AddsText g.S.Sink.written g.S.Sink.faults g.S.Sink.along c.args.to.now c.add_events.new.text (events_text names events) c.add_events.result)
      c.new.ensures c.add_events.ensures;
}
