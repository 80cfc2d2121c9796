use Rattle.std.proofs.Common.{◌++◌, ◌∙◌, ℕ, List, ap}
use Rattle.function_names.specs.Name.{naming}
use Rattle.std.proofs.lemmas.Option.{same_Some}
use Rattle.xray_io.specs.Writes.{text_of_writes}
use Rattle.trace_forms.specs.TraceEvents.{trace_events_text}
use Rattle.trace_forms.proofs.trace_events.gather.Goals as goal

pub returns-in-Ok : goal.returns-in-Ok
returns-in-Ok c =
    let text = trace_events_text (naming c.args.events.now.names) c.args.events.now.trace.now in
    c.into_vec.ensures
    ∙ (same_Some _ _ (text_of_writes c.in-Ok.ensures.writes).told ∙ ap (λ (before : List ℕ). before ++ text) c.new-sink.ensures)
