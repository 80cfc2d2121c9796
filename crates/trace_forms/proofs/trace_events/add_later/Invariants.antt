use Rattle.std.proofs.Common.{◌≡◌, ◌++◌, List, Ok, length}
use Rattle.function_names.specs.Name.{naming}
use Rattle.xray_io.specs.Text.{AddsText}
use Rattle.fdr_file.specs.ThreadEvents.{ThreadEvent}
use Rattle.trace_forms.specs.private.Texts.{later_json}
use Rattle.trace_forms.proofs.trace_events.add_later.Given as goal

abbrev pub invariant-objects : goal.invariant-objects
invariant-objects g l = (given : List ThreadEvent) × (g.E.EventSource.left l.fn.events ≡ given ++ g.E.EventSource.left l.events)
    × AddsText g.S.Sink.written g.S.Sink.faults g.S.Sink.along l.fn.text l.text
    (later_json (naming l.names) given) (Ok tt)

abbrev pub decreases-objects : goal.decreases-objects
decreases-objects g l = length (g.E.EventSource.left l.events)
