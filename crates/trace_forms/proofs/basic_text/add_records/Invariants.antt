use Rattle.std.proofs.Common.{◌≡◌, ◌++◌, List, None, Ok, length}
use Rattle.std.specs.List.{flat_map}
use Rattle.xray_io.specs.Text.{AddsText}
use Rattle.fdr_file.specs.ThreadEvents.{ThreadEvent}
use Rattle.trace_forms.specs.BasicLogs.{event_bytes, wide_cpu}
use Rattle.trace_forms.proofs.basic_text.add_records.Given as goal

abbrev pub invariant-records : goal.invariant-records
invariant-records g l = (given : List ThreadEvent) × (g.E.EventSource.left l.fn.events ≡ given ++ g.E.EventSource.left l.events)
    × (wide_cpu (g.E.EventSource.left l.events) ≡ None)
    × AddsText g.S.Sink.written g.S.Sink.faults g.S.Sink.along l.fn.text l.text (flat_map event_bytes given) (Ok tt)

abbrev pub decreases-records : goal.decreases-records
decreases-records g l = length (g.E.EventSource.left l.events)
