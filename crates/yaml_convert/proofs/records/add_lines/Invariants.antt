use Rattle.std.proofs.Common.{◌≡◌, ◌++◌, List, Ok, length}
use Rattle.std.specs.List.{flat_map}
use Rattle.xray_io.specs.Text.{AddsText}
use Rattle.fdr_file.specs.ThreadEvents.{ThreadEvent}
use Rattle.yaml_convert.specs.Yaml.{event_line}
use Rattle.function_names.specs.Name.{naming}
use Rattle.yaml_convert.proofs.records.add_lines.Given as goal

abbrev pub invariant-lines : goal.invariant-lines
invariant-lines g l = (given : List ThreadEvent) × (g.E.EventSource.left l.fn.events ≡ given ++ g.E.EventSource.left l.events)
    × AddsText g.S.Sink.written g.S.Sink.faults g.S.Sink.along l.fn.text l.text
    (flat_map (event_line (naming l.names)) given) (Ok tt)

abbrev pub decreases-lines : goal.decreases-lines
decreases-lines g l = length (g.E.EventSource.left l.events)
