use Rattle.std.proofs.Common.{List, ℕ, ap, sym, subst}
use Rattle.std.specs.List.{flat_map}
use Rattle.xray_io.specs.Text.{AddsText, adds_failed, adds_more, adds_stop, adds_within}
use Rattle.fdr_file.specs.ThreadEvents.{ThreadEvent}
use Rattle.yaml_convert.specs.Yaml.{event_line, records_text}
use Rattle.yaml_convert.proofs.YamlLines.{first_line}
use Rattle.function_names.specs.Name.{naming}
use Rattle.yaml_convert.proofs.records.add_records.Goals as goal

pub returns-in-None : goal.returns-in-None
returns-in-None g c =
    let names = naming c.args.names in
    subst (λ (t : List ℕ). AddsText g.S.Sink.written g.S.Sink.faults g.S.Sink.along c.args.text.now c.bytes.new.self t c.bytes.result)
    (ap (records_text names) (sym c.in-None.ensures)) c.bytes.ensures.adds

pub returns-in_err-bytes-in-Some : goal.returns-in_err-bytes-in-Some
returns-in_err-bytes-in-Some g c =
    let names = naming c.args.names in
    let e : ThreadEvent = record { thread = c.in-Some.thread; pid = c.in-Some.pid; event = c.in-Some.event } in
    let later = flat_map (event_line names) (g.E.EventSource.left c.next_event.new.self) in
    adds_failed (rw (first_line names _ _ e c.in-Some.ensures) at (adds_stop later (adds_stop (event_line names e) c.in_err-bytes-in-Some.ensures.adds)))
    c.from_residual.result c.from_residual.ensures.1

pub returns-in_err-add_event-in-Some : goal.returns-in_err-add_event-in-Some
returns-in_err-add_event-in-Some g c =
    let names = naming c.args.names in
    let e : ThreadEvent = record { thread = c.in-Some.thread; pid = c.in-Some.pid; event = c.in-Some.event } in
    adds_failed (adds_within g.met.S.Sink.along_both (flat_map (event_line names) (g.E.EventSource.left c.next_event.new.self)) c.in_ok-bytes-in-Some.ensures.adds
    c.in_err-add_event-in-Some.ensures (first_line names _ _ e c.in-Some.ensures))
    c.from_residual-in_err-add_event-in-Some.result c.from_residual-in_err-add_event-in-Some.ensures.1

pub returns-in_ok-add_event-in-Some : goal.returns-in_ok-add_event-in-Some
returns-in_ok-add_event-in-Some g c =
    let names = naming c.args.names in
    let e : ThreadEvent = record { thread = c.in-Some.thread; pid = c.in-Some.pid; event = c.in-Some.event } in
    subst (λ (t : List ℕ). AddsText g.S.Sink.written g.S.Sink.faults g.S.Sink.along c.args.text.now c.add_lines.new.text t c.add_lines.result)
    (first_line names _ _ e c.in-Some.ensures)
    (adds_more g.met.S.Sink.along_both (adds_more g.met.S.Sink.along_both c.in_ok-bytes-in-Some.ensures.adds c.in_ok-add_event-in-Some.ensures) c.add_lines.ensures)
