use Rattle.std.proofs.Common.{List, Ok, ap, subst, sym}
use Rattle.function_names.specs.Name.{naming}
use Rattle.fdr_file.specs.ThreadEvents.{ThreadEvent}
use Rattle.xray_io.specs.Text.{AddsText, adds_failed, adds_more, adds_nothing, adds_stop}
use Rattle.trace_forms.specs.private.Texts.{later_json, list_json}
use Rattle.trace_forms.proofs.trace_events.add_list.Goals as goal

pub returns-in-None : goal.returns-in-None
returns-in-None g c =
    let names = naming c.args.names in
    subst (λ (events : List ThreadEvent). AddsText g.S.Sink.written g.S.Sink.faults g.S.Sink.along c.args.text.now c.args.text.now (list_json names events) (Ok tt))
    (sym c.in-None.ensures) (adds_nothing g.met.S.Sink.along_none c.args.text.now)

pub returns-in_err-add_event-in-Some : goal.returns-in_err-add_event-in-Some
returns-in_err-add_event-in-Some g c =
    let names = naming c.args.names in
    let whole = ap (list_json names) (sym c.in-Some.ensures) in
    adds_failed (rw whole at (adds_stop (later_json names (g.E.EventSource.left c.next_event.new.self)) c.in_err-add_event-in-Some.ensures))
    c.from_residual.result c.from_residual.ensures.1

pub returns-in_ok-add_event-in-Some : goal.returns-in_ok-add_event-in-Some
returns-in_ok-add_event-in-Some g c =
    let names = naming c.args.names in
    subst (λ (events : List ThreadEvent). AddsText g.S.Sink.written g.S.Sink.faults g.S.Sink.along c.args.text.now c.add_later.new.text (list_json names events) c.add_later.result)
    (sym c.in-Some.ensures) (adds_more g.met.S.Sink.along_both c.in_ok-add_event-in-Some.ensures c.add_later.ensures)
