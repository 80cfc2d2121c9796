use Rattle.std.proofs.Common.{◌++◌, ◌∙◌, ℕ, List, subst}
use Rattle.function_names.specs.Name.{naming, plain_name}
use Rattle.json.specs.Print.{escape}
use Rattle.fdr_file.specs.ThreadEvents.{ThreadEvent}
use Rattle.xray_io.specs.Text.{AddsText, adds_failed, adds_more, adds_stop, adds_within}
use Rattle.trace_forms.specs.private.Texts.{event_end}
use Rattle.trace_forms.proofs.Rows.{event_parts, event_parts_left}
use Rattle.trace_forms.proofs.trace_events.add_event.Goals as goal

pub returns-in_err-bytes : goal.returns-in_err-bytes
returns-in_err-bytes g c =
    let names = naming c.args.names in
    let before = c.args.before.now in
    let e : ThreadEvent = record { thread = c.args.thread; pid = c.args.pid; event = c.args.event.now } in
    let name = escape (plain_name names e.event.func) in
    let same = c.as_slice.ensures ∙ c.put_start.ensures in
    adds_failed (rw (event_parts before names e) at (adds_stop (name ++ event_end e) (rw same at c.in_err-bytes.ensures.adds)))
    c.from_residual.result c.from_residual.ensures.1

pub returns-in_err-add_escaped_name : goal.returns-in_err-add_escaped_name
returns-in_err-add_escaped_name g c =
    let names = naming c.args.names in
    let before = c.args.before.now in
    let e : ThreadEvent = record { thread = c.args.thread; pid = c.args.pid; event = c.args.event.now } in
    let same = c.as_slice.ensures ∙ c.put_start.ensures in
    adds_failed (adds_within g.met.S.Sink.along_both (event_end e) (rw same at c.in_ok-bytes.ensures.adds) c.in_err-add_escaped_name.ensures
    (event_parts_left before names e)) c.from_residual-in_err-add_escaped_name.result c.from_residual-in_err-add_escaped_name.ensures.1

pub returns : goal.returns
returns g c =
    let names = naming c.args.names in
    let before = c.args.before.now in
    let e : ThreadEvent = record { thread = c.args.thread; pid = c.args.pid; event = c.args.event.now } in
    let same = c.as_slice.ensures ∙ c.put_start.ensures in
    subst (λ (t : List ℕ). AddsText g.S.Sink.written g.S.Sink.faults g.S.Sink.along c.args.text.now c.add_end.new.text t c.add_end.result)
    (event_parts_left before names e)
    (adds_more g.met.S.Sink.along_both (adds_more g.met.S.Sink.along_both (rw same at c.in_ok-bytes.ensures.adds) c.in_ok-add_escaped_name.ensures) c.add_end.ensures)
