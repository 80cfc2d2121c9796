use Rattle.std.proofs.Common.{◌++◌, ℕ, List, subst}
use Rattle.std.specs.Prelude.{codes}
use Rattle.function_names.specs.Name.{naming}
use Rattle.xray_io.specs.Text.{AddsText, adds_failed, adds_more, adds_stop, adds_within}
use Rattle.trace_forms.specs.private.Texts.{list_json}
use Rattle.trace_forms.proofs.JsonTexts.{whole, whole_left}
use Rattle.trace_forms.proofs.trace_events.add_events.Goals as goal

pub returns-in_err-bytes : goal.returns-in_err-bytes
returns-in_err-bytes g c =
    let names = naming c.args.names in
    let events = g.E.EventSource.left c.args.events.now in
    adds_failed (rw (whole names events) at (adds_stop (list_json names events ++ codes "]}\n") c.in_err-bytes.ensures.adds))
    c.from_residual.result c.from_residual.ensures.1

pub returns-in_err-add_list : goal.returns-in_err-add_list
returns-in_err-add_list g c =
    let names = naming c.args.names in
    adds_failed (adds_within g.met.S.Sink.along_both (codes "]}\n") c.in_ok-bytes.ensures.adds c.in_err-add_list.ensures
    (whole_left names (g.E.EventSource.left c.args.events.now))) c.from_residual-in_err-add_list.result c.from_residual-in_err-add_list.ensures.1

pub returns : goal.returns
returns g c =
    let names = naming c.args.names in
    subst (λ (t : List ℕ). AddsText g.S.Sink.written g.S.Sink.faults g.S.Sink.along c.args.text.now c.bytes-2.new.self t c.bytes-2.result)
    (whole_left names (g.E.EventSource.left c.args.events.now))
    (adds_more g.met.S.Sink.along_both (adds_more g.met.S.Sink.along_both c.in_ok-bytes.ensures.adds c.in_ok-add_list.ensures) c.bytes-2.ensures.adds)
