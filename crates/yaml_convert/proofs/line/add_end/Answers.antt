use Rattle.std.proofs.Common.{◌∙◌, List, ℕ, subst}
use Rattle.xray_io.specs.Text.{AddsText, adds_more, adds_stop, adds_failed}
use Rattle.fdr_file.specs.ThreadEvents.{ThreadEvent}
use Rattle.yaml_convert.specs.private.Stamps.{happened_text}
use Rattle.yaml_convert.proofs.YamlLines.{end_whole}
use Rattle.yaml_convert.proofs.line.add_end.Goals as goal

pub returns-in_err-bytes : goal.returns-in_err-bytes
returns-in_err-bytes g c =
    let e : ThreadEvent = record { thread = c.args.thread; pid = c.args.pid; event = c.args.event.now } in
    let same = c.as_slice.ensures ∙ c.renew.ensures in
    adds_failed (rw (end_whole e) at (adds_stop (happened_text e.event) (rw same at c.in_err-bytes.ensures.adds)))
    c.from_residual.result c.from_residual.ensures.1

pub returns : goal.returns
returns g c =
    let e : ThreadEvent = record { thread = c.args.thread; pid = c.args.pid; event = c.args.event.now } in
    let stamped = c.as_slice.ensures ∙ c.renew.ensures in
    let said = c.as_slice-2.ensures ∙ c.put_happened.ensures in
    subst (λ (t : List ℕ). AddsText g.S.Sink.written g.S.Sink.faults g.S.Sink.along c.args.text.now c.bytes-2.new.self t c.bytes-2.result)
    (end_whole e) (adds_more g.met.S.Sink.along_both (rw stamped at c.in_ok-bytes.ensures.adds) (rw said at c.bytes-2.ensures.adds))
