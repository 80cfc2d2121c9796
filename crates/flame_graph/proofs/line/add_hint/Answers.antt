use Rattle.std.proofs.Common.{◌++◌, append_assoc, refl, sym}
use Rattle.std.specs.Prelude.{codes}
use Rattle.xray_io.specs.Text.{adds_failed, adds_more, adds_stop, adds_within}
use Rattle.flame_graph.specs.FlameText.{calls_text, xml_text}
use Rattle.flame_graph.proofs.line.add_hint.Goals as goal

pub returns-in_err-bytes : goal.returns-in_err-bytes
returns-in_err-bytes g c =
    let name = xml_text c.args.name.now in
    let calls = calls_text c.args.calls.now in
    adds_failed (rw (sym (append_assoc (codes "<g><title>") name calls)) at (adds_stop (name ++ calls) c.in_err-bytes.ensures.adds)) c.from_residual.result c.from_residual.ensures.1

pub returns-in_err-add_xml : goal.returns-in_err-add_xml
returns-in_err-add_xml g c =
    adds_failed (adds_within g.met.S.Sink.along_both (calls_text c.args.calls.now) c.in_ok-bytes.ensures.adds c.in_err-add_xml.ensures refl)
    c.from_residual-in_err-add_xml.result c.from_residual-in_err-add_xml.ensures.1

pub returns : goal.returns
returns g c = adds_more g.met.S.Sink.along_both (adds_more g.met.S.Sink.along_both c.in_ok-bytes.ensures.adds c.in_ok-add_xml.ensures) c.add_calls.ensures
