use Rattle.std.proofs.Common.{◌++◌, append_assoc, refl, sym}
use Rattle.std.specs.Prelude.{codes}
use Rattle.xray_io.specs.Text.{adds_failed, adds_more, adds_stop, adds_within}
use Rattle.flame_graph.specs.FlameText.{baseline_text, shortened}
use Rattle.flame_graph.proofs.line.add_text.Goals as goal

pub returns-in_err-add_baseline : goal.returns-in_err-add_baseline
returns-in_err-add_baseline g c =
    let baseline = baseline_text c.args.left c.args.bottom in
    let name = shortened c.args.room c.args.name.now in
    adds_failed (rw (sym (append_assoc baseline name (codes "</text></g>\n"))) at (adds_stop (name ++ codes "</text></g>\n") c.in_err-add_baseline.ensures)) c.from_residual.result c.from_residual.ensures.1

pub returns-in_err-add_shortened : goal.returns-in_err-add_shortened
returns-in_err-add_shortened g c =
    adds_failed (adds_within g.met.S.Sink.along_both (codes "</text></g>\n") c.in_ok-add_baseline.ensures c.in_err-add_shortened.ensures refl)
    c.from_residual-in_err-add_shortened.result c.from_residual-in_err-add_shortened.ensures.1

pub returns : goal.returns
returns g c = adds_more g.met.S.Sink.along_both (adds_more g.met.S.Sink.along_both c.in_ok-add_baseline.ensures c.in_ok-add_shortened.ensures) c.bytes.ensures.adds
