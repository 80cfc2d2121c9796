use Rattle.std.proofs.Common.{◌++◌, append_assoc, refl, sym}
use Rattle.std.specs.Prelude.{codes}
use Rattle.xray_io.specs.Text.{adds_failed, adds_more, adds_stop, adds_within}
use Rattle.flame_graph.specs.FlameText.{start_text, total_text}
use Rattle.flame_graph.proofs.flame.add_head.Goals as goal

pub returns-in_err-add_start : goal.returns-in_err-add_start
returns-in_err-add_start g c =
    let start = start_text c.args.levels in
    let total = total_text c.args.frequency c.args.total in
    adds_failed (rw (sym (append_assoc start total (codes "</text>\n"))) at (adds_stop (total ++ codes "</text>\n") c.in_err-add_start.ensures)) c.from_residual.result c.from_residual.ensures.1

pub returns-in_err-add_total : goal.returns-in_err-add_total
returns-in_err-add_total g c =
    adds_failed (rw c.from.ensures at (adds_within g.met.S.Sink.along_both (codes "</text>\n") c.in_ok-add_start.ensures c.in_err-add_total.ensures refl))
    c.from_residual-in_err-add_total.result c.from_residual-in_err-add_total.ensures.1

pub returns : goal.returns
returns g c = rw c.from.ensures at (adds_more g.met.S.Sink.along_both (adds_more g.met.S.Sink.along_both c.in_ok-add_start.ensures c.in_ok-add_total.ensures) c.bytes.ensures.adds)
