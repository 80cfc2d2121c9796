use Rattle.std.proofs.Common.{◌++◌, ◌+◌, append_assoc, refl, sym}
use Rattle.xray_io.specs.Text.{adds_failed, adds_more, adds_stop, adds_within}
use Rattle.flame_graph.specs.FlameText.{colour_text, corner_text, size_text}
use Rattle.flame_graph.proofs.line.add_box.Goals as goal

pub returns-in_err-add_corner : goal.returns-in_err-add_corner
returns-in_err-add_corner g c =
    let place = c.args.place.now in
    let corner = corner_text (place.left + 10000) place.top in
    let size = size_text place.width in
    let colour = colour_text c.args.id in
    adds_failed (rw (sym (append_assoc corner size colour)) at (adds_stop (size ++ colour) c.in_err-add_corner.ensures)) c.from_residual.result c.from_residual.ensures.1

pub returns-in_err-add_size : goal.returns-in_err-add_size
returns-in_err-add_size g c =
    adds_failed (adds_within g.met.S.Sink.along_both (colour_text c.args.id) c.in_ok-add_corner.ensures c.in_err-add_size.ensures refl)
    c.from_residual-in_err-add_size.result c.from_residual-in_err-add_size.ensures.1

pub returns : goal.returns
returns g c = adds_more g.met.S.Sink.along_both (adds_more g.met.S.Sink.along_both c.in_ok-add_corner.ensures c.in_ok-add_size.ensures) c.add_colour.ensures
