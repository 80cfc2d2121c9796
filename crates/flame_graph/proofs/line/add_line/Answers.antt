use Rattle.std.proofs.Common.{◌++◌, append_assoc, refl, sym}
use Rattle.xray_io.specs.Text.{adds_failed, adds_more, adds_stop, adds_within}
use Rattle.flame_graph.specs.FlameText.{box_text, hint_text, label_text}
use Rattle.flame_graph.proofs.line.add_line.Goals as goal

pub returns-in_err-add_hint : goal.returns-in_err-add_hint
returns-in_err-add_hint g c =
    let place = c.args.place.now in
    let hint = hint_text c.args.name.now c.args.calls.now in
    let box = box_text place.left place.width place.top c.args.func in
    let label = label_text place.left place.width place.top c.args.name.now in
    adds_failed (rw (sym (append_assoc hint box label)) at (adds_stop (box ++ label) c.in_err-add_hint.ensures)) c.from_residual.result c.from_residual.ensures.1

pub returns-in_err-add_box : goal.returns-in_err-add_box
returns-in_err-add_box g c =
    let place = c.args.place.now in
    let label = label_text place.left place.width place.top c.args.name.now in
    adds_failed (rw c.from.ensures at (adds_within g.met.S.Sink.along_both label c.in_ok-add_hint.ensures c.in_err-add_box.ensures refl)) c.from_residual-in_err-add_box.result c.from_residual-in_err-add_box.ensures.1

pub returns : goal.returns
returns g c = rw c.from.ensures at (adds_more g.met.S.Sink.along_both (adds_more g.met.S.Sink.along_both c.in_ok-add_hint.ensures c.in_ok-add_box.ensures) c.add_label.ensures)
