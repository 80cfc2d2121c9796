use Rattle.std.proofs.Common.{◌++◌, sym, refl, append_assoc}
use Rattle.std.specs.List.{flat_map}
use Rattle.xray_io.specs.Text.{adds_more, adds_stop, adds_within, adds_failed}
use Rattle.function_names.specs.Name.{byte_text}
use Rattle.function_names.proofs.form.add_between.Goals as goal

pub returns-in_err-bytes : goal.returns-in_err-bytes
returns-in_err-bytes g c =
    let marks = c.args.marks.now in
    let name = flat_map (byte_text c.args.form) c.args.name.now in
    adds_failed (rw (sym (append_assoc marks name marks)) at (adds_stop (name ++ marks) c.in_err-bytes.ensures.adds))
    c.from_residual.result c.from_residual.ensures.1

pub returns-in_err-add_bytes : goal.returns-in_err-add_bytes
returns-in_err-add_bytes g c =
    adds_failed (adds_within g.met.S.Sink.along_both c.args.marks.now c.in_ok-bytes.ensures.adds c.in_err-add_bytes.ensures refl)
    c.from_residual-in_err-add_bytes.result c.from_residual-in_err-add_bytes.ensures.1

pub returns : goal.returns
returns g c =
    adds_more g.met.S.Sink.along_both (adds_more g.met.S.Sink.along_both c.in_ok-bytes.ensures.adds c.in_ok-add_bytes.ensures) c.bytes-2.ensures.adds
