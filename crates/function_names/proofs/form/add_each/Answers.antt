use Rattle.std.proofs.Common.{refl}
use Rattle.xray_io.proofs.ItemTexts.{adds_broken, adds_next}
use Rattle.function_names.specs.Name.{byte_text}
use Rattle.function_names.proofs.form.add_each.Goals as goal

pub bytes-preserved : goal.bytes-preserved
bytes-preserved g c =
    adds_next g.met.S.Sink.along_both (byte_text c.args.form) c.args.name.now c.bytes.byte-index _ _ c.bytes-test.true refl
    c.bytes.invariant c.in_ok-add_byte.ensures

pub returns-in_err-add_byte : goal.returns-in_err-add_byte
returns-in_err-add_byte g c =
    adds_broken g.met.S.Sink.along_both (byte_text c.args.form) c.args.name.now c.bytes.byte-index _ _ c.bytes-test.true refl
    c.bytes.invariant c.in_err-add_byte.ensures c.from_residual.result c.from_residual.ensures.1
