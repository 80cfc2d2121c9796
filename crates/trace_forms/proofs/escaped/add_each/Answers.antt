use Rattle.std.proofs.Common.{refl}
use Rattle.json.specs.Print.{escape_byte}
use Rattle.xray_io.proofs.ItemTexts.{adds_broken, adds_next}
use Rattle.trace_forms.proofs.escaped.add_each.Goals as goal

pub escaping-preserved : goal.escaping-preserved
escaping-preserved g c =
    adds_next g.met.S.Sink.along_both escape_byte c.args.bytes.now c.escaping.byte-index _ _ c.escaping-test.true refl c.escaping.invariant c.in_ok-add_byte.ensures

pub returns-in_err-add_byte : goal.returns-in_err-add_byte
returns-in_err-add_byte g c =
    adds_broken g.met.S.Sink.along_both escape_byte c.args.bytes.now c.escaping.byte-index _ _ c.escaping-test.true refl c.escaping.invariant c.in_err-add_byte.ensures
    c.from_residual.result c.from_residual.ensures.1
