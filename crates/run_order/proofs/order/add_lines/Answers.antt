use Rattle.std.proofs.Common.{refl}
use Rattle.xray_io.proofs.ItemTexts.{adds_broken, adds_next}
use Rattle.run_order.specs.private.Texts.{line_text}
use Rattle.run_order.proofs.order.add_lines.Goals as goal

pub lines-preserved : goal.lines-preserved
lines-preserved g c =
    adds_next g.met.S.Sink.along_both line_text c.args.lines.now c.lines.turns-index _ _ c.lines-test.true refl c.lines.invariant
    c.in_ok-add_line.ensures

pub returns-in_err-add_line : goal.returns-in_err-add_line
returns-in_err-add_line g c =
    adds_broken g.met.S.Sink.along_both line_text c.args.lines.now c.lines.turns-index _ _ c.lines-test.true refl c.lines.invariant
    c.in_err-add_line.ensures c.from_residual.result c.from_residual.ensures.1
