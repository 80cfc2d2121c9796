use Rattle.xray_io.proofs.ItemTexts.{adds_broken, adds_next}
use Rattle.xray_io.specs.Text.{adds_nothing}
use Rattle.xray_io.proofs.text.EachPrinted.add_to.Goals as goal

pub loop-value-init : goal.loop-value-init
loop-value-init g c = adds_nothing g.met.S.Sink.along_none c.args.to.now

pub loop-value-preserved : goal.loop-value-preserved
loop-value-preserved g c =
    adds_next g.met.S.Sink.along_both g.T.Printed.text c.args.self.now.0.now c.loop-value.value-index _ c.value-item.result c.loop-value-test.true c.value-item.is
    c.loop-value.invariant c.in_ok-add_to.ensures.adds

pub returns-in_err-add_to : goal.returns-in_err-add_to
returns-in_err-add_to g c = record {
  adds =
      adds_broken g.met.S.Sink.along_both g.T.Printed.text c.args.self.now.0.now c.loop-value.value-index _ c.value-item.result c.loop-value-test.true c.value-item.is
      c.loop-value.invariant c.in_err-add_to.ensures.adds c.from_residual.result c.from_residual.ensures.1;
}
