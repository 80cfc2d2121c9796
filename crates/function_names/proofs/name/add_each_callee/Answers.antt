use Rattle.std.proofs.Common.{refl}
use Rattle.xray_io.proofs.ItemTexts.{adds_broken, adds_next}
use Rattle.function_names.specs.Name.{callee_text, naming}
use Rattle.function_names.proofs.name.add_each_callee.Goals as goal

pub callees-preserved : goal.callees-preserved
callees-preserved g c =
    adds_next g.met.S.Sink.along_both (callee_text (naming c.args.names)) c.args.ids.now c.callees.id-index _ _ c.callees-test.true refl
    c.callees.invariant c.in_ok-add_callee.ensures

pub returns-in_err-add_callee : goal.returns-in_err-add_callee
returns-in_err-add_callee g c =
    adds_broken g.met.S.Sink.along_both (callee_text (naming c.args.names)) c.args.ids.now c.callees.id-index _ _ c.callees-test.true refl
    c.callees.invariant c.in_err-add_callee.ensures c.from_residual.result c.from_residual.ensures.1
