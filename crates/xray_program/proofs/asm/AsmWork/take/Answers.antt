use Rattle.xray_program.specs.Inputs.{text_form}
use Rattle.xray_program.proofs.TakenInputs.{only_input}
use Rattle.xray_program.proofs.asm.AsmWork.take.Goals as goal

pub returns-clause-turns : goal.returns-clause-turns
returns-clause-turns g c =
    let s = c.args.self.now in
    only_input (text_form s.threshold s.relative) s.text.now _ _ c.take.result c.take.ensures.turn
