use Rattle.xray_program.specs.Inputs.{image_form}
use Rattle.xray_program.proofs.TakenInputs.{only_input}
use Rattle.xray_program.proofs.extract.ExtractWork.take.Goals as goal

pub returns-clause-turns : goal.returns-clause-turns
returns-clause-turns g c =
    let s = c.args.self.now in
    only_input image_form s.image.now _ _ c.take.result c.take.ensures.turn
