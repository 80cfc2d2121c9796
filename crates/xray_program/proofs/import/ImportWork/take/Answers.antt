use Rattle.xray_program.specs.Inputs.{imported_form}
use Rattle.xray_program.proofs.TakenInputs.{only_input}
use Rattle.xray_program.proofs.import.ImportWork.take.Goals as goal

pub returns-clause-turns : goal.returns-clause-turns
returns-clause-turns g c =
    let s = c.args.self.now in
    only_input imported_form s.log.now _ _ c.take.result c.take.ensures.turn
