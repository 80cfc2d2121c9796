use Rattle.program_map.specs.Programs.{program_held}
use Rattle.xray_program.specs.Inputs.{program_form}
use Rattle.xray_program.proofs.KeptForms.{only_kept_input}
use Rattle.xray_program.proofs.map_program.MapProgramWork.take.Goals as goal

pub returns-clause-turns : goal.returns-clause-turns
returns-clause-turns g c =
    let s = c.args.self.now in
    only_kept_input program_form program_held s.program.now _ _ c.take.result c.take.ensures.turn
