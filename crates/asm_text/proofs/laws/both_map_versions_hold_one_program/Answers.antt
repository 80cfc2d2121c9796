use Rattle.asm_text.proofs.ProgramLaw.{one_program}
use Rattle.asm_text.proofs.laws.both_map_versions_hold_one_program.Goals as goal

pub returns : goal.returns
returns c = one_program c.one_reading.ensures
