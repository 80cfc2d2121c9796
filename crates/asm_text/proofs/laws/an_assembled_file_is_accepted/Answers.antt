use Rattle.asm_text.proofs.ProgramLaw.{accepted_image}
use Rattle.asm_text.proofs.laws.an_assembled_file_is_accepted.Goals as goal

pub returns : goal.returns
returns c = accepted_image
