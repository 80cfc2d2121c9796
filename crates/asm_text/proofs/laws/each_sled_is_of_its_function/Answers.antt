use Rattle.asm_text.proofs.SledNames.{sled_named}
use Rattle.asm_text.proofs.laws.each_sled_is_of_its_function.Goals as goal

pub returns : goal.returns
returns c = sled_named
