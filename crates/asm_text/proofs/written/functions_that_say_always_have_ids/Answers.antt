use Rattle.asm_text.proofs.WrittenIds.{all_have_ids}
use Rattle.asm_text.proofs.written.functions_that_say_always_have_ids.Goals as goal

pub returns : goal.returns
returns c = all_have_ids
