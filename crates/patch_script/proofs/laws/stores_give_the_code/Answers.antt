use Rattle.patch_script.proofs.WordValues.{code_at_first, code_at_next, code_stored}
use Rattle.patch_script.proofs.laws.stores_give_the_code.Goals as goal

pub returns : goal.returns
returns c = record { first = code_at_first; next = code_stored; word = code_at_next }
