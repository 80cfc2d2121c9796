use Rattle.std.proofs.Common.{arith}
use Rattle.sled_rule.specs.Slots.{code_slot}
use Rattle.sled_rule.proofs.slots.slot_of.Goals as goal

pub returns-then-is_code_word-clause-within : goal.returns-then-is_code_word-clause-within
unfolding code_slot
returns-then-is_code_word-clause-within c plan counted all =
    let slot = c.code_slot.ensures plan in let within = c.requires.within in omega arith
