-- Slots of words are apart.
use Rattle.std.proofs.Common.{◌≡◌, ℕ, ◌<◌, inl, inr, arith}
use Rattle.patch_script.specs.Plans.{Plan}
use Rattle.sled_rule.specs.Plans.{IsCodeIn, words_in}
use Rattle.sled_rule.specs.Slots.{code_slot, progress_slot}

pub slot_within : (plan : Plan) (word : ℕ) → IsCodeIn plan word → code_slot plan word < words_in plan
unfolding code_slot words_in
slot_within plan word (inl low) = omega arith
slot_within plan word (inr last) = omega arith

pub one_slot : (plan : Plan) (word other : ℕ) → IsCodeIn plan word → IsCodeIn plan other → code_slot plan word ≡ code_slot plan other → word ≡ other
unfolding code_slot
one_slot plan word other is there same = same

pub slots_apart : (plan : Plan) (word thread : ℕ) → IsCodeIn plan word → progress_slot plan thread ≡ code_slot plan word → ⊥
slots_apart plan word thread is same = let within = slot_within plan word is in omega arith
