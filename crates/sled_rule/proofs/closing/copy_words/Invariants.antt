-- the words so far are at their numbers
use Rattle.std.proofs.Common.{◌≡◌, ℕ, ◌<◌, ◌≤◌, get_or}
use Rattle.std.specs.Slots.{slots_items}
use mathlib.Core.Option.{some}
use lib.ListN.{get_elem?}
use Rattle.sled_words.specs.Words.{progress_word}
use Rattle.patch_script.specs.Plans.{Plan}
use Rattle.sled_rule.specs.Plans.{IsCodeIn, words_in}
use Rattle.sled_rule.specs.Slots.{code_slot, progress_slot}
use Rattle.sled_rule.proofs.closing.copy_words.Given as goal

abbrev pub invariant-loop-word : goal.invariant-loop-word
invariant-loop-word l = record {
  code : (plan : Plan) (word : ℕ) → l.word_len ≡ words_in plan → l.threads ≡ plan.threads → IsCodeIn plan word → word < l.word
      → get_elem? (slots_items l.closed.words) (code_slot plan word) ≡ some (get_or l.into word 0);
  progress : (plan : Plan) (thread : ℕ) → l.word_len ≡ words_in plan → l.threads ≡ plan.threads → 0 < thread → thread ≤ l.threads
      → progress_word plan.program plan.threads thread < l.word
      → get_elem? (slots_items l.closed.words) (progress_slot plan thread)
      ≡ some (get_or l.into (progress_word plan.program plan.threads thread) 0);
}
