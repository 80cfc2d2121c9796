use Rattle.std.proofs.Common.{◌≡◌, ℕ, ◌+◌, ◌<◌, List, length, get_or, set, sym, ap, ◌∙◌, subst, get_or-set_other, get_or-set_same, arith}
use mathlib.Core.Logic.{dite}
use mathlib.Core.Option.{some}
use native.Mathlib.Decide.{ℕ_discrete}
use lib.ListN.{get_elem?}
use Rattle.sled_words.specs.Words.{progress_word}
use Rattle.sled_rule.specs.Plans.{IsCodeIn}
use Rattle.sled_rule.specs.Slots.{code_slot, progress_slot}
use Rattle.sled_rule.proofs.closing.copy_words.Goals as goal

-- one more word is copied to its number
copied : (items into : List ℕ) (at value slot number own : ℕ) → at < length into → get_elem? items slot ≡ some value → number < at + 1
    → (number < at → get_elem? items own ≡ some (get_or into number 0)) → (number ≡ at → slot ≡ own)
    → get_elem? items own ≡ some (get_or (set into at value) number 0)
copied items into at value slot number own inside read below so_far slot_is = dite (ℕ_discrete number at)
    (λ here.
    ap (get_elem? items) (sym (slot_is here)) ∙ (read ∙ ap some (sym (get_or-set_same into at value 0 inside) ∙ ap (λ (i : ℕ). get_or (set into at value) i 0) (sym here))))
    (λ other. so_far (omega arith) ∙ ap some (sym (get_or-set_other into at number value 0 other)))

pub overflow_cast-word : goal.overflow_cast-word
overflow_cast-word c =
    let few = c.requires.few in let numbers = c.requires.room.3 in omega arith

pub loop-word-preserved : goal.loop-word-preserved
loop-word-preserved c =
    let at = c.loop-word.word in
    let inside : at < length c.loop-word.into = omega arith in record {
      code = λ plan word counted all is below. copied _ c.loop-word.into at c.word.result c.slot_of.result word (code_slot plan word) inside c.word.ensures below
          (λ lt. c.loop-word.invariant.code plan word counted all is lt)
          (λ here. c.slot_of.ensures.code plan counted all (subst (IsCodeIn plan) here is) ∙ ap (code_slot plan) (sym here));
      progress = λ plan thread counted all first last below. copied _ c.loop-word.into at c.word.result c.slot_of.result (progress_word plan.program plan.threads thread)
          (progress_slot plan thread) inside c.word.ensures below
          (λ lt. c.loop-word.invariant.progress plan thread counted all first last lt)
          (λ here. c.slot_of.ensures.progress plan thread counted all first last (sym here));
    }
