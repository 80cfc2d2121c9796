-- The switches after a store.
use Rattle.std.proofs.Common.{◌≡◌, ℕ, ◌+◌, ◌%◌, ◌<◌, Bool, List, length, set, Some, sym, ap, subst, ◌∙◌, arith, inl, inr}
use Rattle.std.specs.Prelude.{slice_get}
use Rattle.std.proofs.lemmas.Option.{slice_get_within}
use Rattle.xray_image.specs.Program.{Program}
use Rattle.sled_words.specs.declared.part.Part.TheVariants.{Head}
use Rattle.sled_words.specs.Words.{arg_handler_word, handler_word, release_word, state_word, word_of}
use Rattle.audit_check.specs.declared.switches.Switches.{Switches}
use Rattle.audit_check.specs.declared.turns.Turns.{Turns}
use Rattle.audit_check.specs.private.Switches.{AreSwitches, AreTurnsOf, IsNext, IsOfWords, is_patched, is_recording, is_set}
use Rattle.audit_check.proofs.ScriptSwitches.{get_set, kept_turns}

-- a store in a word, at the last place of the switches
module _ (program : Program) (threads : ℕ) (code : ℕ → ℕ → ℕ) (last place : ℕ) (is : place ≡ last + 1) (s : Switches) (words : IsOfWords program threads s)
    (are : AreSwitches program threads code last s) (word value : ℕ) (next : IsNext code last word value) where
  pub value_at : code place word ≡ value
  value_at = ap (λ n. code n word) is ∙ next.stored

  -- the turns of another word
  other : (unlike : ℕ) (test : ℕ → Bool) (turns : Turns) → AreTurnsOf code last unlike test turns → (unlike ≡ word → ⊥) → AreTurnsOf code place unlike test turns
  other unlike test turns were differs =
      subst (λ n. AreTurnsOf code n unlike test turns) (sym is) (kept_turns code last unlike test turns were (next.others unlike differs))

  head_within : (k : ℕ) (turns : Turns) → slice_get s.heads.items k ≡ Some turns → k < length program.sleds
  head_within k turns at = let low = slice_get_within s.heads.items k turns at in omega (arith, low, words.sleds)

  release_within : (i : ℕ) (turns : Turns) → slice_get s.releases.items i ≡ Some turns → i < threads
  release_within i turns at = let low = slice_get_within s.releases.items i turns at in omega (arith, low, words.threads_are)

  other_heads : (handler_word program < word + 1) → (k : ℕ) (turns : Turns) → slice_get s.heads.items k ≡ Some turns
      → AreTurnsOf code place (word_of k Head) is_patched turns
  other_heads past k turns at =
      other (word_of k Head) is_patched turns (are.heads k turns at)
      (λ (e : word_of k Head ≡ word). let low = head_within k turns at in omega (arith, e, low, past))

  other_releases : ((i : ℕ) → i < threads → release_word program (i + 1) ≡ word → ⊥) → (i : ℕ) (turns : Turns) → slice_get s.releases.items i ≡ Some turns
      → AreTurnsOf code place (release_word program (i + 1)) is_set turns
  other_releases differ i turns at =
      other (release_word program (i + 1)) is_set turns (are.releases i turns at) (differ i (release_within i turns at))

  pub stored_handler : (new : Turns) → word ≡ handler_word program → AreTurnsOf code place word is_set new
      → AreSwitches program threads code place (record s { handler = new })
  stored_handler new here turned = record {
    heads = other_heads (omega (arith, here));
    handler = subst (λ n. AreTurnsOf code place n is_set new) here turned;
    log = other (state_word program) is_recording s.log are.log (λ (e : state_word program ≡ word). omega (arith, e, here));
    arg_handler = other (arg_handler_word program threads) is_set s.arg_handler are.arg_handler
        (λ (e : arg_handler_word program threads ≡ word). omega (arith, e, here));
    releases = other_releases (λ i low (e : release_word program (i + 1) ≡ word). omega (arith, e, here));
  }

  pub stored_log : (new : Turns) → word ≡ state_word program → AreTurnsOf code place word is_recording new
      → AreSwitches program threads code place (record s { log = new })
  stored_log new here turned = record {
    heads = other_heads (omega (arith, here));
    handler = other (handler_word program) is_set s.handler are.handler (λ (e : handler_word program ≡ word). omega (arith, e, here));
    log = subst (λ n. AreTurnsOf code place n is_recording new) here turned;
    arg_handler = other (arg_handler_word program threads) is_set s.arg_handler are.arg_handler
        (λ (e : arg_handler_word program threads ≡ word). omega (arith, e, here));
    releases = other_releases (λ i low (e : release_word program (i + 1) ≡ word). omega (arith, e, here));
  }

  pub stored_arg_handler : (new : Turns) → word ≡ arg_handler_word program threads → AreTurnsOf code place word is_set new
      → AreSwitches program threads code place (record s { arg_handler = new })
  stored_arg_handler new here turned = record {
    heads = other_heads (omega (arith, here));
    handler = other (handler_word program) is_set s.handler are.handler (λ (e : handler_word program ≡ word). omega (arith, e, here));
    log = other (state_word program) is_recording s.log are.log (λ (e : state_word program ≡ word). omega (arith, e, here));
    arg_handler = subst (λ n. AreTurnsOf code place n is_set new) here turned;
    releases = other_releases (λ i low (e : release_word program (i + 1) ≡ word). omega (arith, e, here, low));
  }

  -- the switches with the release words of other ones, of which one has new turns
  pub stored_release : (others : Switches) (at : ℕ) (new : Turns) → others.releases.items ≡ set s.releases.items at new → at < threads
      → word ≡ release_word program (at + 1) → AreTurnsOf code place word is_set new
      → AreSwitches program threads code place (record s { releases = others.releases })
  stored_release others at new are_new within here turned = record {
    heads = other_heads (omega (arith, here));
    handler = other (handler_word program) is_set s.handler are.handler (λ (e : handler_word program ≡ word). omega (arith, e, here));
    log = other (state_word program) is_recording s.log are.log (λ (e : state_word program ≡ word). omega (arith, e, here));
    arg_handler = other (arg_handler_word program threads) is_set s.arg_handler are.arg_handler
        (λ (e : arg_handler_word program threads ≡ word). omega (arith, e, here, within));
    releases = λ i turns found. elim (get_set s.releases.items at i turns new (subst (λ (l : List Turns). slice_get l i ≡ Some turns) are_new found)) [
      | inl (same, new_is) ↦
          subst (λ (t : Turns). AreTurnsOf code place (release_word program (i + 1)) is_set t) (sym new_is)
          (subst (λ n. AreTurnsOf code place n is_set new) (here ∙ ap (λ n. release_word program (n + 1)) (sym same)) turned)
      | inr (differs, old) ↦
          other (release_word program (i + 1)) is_set turns (are.releases i turns old)
          (λ (e : release_word program (i + 1) ≡ word). differs (omega (arith, e, here)))
    ];
  }

  -- the switches with the heads of other ones, of which one has new turns
  pub stored_head : (others : Switches) (at : ℕ) (new : Turns) → others.heads.items ≡ set s.heads.items at new → at < length program.sleds
      → word ≡ word_of at Head → AreTurnsOf code place word is_patched new → AreSwitches program threads code place (record s { heads = others.heads })
  stored_head others at new are_new within here turned = record {
    heads = λ k turns found. elim (get_set s.heads.items at k turns new (subst (λ (l : List Turns). slice_get l k ≡ Some turns) are_new found)) [
      | inl (same, new_is) ↦
          subst (λ (t : Turns). AreTurnsOf code place (word_of k Head) is_patched t) (sym new_is)
          (subst (λ n. AreTurnsOf code place n is_patched new) (here ∙ ap (λ n. word_of n Head) (sym same)) turned)
      | inr (differs, old) ↦
          other (word_of k Head) is_patched turns (are.heads k turns old)
          (λ (e : word_of k Head ≡ word). differs (omega (arith, e, here)))
    ];
    handler = other (handler_word program) is_set s.handler are.handler (λ (e : handler_word program ≡ word). omega (arith, e, here, within));
    log = other (state_word program) is_recording s.log are.log (λ (e : state_word program ≡ word). omega (arith, e, here, within));
    arg_handler = other (arg_handler_word program threads) is_set s.arg_handler are.arg_handler
        (λ (e : arg_handler_word program threads ≡ word). omega (arith, e, here, within));
    releases = other_releases (λ i low (e : release_word program (i + 1) ≡ word). omega (arith, e, here, within));
  }

  -- the other words of a sled matter to no switch
  pub stored_part : word < handler_word program → (word % 4 ≡ 0 → ⊥) → AreSwitches program threads code place s
  stored_part below part = record {
    heads = λ k turns at. other (word_of k Head) is_patched turns (are.heads k turns at)
        (λ (e : word_of k Head ≡ word). part (omega (arith, e)));
    handler = other (handler_word program) is_set s.handler are.handler (λ (e : handler_word program ≡ word). omega (arith, e, below));
    log = other (state_word program) is_recording s.log are.log (λ (e : state_word program ≡ word). omega (arith, e, below));
    arg_handler = other (arg_handler_word program threads) is_set s.arg_handler are.arg_handler
        (λ (e : arg_handler_word program threads ≡ word). omega (arith, e, below));
    releases = other_releases (λ i low (e : release_word program (i + 1) ≡ word). omega (arith, e, below));
  }
