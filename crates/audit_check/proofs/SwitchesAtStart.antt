-- The switches before the first micro step.
use Rattle.std.proofs.Common.{◌≡◌, ℕ, ◌+◌, ◌<◌, Bool, false, List, [], Some, refl, sym, ap, subst, ◌∙◌, arith, inl, inr}
use Rattle.std.specs.Prelude.{All, slice_get, slice_index}
use Rattle.std.proofs.lemmas.List.Elements.{All-get_or}
use Rattle.std.proofs.lemmas.Option.{get_or_from_slice_get, slice_get_cases, slice_get_within}
use Rattle.xray_image.specs.declared.sled.SledKind.{SledKind}
use Rattle.xray_image.specs.declared.sled.SledKind.TheVariants.{Entry, Exit, Tail, Args}
use Rattle.xray_image.specs.Program.{Program}
use Rattle.sled_words.specs.declared.part.Part.TheVariants.{Head}
use Rattle.sled_words.specs.Parts.{all_sled_words, unpatched_head}
use Rattle.sled_words.specs.Words.{arg_handler_word, handler_word, release_word, state_word, word_of}
use Rattle.patch_script.specs.declared.command.PatchCommand.{PatchCommand}
use Rattle.patch_script.specs.CodeAt.{code_at}
use Rattle.patch_script.proofs.WordNumbers.{part_at_first, zero_at_first}
use Rattle.audit_check.specs.declared.switches.Switches.{Switches}
use Rattle.audit_check.specs.declared.turns.Turns.{Turns}
use Rattle.audit_check.specs.private.Switches.{AreSwitches, AreTurnsOf, is_patched, is_recording, is_set}
use Rattle.audit_check.specs.private.Turns.{IsTurned}
use Rattle.audit_check.proofs.TurnLemmas.{no_turns}

-- a word without turns
abbrev pub IsOff : Turns → Type 0
IsOff turns = turns.places.items ≡ []

-- all words are off, and have no turns
pub record AreOff (s : Switches) : Type 0 where
  pub heads : All IsOff s.heads.items
  pub handler : IsOff s.handler
  pub log : IsOff s.log
  pub arg_handler : IsOff s.arg_handler
  pub releases : All IsOff s.releases.items

pub each : {X : Type 0} (P : X → Type 0) (xs : List X) (i : ℕ) (x : X) → All P xs → slice_get xs i ≡ Some x → P x
each P xs i x all at = subst P (get_or_from_slice_get xs i x x at) (All-get_or P xs i x (slice_get_within xs i x at) all)

unpatched_off : (kind : SledKind) → is_patched (unpatched_head kind) ≡ false
unpatched_off Entry = refl
unpatched_off Exit = refl
unpatched_off Tail = refl
unpatched_off Args = refl

module _ (program : Program) (threads : ℕ) (script : List PatchCommand) where
  abbrev code : ℕ → ℕ → ℕ
  code = code_at program threads script

  head_off : (k : ℕ) → is_patched (code 0 (word_of k Head)) ≡ false
  head_off k = elim ((slice_get_cases program.sleds k).1) [
    | inl (sled, low, at, _) ↦ ap is_patched (part_at_first program.sleds k sled Head at) ∙ unpatched_off sled.kind
    | inr (past, none) ↦
        let zero : slice_index (all_sled_words program) (word_of k Head) ≡ 0 = zero_at_first program (word_of k Head) (omega (arith, past)) in
        ap is_patched zero
  ]

  none : (word : ℕ) (test : ℕ → Bool) (turns : Turns) → IsOff turns → test (code 0 word) ≡ false → AreTurnsOf code 0 word test turns
  none word test turns off is = subst (λ (places : List ℕ). IsTurned (λ place. test (code place word)) 0 places) (sym off)
      (no_turns (λ place. test (code place word)) is)

  other_off : (word : ℕ) → handler_word program < word + 1 → code 0 word ≡ 0
  other_off word past = zero_at_first program word past

  pub starts : (s : Switches) → AreOff s → AreSwitches program threads code 0 s
  starts s off = record {
    heads = λ k turns at. none (word_of k Head) is_patched turns (each IsOff s.heads.items k turns off.heads at) (head_off k);
    handler = none (handler_word program) is_set s.handler off.handler (ap is_set (other_off (handler_word program) (omega arith)));
    log = none (state_word program) is_recording s.log off.log (ap is_recording (other_off (state_word program) (omega arith)));
    arg_handler = none (arg_handler_word program threads) is_set s.arg_handler off.arg_handler
        (ap is_set (other_off (arg_handler_word program threads) (omega arith)));
    releases = λ i turns at. none (release_word program (i + 1)) is_set turns (each IsOff s.releases.items i turns off.releases at)
        (ap is_set (other_off (release_word program (i + 1)) (omega arith)));
  }
