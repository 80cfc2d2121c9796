-- The switches of a script, one micro step after the other.
use Rattle.std.proofs.Common.{◌≡◌, ◌≢◌, ℕ, zero, suc, ◌+◌, ◌==◌, Bool, true, false, List, [], ◌∷◌, ◌++◌, length, set, Some, None, refl, sym, ap, ◌∙◌, arith, inl, inr, eq-eqb}
use Rattle.std.specs.Prelude.{◌⊎◌, slice_get, unwrap_or, if◌then◌else◌}
use Rattle.std.proofs.lemmas.Bool.{ne_eqb}
use Rattle.xray_image.specs.Program.{Program}
use Rattle.sled_words.specs.declared.part.Part.TheVariants.{Head}
use Rattle.sled_words.specs.Words.{arg_handler_word, handler_word, release_word, state_word, word_of}
use Rattle.patch_script.specs.declared.micro.Micro.{Micro}
use Rattle.patch_script.specs.declared.micro.Micro.TheVariants.{Store, Await}
use Rattle.patch_script.specs.CodeAt.{stored_in}
use Rattle.audit_check.specs.declared.switches.Switches.{Switches}
use Rattle.audit_check.specs.declared.turns.Turns.{Turns}
use Rattle.audit_check.specs.private.Switches.{AreSwitches, AreTurnsOf, IsNext, StaysSame, is_patched, is_recording, is_set}
use Rattle.audit_check.proofs.TurnLemmas.{kept}

-- ---- code one place on

abbrev pub Follows : (ℕ → ℕ → ℕ) → ℕ → Micro → Type 0
Follows code place micro = (word : ℕ) → code (place + 1) word ≡ unwrap_or (stored_in word micro) (code place word)

pub next_stored : (code : ℕ → ℕ → ℕ) (place word value : ℕ) → Follows code place (Store word value) → IsNext code place word value
next_stored code place word value follows = record {
  stored = follows word ∙ same (word == word) (eq-eqb word word refl);
  others = λ other differs. follows other ∙ another other (word == other) (ne_eqb word other (λ (e : word ≡ other). differs (sym e)));
}
  where
    same : (b : Bool) → b ≡ true → unwrap_or (if b then Some value else None) (code place word) ≡ value
    same true e = refl
    same false e = absurd cc

    another : (other : ℕ) (b : Bool) → b ≡ false → unwrap_or (if b then Some value else None) (code place other) ≡ code place other
    another other true e = absurd cc
    another other false e = refl

pub next_waits : (code : ℕ → ℕ → ℕ) (place thread count : ℕ) → Follows code place (Await thread count) → StaysSame code place
next_waits code place thread count follows = λ word. follows word

-- ---- turns one place on

pub kept_turns : (code : ℕ → ℕ → ℕ) (last word : ℕ) (test : ℕ → Bool) (turns : Turns) → AreTurnsOf code last word test turns
    → code (last + 1) word ≡ code last word → AreTurnsOf code (last + 1) word test turns
kept_turns code last word test turns are same = kept (λ place. test (code place word)) last turns.places.items are (ap test same)

-- nothing is stored
pub stays : (program : Program) (threads : ℕ) (code : ℕ → ℕ → ℕ) (last : ℕ) (s : Switches) → AreSwitches program threads code last s
    → StaysSame code last → AreSwitches program threads code (last + 1) s
stays program threads code last s are same = record {
  heads = λ k turns is. kept_turns code last (word_of k Head) is_patched turns (are.heads k turns is) (same (word_of k Head));
  handler = kept_turns code last (handler_word program) is_set s.handler are.handler (same (handler_word program));
  log = kept_turns code last (state_word program) is_recording s.log are.log (same (state_word program));
  arg_handler = kept_turns code last (arg_handler_word program threads) is_set s.arg_handler are.arg_handler (same (arg_handler_word program threads));
  releases = λ i turns is. kept_turns code last (release_word program (i + 1)) is_set turns (are.releases i turns is) (same (release_word program (i + 1)));
}

pub get_set : {X : Type 0} (xs : List X) (at i : ℕ) (x y : X) → slice_get (set xs at y) i ≡ Some x
    → ((i ≡ at) × (x ≡ y)) ⊎ ((i ≢ at) × (slice_get xs i ≡ Some x))
get_set [] at i x y is = absurd cc
get_set (z ∷ xs) zero zero x y is = let same : x ≡ y = cc in inl (refl, same)
get_set (z ∷ xs) zero (suc i) x y is = inr ((λ (e : suc i ≡ zero). absurd (omega (arith, e))), is)
get_set (z ∷ xs) (suc at) zero x y is = inr ((λ (e : zero ≡ suc at). absurd (omega (arith, e))), is)
get_set (z ∷ xs) (suc at) (suc i) x y is = elim (get_set xs at i x y is) [
  | inl here ↦ inl (ap suc here.0, here.1)
  | inr other ↦ inr ((λ (e : suc i ≡ suc at). other.0 (omega (arith, e))), other.1)
]

-- an element of a list with one more at its end
pub cases_last : {X : Type 0} (xs : List X) (i : ℕ) (x y : X) → slice_get (xs ++ y ∷ []) i ≡ Some x → (slice_get xs i ≡ Some x) ⊎ ((i ≡ length xs) × (x ≡ y))
cases_last [] zero x y is = let same : x ≡ y = cc in inr (refl, same)
cases_last [] (suc i) x y is = absurd cc
cases_last (z ∷ xs) zero x y is = inl is
cases_last (z ∷ xs) (suc i) x y is = elim (cases_last xs i x y is) [ inl old ↦ inl old | inr new ↦ inr (ap suc new.0, new.1) ]
