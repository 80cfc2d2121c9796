-- The switches after a store, by the note of it in one of them.
use Rattle.std.proofs.Common.{◌≡◌, ℕ, ◌+◌, ◌-◌, ◌*◌, ◌/◌, ◌%◌, ◌<◌, ◌≤◌, Bool, length, set, get_or, Some, sym, ap, subst, ◌∙◌, arith, inl, inr}
use Rattle.std.specs.Prelude.{slice_get}
use Rattle.std.proofs.lemmas.Option.{slice_get-get_or}
use Rattle.xray_image.specs.Program.{Program}
use Rattle.sled_words.specs.declared.part.Part.TheVariants.{Head}
use Rattle.sled_words.specs.Words.{arg_handler_word, handler_word, release_word, state_word, word_of}
use Rattle.audit_check.specs.declared.switches.Switches.{Switches}
use Rattle.audit_check.specs.declared.turns.Turns.{Turns}
use Rattle.audit_check.specs.private.Switches.{AreSwitches, AreTurnsOf, IsNext, IsOfWords, TakesStore, is_patched, is_recording, is_set}
use Rattle.audit_check.specs.private.Turns.{IsTurned}
use Rattle.audit_check.proofs.SwitchesAfterStore.{stored_arg_handler, stored_handler, stored_head, stored_log, stored_part, stored_release}

-- the word is on, or off, from a place on
abbrev pub Notes : ℕ → Bool → Turns → Turns → Type 0
Notes place on old new =
    (values : ℕ → Bool) (last : ℕ) → IsTurned values last old.places.items → place ≡ last + 1 → values place ≡ on → IsTurned values place new.places.items

-- the switches have taken a store
abbrev pub Stores : Switches → ℕ → ℕ → ℕ → Switches → Type 0
Stores s word value place new =
    (program : Program) (threads : ℕ) (code : ℕ → ℕ → ℕ) (last : ℕ) → IsOfWords program threads s → AreSwitches program threads code last s
    → place ≡ last + 1 → IsNext code last word value → AreSwitches program threads code place new

turned : (code : ℕ → ℕ → ℕ) (last place word value : ℕ) (test : ℕ → Bool) (old new : Turns) → place ≡ last + 1 → IsNext code last word value
    → AreTurnsOf code last word test old → Notes place (test value) old new → AreTurnsOf code place word test new
turned code last place word value test old new is next were notes =
    notes (λ n. test (code n word)) last were is (ap test (ap (λ n. code n word) is ∙ next.stored))

pub notes_handler : (s : Switches) (new : Turns) (word value place : ℕ) → word ≡ s.handler_word → Notes place (is_set value) s.handler new
    → Stores s word value place (record s { handler = new })
notes_handler s new word value place at notes = λ program threads code last words are is next.
    let here : word ≡ handler_word program = at ∙ words.handler in
    stored_handler program threads code last place is s words are word value next new here
    (turned code last place word value is_set s.handler new is next (subst (λ n. AreTurnsOf code last n is_set s.handler) (sym here) are.handler) notes)

pub notes_log : (s : Switches) (new : Turns) (word value place : ℕ) → word ≡ s.state_word → Notes place (is_recording value) s.log new
    → Stores s word value place (record s { log = new })
notes_log s new word value place at notes = λ program threads code last words are is next.
    let here : word ≡ state_word program = at ∙ words.state in
    stored_log program threads code last place is s words are word value next new here
    (turned code last place word value is_recording s.log new is next (subst (λ n. AreTurnsOf code last n is_recording s.log) (sym here) are.log) notes)

pub notes_arg_handler : (s : Switches) (new : Turns) (word value place : ℕ) → word ≡ s.arg_handler_word → Notes place (is_set value) s.arg_handler new
    → Stores s word value place (record s { arg_handler = new })
notes_arg_handler s new word value place at notes = λ program threads code last words are is next.
    let here : word ≡ arg_handler_word program threads = at ∙ words.arg_handler in
    stored_arg_handler program threads code last place is s words are word value next new here
    (turned code last place word value is_set s.arg_handler new is next
    (subst (λ n. AreTurnsOf code last n is_set s.arg_handler) (sym here) are.arg_handler) notes)

pub notes_release : (s t : Switches) (at : ℕ) (old new : Turns) (word value place : ℕ) → t.releases.items ≡ set s.releases.items at new
    → at < length s.releases.items → word ≡ s.state_word + 1 + at → old ≡ get_or s.releases.items at old → Notes place (is_set value) old new
    → Stores s word value place (record s { releases = t.releases })
notes_release s t at old new word value place is_set_at low word_is found notes = λ program threads code last words are is next.
    let state = words.state in
    let here : word ≡ release_word program (at + 1) = omega (arith, word_is, state) in
    let count = words.threads_are in
    let was : slice_get s.releases.items at ≡ Some old = slice_get-get_or s.releases.items at old low ∙ ap Some (sym found) in
    stored_release program threads code last place is s words are word value next t at new is_set_at (omega (arith, low, count)) here
    (turned code last place word value is_set old new is next (subst (λ n. AreTurnsOf code last n is_set old) (sym here) (are.releases at old was)) notes)

pub notes_head : (s t : Switches) (at : ℕ) (old new : Turns) (word value place : ℕ) → t.heads.items ≡ set s.heads.items at new → at < length s.heads.items
    → word ≡ 4 * at → old ≡ get_or s.heads.items at old → Notes place (is_patched value) old new → Stores s word value place (record s { heads = t.heads })
notes_head s t at old new word value place is_set_at low word_is found notes = λ program threads code last words are is next.
    let count = words.sleds in
    let here : word ≡ word_of at Head = omega (arith, word_is) in
    let was : slice_get s.heads.items at ≡ Some old = slice_get-get_or s.heads.items at old low ∙ ap Some (sym found) in
    stored_head program threads code last place is s words are word value next t at new is_set_at (omega (arith, low, count)) here
    (turned code last place word value is_patched old new is next (subst (λ n. AreTurnsOf code last n is_patched old) (sym here) (are.heads at old was)) notes)

pub notes_no_head : (s : Switches) (word value place : ℕ) → word < s.handler_word → (word % 4 ≡ 0 → ⊥) → Stores s word value place s
notes_no_head s word value place low part = λ program threads code last words are is next.
    let handler = words.handler in stored_part program threads code last place is s words are word value next (omega (arith, low, handler)) part

-- ---- the words

pub words_same : (s t : Switches) → length t.heads.items ≡ length s.heads.items → length t.releases.items ≡ length s.releases.items
    → t.handler_word ≡ s.handler_word → t.state_word ≡ s.state_word → t.arg_handler_word ≡ s.arg_handler_word → (program : Program) (threads : ℕ)
    → IsOfWords program threads s → IsOfWords program threads t
words_same s t heads releases handler state arg_handler program threads words = record {
  sleds = heads ∙ words.sleds;
  threads_are = releases ∙ words.threads_are;
  handler = handler ∙ words.handler;
  state = state ∙ words.state;
  arg_handler = arg_handler ∙ words.arg_handler;
}

-- ---- where a word is

pub head_within : (s : Switches) (word : ℕ) → TakesStore s word → word < s.handler_word → word / 4 < length s.heads.items
head_within s word takes low =
    let handler = takes.words.handler in
    let count = takes.words.sleds in omega arith

pub release_at : (s : Switches) (word : ℕ) → TakesStore s word → s.handler_word ≤ word → (word ≡ s.handler_word → ⊥) → (word ≡ s.state_word → ⊥)
    → (word ≡ s.arg_handler_word → ⊥) → (s.state_word + 1 ≤ word) × (word - s.state_word - 1 < length s.releases.items)
release_at s word takes low one two three =
    let handler = takes.words.handler in
    let state = takes.words.state in
    let arg_handler = takes.words.arg_handler in
    let count = takes.words.threads_are in
    elim takes.is_code [
      | inl before ↦ (omega arith, omega arith)
      | inr is ↦ absurd (three (is ∙ sym arg_handler))
    ]
