-- What a thread loads from code that keeps sleds whole is allowed.
use Rattle.std.proofs.Common.{◌≡◌, ℕ, ◌+◌, ◌≤◌, List, [], ◌∷◌, ◌++◌, Bool, true, false, Option, Some, refl, sym, ap, subst, ◌∙◌, arith}
use Rattle.std.specs.Prelude.{◌==◌, if◌then◌else◌}
use Rattle.std.specs.List.{All}
use Rattle.std.proofs.lemmas.Bool.{eqb-true}
use Rattle.std.proofs.lemmas.Option.{same_Some}
use Rattle.std.proofs.lemmas.List.Elements.{All-nil, All-push}
use Rattle.xray_image.specs.Program.{Program}
use Rattle.sled_words.specs.declared.part.Part.TheVariants.{Head, Id, Opcode, Offset}
use Rattle.sled_words.specs.Allowed.{IsAllowed}
use Rattle.sled_words.specs.ChangingCode.{KeepsSleds}
use Rattle.sled_words.specs.Parts.{patched_head}
use Rattle.sled_words.specs.Words.{word_of, handler_word, state_word, release_word, arg_handler_word}
use Rattle.handler_word.specs.declared.mark.Mark.{Mark}
use Rattle.handler_word.specs.declared.mark.Mark.TheVariants.{Skipped, NoHandler, Recorded, RecordedArg}
use Rattle.machine_step.specs.Loads.{Load, Reading, Wants, Marked, from_state, from_handler, from_arg_handler, from_handlers, from_offset, from_opcode, from_id, from_head, from_release, from_start, is_held_at, next_from, next_load, sled_logs_args}
use Rattle.machine_step.specs.Follows.{Follows}
use Rattle.machine_step.proofs.LoadByLoad.{ByLoads, by_later, by_loaded, by_loads, by_none}

-- ---- loads from the first one on

-- loads of the words that `next` wants one after the other, with the values at places that never fall, from one place
-- to another
abbrev pub Fits : Program → (ℕ → ℕ → ℕ) → (List Load → Option ℕ) → ℕ → List Load → ℕ → Type 0
Fits program code next low [] high = low ≤ high
Fits program code next low (load ∷ loads) high =
    (place : ℕ) × (low ≤ place) × (next [] ≡ Some load.word) × (load.value ≡ code place load.word)
    × Fits program code (λ more. next (load ∷ more)) place loads high

fits_later : (program : Program) (code : ℕ → ℕ → ℕ) (next : List Load → Option ℕ) (low : ℕ) (loads : List Load) (high higher : ℕ)
    → high ≤ higher → Fits program code next low loads high → Fits program code next low loads higher
fits_later program code next low [] high higher up fits = omega arith
fits_later program code next low (load ∷ loads) high higher up (place, le, wanted, value, rest) =
    (place, le, wanted, value, fits_later program code (λ more. next (load ∷ more)) place loads high higher up rest)

fits_more : (program : Program) (code : ℕ → ℕ → ℕ) (next : List Load → Option ℕ) (low : ℕ) (loads : List Load) (high word : ℕ)
    → Fits program code next low loads high → next loads ≡ Some word
    → Fits program code next low (loads ++ record { word = word; value = code high word } ∷ []) high
fits_more program code next low [] high word fits wanted = (high, fits, wanted, refl, omega arith)
fits_more program code next low (load ∷ loads) high word (place, le, first, value, rest) wanted =
    (place, le, first, value, fits_more program code (λ more. next (load ∷ more)) place loads high word rest wanted)

module _ (program : Program) (threads : ℕ) (code : ℕ → ℕ → ℕ) (start : ℕ) (bound : ℕ → ℕ) (thread : ℕ) (hold : Option ℕ) (sleds : List ℕ) where
  made_fit : {loads : List Load} {place : ℕ} → ByLoads program threads code start bound thread hold sleds loads place
      → Fits program code (next_load program threads thread hold sleds) start loads place
  made_fit by_none = omega arith
  made_fit (by_later loads place next up follows) =
      fits_later program code (next_load program threads thread hold sleds) start loads place next up (made_fit follows)
  made_fit (by_loaded loads place word follows wanted within) =
      fits_more program code (next_load program threads thread hold sleds) start loads place word (made_fit follows) wanted

fits_same : (program : Program) (code : ℕ → ℕ → ℕ) (next other : List Load → Option ℕ) (low : ℕ) (loads : List Load) (high : ℕ)
    → ((ls : List Load) → next ls ≡ other ls) → Fits program code next low loads high → Fits program code other low loads high
fits_same program code next other low [] high same fits = fits
fits_same program code next other low (load ∷ loads) high same (place, le, first, value, rest) = (
  place,
  le,
  sym (same []) ∙ first,
  value,
  fits_same program code (λ more. next (load ∷ more)) (λ more. other (load ∷ more)) place loads high (λ ls. same (load ∷ ls)) rest,
)

-- ---- the stages of a passing

-- the word that is wanted after loads that bring a passing this far
abbrev pub following : Reading → (List Load → Option ℕ) → Option ℕ
following (Wants word recording) next = Some word
following (Marked mark loads) next = next loads

-- whatever loads fit, the value of the word that is wanted after them is allowed
abbrev IsSafe : Program → ℕ → ℕ → (ℕ → ℕ → ℕ) → (List Load → Option ℕ) → ℕ → Type 0
IsSafe program threads thread code next low =
    (loads : List Load) (high word : ℕ) → Fits program code next low loads high → next loads ≡ Some word
    → IsAllowed program threads thread word (code high word)

allowed_at : (program : Program) (threads thread : ℕ) (code : ℕ → ℕ → ℕ) (place w word : ℕ) → Some w ≡ Some word
    → IsAllowed program threads thread w (code place w) → IsAllowed program threads thread word (code place word)
allowed_at program threads thread code place w word same allowed =
    subst (λ (v : ℕ). IsAllowed program threads thread v (code place v)) (same_Some w word same) allowed

pub by_test : (b : Bool) (M : Bool → Type 0) → (b ≡ true → M true) → (b ≡ false → M false) → M b
by_test true M at_true at_false = at_true refl
by_test false M at_true at_false = at_false refl

module _ (program : Program) (threads thread : ℕ) (code : ℕ → ℕ → ℕ) (keeps : KeepsSleds program threads thread code) (next : List Load → Option ℕ)
    (safe : (low : ℕ) → IsSafe program threads thread code next low) where
  safe_state : (recording : Mark) (low : ℕ) → IsSafe program threads thread code (λ loads. following (from_state program recording loads) next) low
  safe_state recording low [] high word fits wanted =
      allowed_at program threads thread code high (state_word program) word wanted (keeps.other high (state_word program) (omega arith))
  safe_state recording low (load ∷ loads) high word (place, le, first, value, rest) wanted = safe place loads high word rest wanted

  safe_handler : (low : ℕ) → IsSafe program threads thread code (λ loads. following (from_handler program loads) next) low
  safe_handler low [] high word fits wanted =
      allowed_at program threads thread code high (handler_word program) word wanted (keeps.other high (handler_word program) (omega arith))
  safe_handler low (load ∷ loads) high word (place, le, first, value, rest) wanted =
      by_test (load.value == 0)
      (λ b. Fits program code (λ more. following (if b then Marked NoHandler more else from_state program Recorded more) next) place loads high
      → following (if b then Marked NoHandler loads else from_state program Recorded loads) next ≡ Some word
      → IsAllowed program threads thread word (code high word))
      (λ e. safe place loads high word) (λ e. safe_state Recorded place loads high word) rest wanted

  safe_arg_handler : (low : ℕ) → IsSafe program threads thread code (λ loads. following (from_arg_handler program threads loads) next) low
  safe_arg_handler low [] high word fits wanted =
      allowed_at program threads thread code high (arg_handler_word program threads) word wanted
      (keeps.other high (arg_handler_word program threads) (omega arith))
  safe_arg_handler low (load ∷ loads) high word (place, le, first, value, rest) wanted =
      by_test (load.value == 0)
      (λ b. Fits program code (λ more. following (if b then from_handler program more else from_state program RecordedArg more) next) place loads high
      → following (if b then from_handler program loads else from_state program RecordedArg loads) next ≡ Some word
      → IsAllowed program threads thread word (code high word))
      (λ e. safe_handler place loads high word) (λ e. safe_state RecordedArg place loads high word) rest wanted

  safe_handlers : (k low : ℕ) → IsSafe program threads thread code (λ loads. following (from_handlers program threads k loads) next) low
  safe_handlers k low loads high word fits wanted =
      by_test (sled_logs_args program k)
      (λ b. Fits program code (λ more. following (if b then from_arg_handler program threads more else from_handler program more) next) low loads high
      → following (if b then from_arg_handler program threads loads else from_handler program loads) next ≡ Some word
      → IsAllowed program threads thread word (code high word))
      (λ e. safe_arg_handler low loads high word) (λ e. safe_handler low loads high word) fits wanted

  -- the rest of the passing, if its head was patched at place `p`
  module _ (p k : ℕ) (head : code p (word_of k Head) ≡ patched_head) where
    safe_offset : (low : ℕ) → p ≤ low → IsSafe program threads thread code (λ loads. following (from_offset program threads k loads) next) low
    safe_offset low up [] high word fits wanted =
        allowed_at program threads thread code high (word_of k Offset) word wanted (keeps.part p high k Offset (omega arith) head)
    safe_offset low up (load ∷ loads) high word (place, le, first, value, rest) wanted = safe_handlers k place loads high word rest wanted

    safe_opcode : (low : ℕ) → p ≤ low → IsSafe program threads thread code (λ loads. following (from_opcode program threads k loads) next) low
    safe_opcode low up [] high word fits wanted =
        allowed_at program threads thread code high (word_of k Opcode) word wanted (keeps.part p high k Opcode (omega arith) head)
    safe_opcode low up (load ∷ loads) high word (place, le, first, value, rest) wanted = safe_offset place (omega arith) loads high word rest wanted

    safe_id : (low : ℕ) → p ≤ low → IsSafe program threads thread code (λ loads. following (from_id program threads k loads) next) low
    safe_id low up [] high word fits wanted =
        allowed_at program threads thread code high (word_of k Id) word wanted (keeps.part p high k Id (omega arith) head)
    safe_id low up (load ∷ loads) high word (place, le, first, value, rest) wanted = safe_opcode place (omega arith) loads high word rest wanted

  safe_head : (k low : ℕ) → IsSafe program threads thread code (λ loads. following (from_head program threads k loads) next) low
  safe_head k low [] high word fits wanted =
      allowed_at program threads thread code high (word_of k Head) word wanted (keeps.head high k)
  safe_head k low (load ∷ loads) high word (place, le, first, value, rest) wanted =
      by_test (load.value == patched_head)
      (λ b. Fits program code (λ more. following (if b then from_id program threads k more else Marked Skipped more) next) place loads high
      → following (if b then from_id program threads k loads else Marked Skipped loads) next ≡ Some word
      → IsAllowed program threads thread word (code high word))
      (λ e.
      let head : code place (word_of k Head) ≡ patched_head =
      ap (code place) (same_Some (word_of k Head) load.word first) ∙ sym value ∙ eqb-true load.value patched_head e in
      safe_id place k head place (omega arith) loads high word)
      (λ e. safe place loads high word) rest wanted

  safe_release : (k low : ℕ) → IsSafe program threads thread code (λ loads. following (from_release program threads thread k loads) next) low
  safe_release k low [] high word fits wanted =
      allowed_at program threads thread code high (release_word program thread) word wanted (keeps.other high (release_word program thread) (omega arith))
  safe_release k low (load ∷ loads) high word (place, le, first, value, rest) wanted =
      by_test (load.value == 0)
      (λ b. Fits program code (λ more. following (if b then from_release program threads thread k more else from_head program threads k more) next) place loads high
      → following (if b then from_release program threads thread k loads else from_head program threads k loads) next ≡ Some word
      → IsAllowed program threads thread word (code high word))
      (λ e. safe_release k place loads high word) (λ e. safe_head k place loads high word) rest wanted

  safe_start : (held : Bool) (k low : ℕ) → IsSafe program threads thread code (λ loads. following (from_start program threads thread held k loads) next) low
  safe_start true k low = safe_release k low
  safe_start false k low = safe_head k low

-- ---- all passings

pub next_is : (program : Program) (threads thread : ℕ) (hold : Option ℕ) (number k : ℕ) (sleds : List ℕ) (loads : List Load) (r : Reading)
    → from_start program threads thread (is_held_at hold number) k loads ≡ r
    → next_from program threads thread hold number (k ∷ sleds) loads ≡ following r (next_from program threads thread hold (number + 1) sleds)
next_is program threads thread hold number k sleds loads (Wants word recording) e = rw e refl
next_is program threads thread hold number k sleds loads (Marked mark more) e = rw e refl

safe_from : (program : Program) (threads thread : ℕ) (code : ℕ → ℕ → ℕ) → KeepsSleds program threads thread code → (hold : Option ℕ) (number : ℕ) (sleds : List ℕ)
    (low : ℕ) → IsSafe program threads thread code (next_from program threads thread hold number sleds) low
safe_from program threads thread code keeps hold number [] low loads high word fits wanted = cc
safe_from program threads thread code keeps hold number (k ∷ sleds) low loads high word fits wanted =
    let rest : List Load → Option ℕ = next_from program threads thread hold (number + 1) sleds in
    let same : (ls : List Load) → next_from program threads thread hold number (k ∷ sleds) ls
    ≡ following (from_start program threads thread (is_held_at hold number) k ls) rest =
    λ ls. next_is program threads thread hold number k sleds ls (from_start program threads thread (is_held_at hold number) k ls) refl in
    safe_start program threads thread code keeps rest (safe_from program threads thread code keeps hold (number + 1) sleds) (is_held_at hold number) k low
    loads high word
    (fits_same program code (next_from program threads thread hold number (k ∷ sleds))
    (λ ls. following (from_start program threads thread (is_held_at hold number) k ls) rest) low loads high same fits)
    (sym (same loads) ∙ wanted)

-- ---- the law

pub next_allowed : (program : Program) (threads : ℕ) (code : ℕ → ℕ → ℕ) (start : ℕ) (bound : ℕ → ℕ) (thread : ℕ) → KeepsSleds program threads thread code
    → (hold : Option ℕ) (sleds : List ℕ) (loads : List Load) (place word : ℕ)
    → Follows program threads code start bound thread hold sleds loads place
    → next_load program threads thread hold sleds loads ≡ Some word → IsAllowed program threads thread word (code place word)
next_allowed program threads code start bound thread keeps hold sleds loads place word follows wanted =
    safe_from program threads thread code keeps hold 0 sleds start loads place word
    (made_fit program threads code start bound thread hold sleds (by_loads follows)) wanted

made_allowed : (program : Program) (threads : ℕ) (code : ℕ → ℕ → ℕ) (start : ℕ) (bound : ℕ → ℕ) (thread : ℕ) → KeepsSleds program threads thread code
    → (hold : Option ℕ) (sleds : List ℕ) {loads : List Load} {place : ℕ}
    → ByLoads program threads code start bound thread hold sleds loads place
    → All (λ load. IsAllowed program threads thread load.word load.value) loads
made_allowed program threads code start bound thread keeps hold sleds by_none =
    All-nil (λ (load : Load). IsAllowed program threads thread load.word load.value)
made_allowed program threads code start bound thread keeps hold sleds (by_later loads place next up follows) =
    made_allowed program threads code start bound thread keeps hold sleds follows
made_allowed program threads code start bound thread keeps hold sleds (by_loaded loads place word follows wanted within) =
    All-push (λ (load : Load). IsAllowed program threads thread load.word load.value) loads (record { word = word; value = code place word })
    (made_allowed program threads code start bound thread keeps hold sleds follows)
    (safe_from program threads thread code keeps hold 0 sleds start loads place word
    (made_fit program threads code start bound thread hold sleds follows) wanted)

pub loads_allowed : (program : Program) (threads : ℕ) (code : ℕ → ℕ → ℕ) (start : ℕ) (bound : ℕ → ℕ) (thread : ℕ) → KeepsSleds program threads thread code
    → (hold : Option ℕ) (sleds : List ℕ) {loads : List Load} {place : ℕ}
    → Follows program threads code start bound thread hold sleds loads place
    → All (λ load. IsAllowed program threads thread load.word load.value) loads
loads_allowed program threads code start bound thread keeps hold sleds follows =
    made_allowed program threads code start bound thread keeps hold sleds (by_loads follows)
