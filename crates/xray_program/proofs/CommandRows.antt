-- The commands by their rows: which may wait, and what they read. Each command has a line.
use Rattle.std.proofs.Common.{◌≡◌, ◌++◌, ℕ, List, [], ◌∷◌, Option, Some, None, codes, refl}
use Rattle.std.specs.Prelude.{IsPermutation}
use Rattle.std.proofs.lemmas.List.Sorted.{IsPermutation-cons, IsPermutation-refl, IsPermutation-to_front}
use Rattle.command_words.specs.Files.{AreOfTheirRows, inputs_in, names_given, names_of, row_of}
use Rattle.command_words.specs.Reports.{ByIds, ByImage, ByMap}
use Rattle.command_words.specs.Words.{Command, Sim, Run, Plain, Extract, Asm, Account, Calls, Stack, Convert, Dump, Check, Order, Profile, Soak, Import, Map, reading}
use Rattle.xray_io.specs.declared.wall.Wall.{Wall}
use Rattle.xray_program.specs.Commands.{IsStill, doing_of}

-- only `run` and `profile` may wait
pub still_by_word : AreOfTheirRows → (wall : Wall) (word : List ℕ) (words : List (List ℕ)) → (word ≡ codes "run" → ⊥)
    → (word ≡ codes "profile" → ⊥) → IsStill (reading wall (word ∷ words))
still_by_word rows wall word words other another = by_said (reading wall (word ∷ words)) refl
  where
    by_said : (said : Option Command) → reading wall (word ∷ words) ≡ said → IsStill said
    by_said None is = refl
    by_said (Some (Sim image script schedule trace audit options)) is = refl
    by_said (Some (Run image script trace audit options)) is = absurd (other (rows wall word words (Run image script trace audit options) is).word_is)
    by_said (Some (Plain image bounds)) is = refl
    by_said (Some (Extract image)) is = refl
    by_said (Some (Asm text image threshold relative)) is = refl
    by_said (Some (Account trace names options)) is = refl
    by_said (Some (Calls trace names options)) is = refl
    by_said (Some (Stack trace names format)) is = refl
    by_said (Some (Convert trace names options)) is = refl
    by_said (Some (Dump trace)) is = refl
    by_said (Some (Check image script trace audit)) is = refl
    by_said (Some (Order image script audit free schedule)) is = refl
    by_said (Some (Profile image script options)) is = absurd (another (rows wall word words (Profile image script options) is).word_is)
    by_said (Some (Soak number)) is = refl
    by_said (Some (Import log trace)) is = refl
    by_said (Some (Map program map)) is = refl

-- ---- rows

-- the audit of `check` is taken before its script and its trace
audit_first : (image script trace audit : List ℕ) → IsPermutation (image ∷ script ∷ trace ∷ audit ∷ []) (image ∷ audit ∷ script ∷ trace ∷ [])
audit_first image script trace audit =
    IsPermutation-cons image (script ∷ trace ∷ audit ∷ []) (audit ∷ script ∷ trace ∷ []) (IsPermutation-to_front (script ∷ trace ∷ []) audit)

-- so is that of `order` before its script
audit_second : (image script audit : List ℕ) → IsPermutation (image ∷ script ∷ audit ∷ []) (image ∷ audit ∷ script ∷ [])
audit_second image script audit = IsPermutation-cons image (script ∷ audit ∷ []) (audit ∷ script ∷ []) (IsPermutation-to_front (script ∷ []) audit)

-- the inputs are those of the row, and but for `check` and `order` in its order
pub inputs_of_row : (command : Command)
    → IsPermutation (inputs_in (row_of command).files (names_of command) ++ names_given command) (doing_of command).names
inputs_of_row (Sim i s c t a options) = IsPermutation-refl (i ∷ s ∷ c ∷ [])
inputs_of_row (Run i s t a options) = IsPermutation-refl (i ∷ s ∷ [])
inputs_of_row (Plain i bounds) = IsPermutation-refl (i ∷ [])
inputs_of_row (Extract i) = IsPermutation-refl (i ∷ [])
inputs_of_row (Asm t i threshold relative) = IsPermutation-refl (t ∷ [])
inputs_of_row (Account t ByIds options) = IsPermutation-refl (t ∷ [])
inputs_of_row (Account t (ByImage name) options) = IsPermutation-refl (t ∷ name ∷ [])
inputs_of_row (Account t (ByMap name) options) = IsPermutation-refl (t ∷ name ∷ [])
inputs_of_row (Calls t ByIds options) = IsPermutation-refl (t ∷ [])
inputs_of_row (Calls t (ByImage name) options) = IsPermutation-refl (t ∷ name ∷ [])
inputs_of_row (Calls t (ByMap name) options) = IsPermutation-refl (t ∷ name ∷ [])
inputs_of_row (Stack t ByIds format) = IsPermutation-refl (t ∷ [])
inputs_of_row (Stack t (ByImage name) format) = IsPermutation-refl (t ∷ name ∷ [])
inputs_of_row (Stack t (ByMap name) format) = IsPermutation-refl (t ∷ name ∷ [])
inputs_of_row (Convert t ByIds options) = IsPermutation-refl (t ∷ [])
inputs_of_row (Convert t (ByImage name) options) = IsPermutation-refl (t ∷ name ∷ [])
inputs_of_row (Convert t (ByMap name) options) = IsPermutation-refl (t ∷ name ∷ [])
inputs_of_row (Dump t) = IsPermutation-refl (t ∷ [])
inputs_of_row (Check i s t a) = audit_first i s t a
inputs_of_row (Order i s a f o) = audit_second i s a
inputs_of_row (Profile i s options) = IsPermutation-refl (i ∷ s ∷ [])
inputs_of_row (Soak number) = IsPermutation-refl []
inputs_of_row (Import log trace) = IsPermutation-refl (log ∷ [])
inputs_of_row (Map program map) = IsPermutation-refl (program ∷ [])
