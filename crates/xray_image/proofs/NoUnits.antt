-- Bytes that begin as a sled, and begin with no unit.
use Rattle.std.proofs.Common.{◌≡◌, ◌≢◌, ℕ, ◌%◌, List, ◌∷◌, get_or, sym, ap, ◌∙◌, arith}
use Rattle.subset_decode.specs.Encoding.{Begins}
use Rattle.xray_image.specs.Units.{Piece, Instruction, JumpSled, ReturnSled, Align, nop_bytes, piece_bytes}
use Rattle.xray_image.specs.private.SledPieces.{IsSled}
use Rattle.xray_image.specs.Table.{BeginsAsSled, StandsAt}

head_same : (x y : ℕ) (xs ys : List ℕ) → x ∷ xs ≡ y ∷ ys → x ≡ y
head_same x y xs ys e = cc

tail_same : (x y : ℕ) (xs ys : List ℕ) → x ∷ xs ≡ y ∷ ys → xs ≡ ys
tail_same x y xs ys e = cc

apart : (x y : ℕ) (xs ys : List ℕ) → x ≢ y → x ∷ xs ≡ y ∷ ys → ⊥
apart x y xs ys differ e = differ (head_same x y xs ys e)

-- bytes that begin with a sled's jump, with no nop after it, begin with no sled
pub no_jump : (bytes nop : List ℕ) → bytes ≡ 0xEB ∷ 0x09 ∷ nop → ((shift : ℕ) → Begins (nop_bytes shift) nop → ⊥) → (piece : Piece) → IsSled piece → Begins (piece_bytes piece) bytes → ⊥
no_jump bytes nop e none (Instruction i) sled b = sled
no_jump bytes nop e none (JumpSled shift) sled b = none shift (b.0, tail_same 0x09 0x09 _ _ (tail_same 0xEB 0xEB _ _ (sym e ∙ b.1)))
no_jump bytes nop e none (ReturnSled shift) sled b = apart 0xEB 0xC3 _ _ (λ h. omega arith) (sym e ∙ b.1)
no_jump bytes nop e none Align sled b = sled

-- the same for a return
pub no_return : (bytes nop : List ℕ) → bytes ≡ 0xC3 ∷ 0x2E ∷ nop → ((shift : ℕ) → Begins (nop_bytes shift) nop → ⊥) → (piece : Piece) → IsSled piece → Begins (piece_bytes piece) bytes → ⊥
no_return bytes nop e none (Instruction i) sled b = sled
no_return bytes nop e none (JumpSled shift) sled b = apart 0xC3 0xEB _ _ (λ h. omega arith) (sym e ∙ b.1)
no_return bytes nop e none (ReturnSled shift) sled b = none shift (b.0, tail_same 0x2E 0x2E _ _ (tail_same 0xC3 0xC3 _ _ (sym e ∙ b.1)))
no_return bytes nop e none Align sled b = sled

-- what begins as a sled and isn't a whole one is no unit
pub no_whole : (address : ℕ) (bytes : List ℕ) → BeginsAsSled bytes → (get_or bytes 0 0 ≡ 0x90 → ⊥) → ((piece : Piece) → IsSled piece → Begins (piece_bytes piece) bytes → ⊥)
    → (piece : Piece) (rest : List ℕ) → StandsAt address bytes piece rest → ⊥
no_whole address bytes begins other none (Instruction i) rest s = s.place begins
no_whole address bytes begins other none (JumpSled shift) rest s = none (JumpSled shift) tt (rest, s.spelled)
no_whole address bytes begins other none (ReturnSled shift) rest s = none (ReturnSled shift) tt (rest, s.spelled)
no_whole address bytes begins other none Align rest s = other (ap (λ (xs : List ℕ). get_or xs 0 0) s.spelled)

-- nor is it one at an odd address
pub no_even : (address : ℕ) (bytes : List ℕ) → BeginsAsSled bytes → (get_or bytes 0 0 ≡ 0x90 → ⊥) → (address % 2 ≡ 0 → ⊥)
    → (piece : Piece) (rest : List ℕ) → StandsAt address bytes piece rest → ⊥
no_even address bytes begins other odd (Instruction i) rest s = s.place begins
no_even address bytes begins other odd (JumpSled shift) rest s = odd s.place
no_even address bytes begins other odd (ReturnSled shift) rest s = odd s.place
no_even address bytes begins other odd Align rest s = other (ap (λ (xs : List ℕ). get_or xs 0 0) s.spelled)
