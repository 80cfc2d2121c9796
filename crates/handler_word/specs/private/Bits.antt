-- Marks as bits: four bits per mark, two marks per byte.
use Rattle.std.specs.Prelude.{◌≡◌, ◌≢◌, ◌<◌, ◌+◌, ◌*◌, ◌/◌, ◌%◌, ◌^◌, ℕ, zero, suc, List, [], ◌∷◌, length, slice_index}
use Rattle.handler_word.specs.declared.mark.Mark.{Mark}
use Rattle.handler_word.specs.declared.mark.Mark.TheVariants.{Skipped, NoHandler, NotLogging, Recorded, RecordedArg}

-- the mark of a number of four bits; the five marks have the numbers from 0 on
abbrev pub mark_of : ℕ → Mark
mark_of zero = Skipped
mark_of (suc zero) = NoHandler
mark_of (suc (suc zero)) = NotLogging
mark_of (suc (suc (suc zero))) = Recorded
mark_of (suc (suc (suc (suc n)))) = RecordedArg

-- the four bits of the mark of this number; the first of the two marks of a byte is in its low bits
abbrev pub bits_of : List ℕ → ℕ → ℕ
bits_of bytes n = slice_index bytes (n / 2) / 2 ^ (n % 2 * 4) % 16

-- the next `count` marks, from the n-th on
abbrev pub marks_from : List ℕ → ℕ → ℕ → List Mark
marks_from bytes n zero = []
marks_from bytes n (suc count) = mark_of (bits_of bytes n) ∷ marks_from bytes (n + 1) count

-- as many bytes as this many marks take, and no bit is set after the last mark
pub record IsFilledTo (bytes : List ℕ) (marks : ℕ) : Type 0 where
  pub count : length bytes ≡ (marks + 1) / 2
  pub free : marks % 2 ≢ 0 → slice_index bytes (marks / 2) < 2 ^ (marks % 2 * 4)
