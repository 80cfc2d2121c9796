-- The numbers in a file.
use Rattle.std.specs.Prelude.{ℕ, List, drop}
use Rattle.byteorder.specs.Endian.{little_number}

-- the number in so many bytes at a place, the lowest byte first
abbrev pub number_at : (size : ℕ) → List ℕ → (place : ℕ) → ℕ
number_at size bytes place = little_number size (drop place bytes)
