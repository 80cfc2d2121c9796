-- A field that is read is the one in the bytes.
use Rattle.std.proofs.Common.{◌≡◌, ℕ, ◌^◌, ◌<◌, ◌≤◌, List, length, get_or, take, All, sym, ◌∙◌, lit<, lit≤, arith, inl, inr}
use Rattle.std.specs.Int.{w16, w32, w64, from_le_bytes}
use Rattle.std.proofs.lemmas.Bool.{cases_lt}
use Rattle.std.proofs.lemmas.List.{length-take, get_or_past}
use Rattle.std.proofs.lemmas.List.Elements.{All-from_get_or, All-get_or, All-take}
use Rattle.std.proofs.lemmas.Nat.{le_bytes_2, le_bytes_4, le_bytes_8}
use Rattle.byteorder.specs.Endian.{little_bytes, little_number}
use Rattle.byteorder.specs.Numbers.{little_from-take, little_from-lt}

abbrev pub IsBytes : List ℕ → Type 0
IsBytes bytes = All (λ b. b < 256) bytes

pub are_bytes : (bytes : List ℕ) → ((i : ℕ) → get_or bytes i 0 < 256) → IsBytes bytes
are_bytes bytes fit = All-from_get_or (λ b. b < 256) bytes 0 (λ i within. fit i)

-- what is read past the end is 0
byte_at : (bytes : List ℕ) → IsBytes bytes → (i : ℕ) → get_or bytes i 0 < 256
byte_at bytes fits i =
    elim (cases_lt i (length bytes)) [
      | inl lt ↦ All-get_or (λ b. b < 256) bytes i 0 lt fits
      | inr le ↦ rw (get_or_past bytes i 0 le) (lit< tt)
    ]

-- a number of n bytes that was read is below its limit, and its bytes are those that were read
pub record IsField (n : ℕ) (bytes : List ℕ) : Type 0 where
  pub fits : little_number n bytes < 256 ^ n
  pub back : little_bytes n (little_number n bytes) ≡ take n bytes

number_2 : (bytes : List ℕ) → little_number 2 bytes ≡ from_le_bytes w16 bytes
number_2 bytes = omega arith

number_4 : (bytes : List ℕ) → little_number 4 bytes ≡ from_le_bytes w32 bytes
number_4 bytes = omega arith

number_8 : (bytes : List ℕ) → little_number 8 bytes ≡ from_le_bytes w64 bytes
number_8 bytes = omega arith

pub field_2 : (bytes : List ℕ) → 2 ≤ length bytes → IsBytes bytes → IsField 2 bytes
field_2 bytes long fits = record {
  fits = little_from-lt 0 2 bytes (byte_at bytes fits);
  back = le_bytes_2 (take 2 bytes) _ (omega (arith, length-take 2 bytes)) (byte_at (take 2 bytes) (All-take (λ b. b < 256) 2 bytes fits)) (sym (little_from-take 0 2 2 bytes (lit≤ tt)) ∙ number_2 (take 2 bytes));
}

pub field_4 : (bytes : List ℕ) → 4 ≤ length bytes → IsBytes bytes → IsField 4 bytes
field_4 bytes long fits = record {
  fits = little_from-lt 0 4 bytes (byte_at bytes fits);
  back = le_bytes_4 (take 4 bytes) _ (omega (arith, length-take 4 bytes)) (byte_at (take 4 bytes) (All-take (λ b. b < 256) 4 bytes fits)) (sym (little_from-take 0 4 4 bytes (lit≤ tt)) ∙ number_4 (take 4 bytes));
}

pub field_8 : (bytes : List ℕ) → 8 ≤ length bytes → IsBytes bytes → IsField 8 bytes
field_8 bytes long fits = record {
  fits = little_from-lt 0 8 bytes (byte_at bytes fits);
  back = le_bytes_8 (take 8 bytes) _ (omega (arith, length-take 8 bytes)) (byte_at (take 8 bytes) (All-take (λ b. b < 256) 8 bytes fits)) (sym (little_from-take 0 8 8 bytes (lit≤ tt)) ∙ number_8 (take 8 bytes));
}
