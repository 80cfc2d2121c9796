-- A field of four bytes reads as it was written, and the other way round.
use Rattle.std.proofs.Common.{◌≡◌, ℕ, zero, suc, ◌+◌, ◌^◌, ◌<◌, List, [], ◌∷◌, ◌++◌, length, get_or, take, drop, All, Ok, refl, sym, ap, ◌∙◌, append_assoc, lit<, arith, inl, inr}
use Rattle.std.specs.Int.{w32, to_le_bytes, from_le_bytes}
use Rattle.std.proofs.lemmas.Bool.{cases_lt, le-ltb}
use Rattle.std.proofs.lemmas.List.{length-append, length-take, get_or-drop, get_or-take, get_or_past}
use Rattle.std.proofs.lemmas.List.Elements.{All-get_or}
use Rattle.std.proofs.lemmas.Nat.{le_bytes_4, from_le_bytes-to_le_bytes_4}
use Rattle.byteorder.specs.Endian.{little_number}
use Rattle.subset_decode.specs.Encoding.{Begins}
use Rattle.subset_decode.specs.Reading.{Read, field_at}

abbrev pub IsBytes : List ℕ → Type 0
IsBytes bytes = (i : ℕ) → get_or bytes i 0 < 256

pub IsBytes-drop : (n : ℕ) (bytes : List ℕ) → IsBytes bytes → IsBytes (drop n bytes)
IsBytes-drop n bytes h i = rw get_or-drop (h (n + i))

pub IsBytes-take : (n : ℕ) (bytes : List ℕ) → IsBytes bytes → IsBytes (take n bytes)
IsBytes-take n bytes h i =
    elim (cases_lt i n) [
      | inl lt ↦ rw (get_or-take n bytes i 0 lt) (h i)
      | inr le ↦ rw (get_or_past (take n bytes) i 0 (omega (arith, length-take n bytes))) (omega arith)
    ]

pub IsBytes-rest : (b : ℕ) (bytes : List ℕ) → IsBytes (b ∷ bytes) → IsBytes bytes
IsBytes-rest b bytes h i = h (suc i)

pub number_fits : (bytes : List ℕ) → IsBytes bytes → little_number 4 bytes < 2 ^ 32
number_fits bytes h = omega (arith, h 0, h 1, h 2, h 3)

-- the two ways to write the sum
number_is : (bytes : List ℕ) → little_number 4 bytes ≡ from_le_bytes w32 bytes
number_is bytes = omega arith

pub number_back : (bytes : List ℕ) → length bytes ≡ 4 → IsBytes bytes → to_le_bytes w32 (little_number 4 bytes) ≡ bytes
number_back bytes wide h = le_bytes_4 bytes (little_number 4 bytes) wide h (number_is bytes)

abbrev field : ℕ → List ℕ → Read ℕ
field n rest = Ok (n, rest)

pub field_again : (n : ℕ) (rest : List ℕ) → n < 2 ^ 32 → field_at (to_le_bytes w32 n ++ rest) ≡ Ok (n, rest)
field_again n rest lt =
    let long = le-ltb (length (to_le_bytes w32 n ++ rest)) 4 (omega (arith, length-append (to_le_bytes w32 n) rest)) in
    let number : little_number 4 (to_le_bytes w32 n) ≡ n = number_is (to_le_bytes w32 n) ∙ from_le_bytes-to_le_bytes_4 n lt in
    rw long (ap (λ (m : ℕ). field m rest) number)

-- a field that is cut off is a prefix of some field
pub record IsPart (bytes : List ℕ) : Type 0 where
  pub number : ℕ
  pub fits : number < 2 ^ 32
  pub next : ℕ
  pub begins : Begins (bytes ++ next ∷ []) (to_le_bytes w32 number)

four_bytes : (a b c d : ℕ) → a < 256 → b < 256 → c < 256 → d < 256 → IsBytes (a ∷ b ∷ c ∷ d ∷ [])
four_bytes a b c d p q r s zero = p
four_bytes a b c d p q r s (suc zero) = q
four_bytes a b c d p q r s (suc (suc zero)) = r
four_bytes a b c d p q r s (suc (suc (suc zero))) = s
four_bytes a b c d p q r s (suc (suc (suc (suc i)))) = omega arith

field_of_part : (bytes following : List ℕ) (b : ℕ) → length (bytes ++ b ∷ following) ≡ 4 → IsBytes (bytes ++ b ∷ following) → IsPart bytes
field_of_part bytes following b wide h = record {
  number = little_number 4 (bytes ++ b ∷ following);
  fits = number_fits (bytes ++ b ∷ following) h;
  next = b;
  begins = (following, number_back (bytes ++ b ∷ following) wide h ∙ sym (append_assoc bytes (b ∷ []) following));
}

pub cut_field : (bytes : List ℕ) → length bytes < 4 → IsBytes bytes → IsPart bytes
cut_field [] lt h = field_of_part [] (0 ∷ 0 ∷ 0 ∷ []) 0 refl (four_bytes 0 0 0 0 (lit< tt) (lit< tt) (lit< tt) (lit< tt))
cut_field (a ∷ []) lt h = field_of_part (a ∷ []) (0 ∷ 0 ∷ []) 0 refl (four_bytes a 0 0 0 (h 0) (lit< tt) (lit< tt) (lit< tt))
cut_field (a ∷ b ∷ []) lt h = field_of_part (a ∷ b ∷ []) (0 ∷ []) 0 refl (four_bytes a b 0 0 (h 0) (h 1) (lit< tt) (lit< tt))
cut_field (a ∷ b ∷ c ∷ []) lt h = field_of_part (a ∷ b ∷ c ∷ []) [] 0 refl (four_bytes a b c 0 (h 0) (h 1) (h 2) (lit< tt))
cut_field (a ∷ b ∷ c ∷ d ∷ rest) lt h = absurd (omega arith)

pub IsBytes-from_All : (bytes : List ℕ) → All (λ b. b < 256) bytes → IsBytes bytes
IsBytes-from_All bytes all i =
    elim (cases_lt i (length bytes)) [
      | inl lt ↦ All-get_or (λ b. b < 256) bytes i 0 lt all
      | inr le ↦ rw (get_or_past bytes i 0 le) (lit< tt)
    ]
