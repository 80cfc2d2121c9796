-- The displacement that is read from a nop is the one that its bytes spell.
use Rattle.std.proofs.Common.{◌≡◌, ℕ, ◌+◌, ◌^◌, ◌<◌, ◌≤◌, List, ◌∷◌, ◌++◌, length, get_or, take, drop, sym, ap, subst, ◌∙◌, arith, inl, inr}
use Rattle.std.specs.Int.{w32, from_le_bytes, to_le_bytes}
use Rattle.byteorder.specs.Endian.{little_number, little_bytes}
use Rattle.std.proofs.lemmas.Bool.{cases_lt}
use Rattle.std.proofs.lemmas.Nat.{le_bytes_4}
use Rattle.std.proofs.lemmas.List.{take-append-drop, length-take, get_or-take, get_or_past}
use Rattle.subset_decode.specs.Encoding.{Begins}
use Rattle.xray_image.specs.Units.{nop_bytes}

abbrev pub IsBytes : List ℕ → Type 0
IsBytes bytes = (i : ℕ) → get_or bytes i 0 < 256

IsBytes-take : (n : ℕ) (bytes : List ℕ) → IsBytes bytes → IsBytes (take n bytes)
IsBytes-take n bytes h i =
    elim (cases_lt i n) [
      | inl lt ↦ rw (get_or-take n bytes i 0 lt) (h i)
      | inr le ↦ rw (get_or_past (take n bytes) i 0 (omega (arith, length-take n bytes))) (omega arith)
    ]

number_below : (bytes : List ℕ) → IsBytes bytes → little_number 4 bytes < 2 ^ 32
number_below bytes h = omega (arith, h 0, h 1, h 2, h 3)

number_is : (bytes : List ℕ) → IsBytes bytes → little_number 4 bytes ≡ from_le_bytes w32 bytes
number_is bytes h = omega arith

number_front : (bytes : List ℕ) → 4 ≤ length bytes → little_number 4 bytes ≡ little_number 4 (take 4 bytes)
number_front bytes long =
    let a = get_or-take 4 bytes 0 0 (omega arith) in
    let b = get_or-take 4 bytes 1 0 (omega arith) in
    let c = get_or-take 4 bytes 2 0 (omega arith) in
    let d = get_or-take 4 bytes 3 0 (omega arith) in
    omega arith

-- the field at the start is the bytes of its number
pub field_shown : (field : List ℕ) → 4 ≤ length field → IsBytes field → field ≡ little_bytes 4 (little_number 4 field) ++ drop 4 field
field_shown field long h =
    let front = take 4 field in
    let fits = IsBytes-take 4 field h in
    let spelled : to_le_bytes w32 (little_number 4 field) ≡ front = le_bytes_4 front (little_number 4 field) (omega (arith, length-take 4 field)) fits (number_front field long ∙ number_is front fits) in
    sym (take-append-drop 4 field) ∙ ap (λ (x : List ℕ). x ++ drop 4 field) (sym spelled)

IsBytes-following : (bytes field : List ℕ) → IsBytes bytes → bytes ≡ 0x66 ∷ 0x0F ∷ 0x1F ∷ 0x84 ∷ 0x00 ∷ field → IsBytes field
IsBytes-following bytes field h e i = let k = subst IsBytes e h (5 + i) in grind arith

pub nop_found : (bytes field : List ℕ) (shift : ℕ) → IsBytes bytes → bytes ≡ 0x66 ∷ 0x0F ∷ 0x1F ∷ 0x84 ∷ 0x00 ∷ field → 4 ≤ length field → shift ≡ little_number 4 field → (shift < 2 ^ 32) × Begins (nop_bytes shift) bytes
nop_found bytes field shift h e long is =
    let fits = IsBytes-following bytes field h e in
    let shown = field_shown field long fits in
    let whole : bytes ≡ nop_bytes (little_number 4 field) ++ drop 4 field = e ∙ ap (λ (x : List ℕ). 0x66 ∷ 0x0F ∷ 0x1F ∷ 0x84 ∷ 0x00 ∷ x) shown in
    subst (λ (n : ℕ). (n < 2 ^ 32) × Begins (nop_bytes n) bytes) (sym is) (number_below field fits, (drop 4 field, whole))
