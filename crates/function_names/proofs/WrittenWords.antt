-- Numbers that are written in a line.
use Rattle.std.proofs.Common.{◌≡◌, ◌<◌, ◌≤◌, ◌-◌, ◌^◌, ◌∷◌, ◌++◌, ◌∙◌, ◌==◌, ◌&&◌, not, ℕ, zero, suc, Bool, true, false, cond, List, [], Option, Some, None, length, refl, ap, arith, ltb}
use Rattle.std.specs.Prelude.{codes, nat_le, replicate, is_some, if◌then◌else◌}
use Rattle.std.specs.Char.{digit_value, is_digit}
use Rattle.std.specs.Fmt.{digits}
use Rattle.std.specs.List.{list_all}
use Rattle.std.specs.Option.{option_map_or}
use Rattle.std.specs.Str.Parse.{AllDigits, digits_value}
use Rattle.std.proofs.lemmas.Bool.{and_from, and_parts, le-leb, lt-ltb, ltb-false, ltb-true, ne_eqb}
use Rattle.std.proofs.lemmas.Fmt.{digits_is_IsNumeral}
use Rattle.std.proofs.lemmas.List.{length-append}
use Rattle.std.proofs.lemmas.List.Folds.{list_all-append}
use Rattle.text_lines.specs.Numbers.{is_numeral, numeral}
use Rattle.text_lines.specs.Words.{is_allowed}
use Rattle.text_lines.specs.Written.{is_word_byte, is_written_word}
use Rattle.xray_io.specs.Piece.{hexadecimal}
use Rattle.map_names.specs.Entries.{is_address}
use Rattle.map_names.proofs.LineParts.{after_found}

-- ---- bytes of words

pub word_byte : (b : ℕ) → 36 ≤ b → b ≤ 126 → is_word_byte b ≡ true
word_byte b low high =
    let allowed : is_allowed b ≡ true = rw (le-leb 32 b (omega (arith, low)), le-leb b 126 high, ne_eqb b 9 (λ e. omega (arith, e, low))) refl in
    rw (allowed, ne_eqb b 32 (λ e. omega (arith, e, low)), ne_eqb b 9 (λ e. omega (arith, e, low)), ne_eqb b 35 (λ e. omega (arith, e, low))) refl

-- words that are joined are a word
pub word_append : (one other : List ℕ) → list_all is_word_byte one ≡ true → list_all is_word_byte other ≡ true → list_all is_word_byte (one ++ other) ≡ true
word_append one other first second =
    list_all-append is_word_byte one other ∙ and_from (list_all is_word_byte one) (list_all is_word_byte other) first second

pub word_is : (word : List ℕ) → 0 < length word → list_all is_word_byte word ≡ true → is_written_word word ≡ true
word_is word some bytes = and_from (nat_le 1 (length word)) (list_all is_word_byte word) (le-leb 1 (length word) (omega (arith, some))) bytes

pub word_bytes : (word : List ℕ) → is_written_word word ≡ true → list_all is_word_byte word ≡ true
word_bytes word is = (and_parts (nat_le 1 (length word)) (list_all is_word_byte word) is).1

-- ---- digits

-- a digit is a byte from `0` to `z`
digit_range : (c : ℕ) → digit_value c < 16 → (48 ≤ c) × (c ≤ 122)
digit_range c few = go (ltb c 48) refl (ltb c 58) refl (ltb c 65) refl (ltb c 91) refl (ltb c 97) refl (ltb c 123) refl few
  where
    go : (p : Bool) → ltb c 48 ≡ p → (q : Bool) → ltb c 58 ≡ q → (r : Bool) → ltb c 65 ≡ r → (s : Bool) → ltb c 91 ≡ s → (t : Bool) → ltb c 97 ≡ t → (u : Bool) → ltb c 123 ≡ u
        → cond p 36 (cond q (c - 48) (cond r 36 (cond s (c - 55) (cond t 36 (cond u (c - 87) 36))))) < 16 → (48 ≤ c) × (c ≤ 122)
    go true a q b r d s e t f u g low = absurd (omega (arith, low))
    go false a true b r d s e t f u g low = (ltb-false c 48 a, omega (arith, ltb-true c 58 b))
    go false a false b true d s e t f u g low = absurd (omega (arith, low))
    go false a false b false d true e t f u g low = (ltb-false c 48 a, omega (arith, ltb-true c 91 e))
    go false a false b false d false e true f u g low = absurd (omega (arith, low))
    go false a false b false d false e false f true g low = (ltb-false c 48 a, omega (arith, ltb-true c 123 g))
    go false a false b false d false e false f false g low = absurd (omega (arith, low))

digit_bytes : (ds : List ℕ) → AllDigits 16 ds → list_all is_word_byte ds ≡ true
digit_bytes [] each = refl
digit_bytes (c ∷ ds) each =
    let range = digit_range c each.0 in
    and_from (is_word_byte c) (list_all is_word_byte ds) (word_byte c (omega (arith, range.0)) (omega (arith, range.1))) (digit_bytes ds each.1)

are_digits : (ds : List ℕ) → AllDigits 16 ds → list_all (λ (b : ℕ). is_digit b 16) ds ≡ true
are_digits [] each = refl
are_digits (c ∷ ds) each = and_from (is_digit c 16) (list_all (λ (b : ℕ). is_digit b 16) ds) (lt-ltb (digit_value c) 16 each.0) (are_digits ds each.1)

-- zeros before digits
zeros : (n : ℕ) (ds : List ℕ) → AllDigits 16 ds → AllDigits 16 (replicate n 48 ++ ds) × (digits_value 16 (replicate n 48 ++ ds) ≡ digits_value 16 ds)
zeros zero ds each = (each, refl)
zeros (suc n) ds each = let rest = zeros n ds each in ((omega arith, rest.0), rest.1)

-- ---- addresses

abbrev padded : ℕ → List ℕ
padded n = hexadecimal n 16

-- a number in hexadecimal digits
record IsWritten (n : ℕ) : Type 0 where
  each : AllDigits 16 (padded n)
  some : 0 < length (padded n)
  value : digits_value 16 (padded n) ≡ n

written : (n : ℕ) → n < 2 ^ 64 → IsWritten n
written n low =
    let is = digits_is_IsNumeral 16 false (omega arith) (omega arith) n (omega (arith, low)) in
    let ds : List ℕ = digits 16 false n in
    let all = zeros (16 - length ds) ds is.0.1 in
    let size = length-append (replicate (16 - length ds) 48) ds in
    record { each = all.0; some = omega (arith, size, is.0.0); value = all.1 ∙ is.1 }

pub address_is : (n : ℕ) → n < 2 ^ 64 → is_address (codes "0x" ++ hexadecimal n 16) ≡ true
unfolding is_address
address_is n low =
    let is = written n low in
    let word : List ℕ = padded n in
    let some : not (length word == 0) ≡ true = ap not (ne_eqb (length word) 0 (λ e. omega (arith, e, is.some))) in
    let whole : (is_numeral 16 word && nat_le (digits_value 16 word) 18446744073709551615) ≡ true =
    and_from (is_numeral 16 word) (nat_le (digits_value 16 word) 18446744073709551615)
    (and_from (not (length word == 0)) (list_all (λ (b : ℕ). is_digit b 16) word) some (are_digits word is.each))
    (le-leb (digits_value 16 word) 18446744073709551615 (omega (arith, is.value, low))) in
    ap (λ (o : Option (List ℕ)). option_map_or (λ (ds : List ℕ). is_some (numeral 16 ds)) o false) (after_found (codes "0x") word)
    ∙ ap (λ (t : Bool). is_some (if t then Some (digits_value 16 word) else None)) whole

pub address_bytes : (n : ℕ) → n < 2 ^ 64 → list_all is_word_byte (codes "0x" ++ hexadecimal n 16) ≡ true
address_bytes n low = digit_bytes (padded n) (written n low).each
