-- The text of output bytes, byte by byte.
use Rattle.std.proofs.Common.{◌≡◌, ℕ, ◌+◌, ◌<◌, ◌≤◌, ◌/◌, ◌%◌, ◌==◌, Bool, true, false, List, [], ◌∷◌, ◌++◌, length, take, drop, get_or, refl, sym, ap, ◌∙◌, arith, append_assoc}
use Rattle.std.specs.Prelude.{codes, nat_lt}
use Rattle.std.specs.Fmt.{digits, digit_glyph}
use Rattle.std.specs.List.{flat_map}
use Rattle.std.proofs.lemmas.Bool.{eq-eqb, ne_eqb, ltb-true, ltb-false}
use Rattle.std.proofs.lemmas.List.{append-nil, take_more, take-append-drop}
use Rattle.std.proofs.lemmas.Grind.{flat_map-append}
use Rattle.machine_step.specs.Texts.{hex_byte, output_text, output_line, line_feed}
use Rattle.xray_io.specs.Piece.{hexadecimal}

-- the digits of a number below 16, and of one below 256
one_digit : (n : ℕ) → n < 16 → digits 16 false n ≡ digit_glyph false n ∷ []
unfolding digits
one_digit n small =
    let none : (n / 16 == 0) ≡ true = eq-eqb (n / 16) 0 (omega arith) in
    let same : n % 16 ≡ n = omega arith in
    rw (none, same) refl

two_digits : (n : ℕ) → 16 ≤ n → n < 256 → digits 16 false n ≡ digit_glyph false (n / 16) ∷ digit_glyph false (n % 16) ∷ []
unfolding digits
two_digits n large small =
    let some : (n / 16 == 0) ≡ false = ne_eqb (n / 16) 0 (λ is. omega arith) in
    let none : (n / 16 / 16 == 0) ≡ true = eq-eqb (n / 16 / 16) 0 (omega arith) in
    let same : n / 16 % 16 ≡ n / 16 = omega arith in
    rw (some, none, same) refl

-- a byte as two digits
byte_by_size : (b : ℕ) → b < 256 → (low : Bool) → nat_lt b 16 ≡ low → hexadecimal b 2 ≡ hex_byte b
byte_by_size b small true is =
    let below = ltb-true b 16 is in
    let high : b / 16 ≡ 0 = omega arith in
    let same : b % 16 ≡ b = omega arith in
    rw (high, same, one_digit b below, one_digit 0 (omega arith)) refl
byte_by_size b small false is =
    let above = ltb-false b 16 is in
    rw (two_digits b above small, one_digit (b / 16) (omega arith), one_digit (b % 16) (omega arith)) refl

pub byte_digits : (b : ℕ) → b < 256 → hexadecimal b 2 ≡ hex_byte b
byte_digits b small = byte_by_size b small (nat_lt b 16) refl

some_output : (output : List ℕ) → 0 < length output → output_text output ≡ flat_map hex_byte output
some_output [] some = absurd (omega arith)
some_output (b ∷ bytes) some = refl

-- the bytes so far, and one more
pub output_more : (output : List ℕ) (i b : ℕ) → i < length output → b ≡ get_or output i 0 → b < 256
    → (codes "output " ++ flat_map hex_byte (take i output)) ++ hexadecimal b 2 ≡ codes "output " ++ flat_map hex_byte (take (i + 1) output)
output_more output i b below is small =
    let one : hexadecimal b 2 ≡ flat_map hex_byte (get_or output i 0 ∷ []) = byte_digits b small ∙ (ap hex_byte is ∙ sym (append-nil (hex_byte (get_or output i 0)))) in
    let all : flat_map hex_byte (take i output) ++ flat_map hex_byte (get_or output i 0 ∷ []) ≡ flat_map hex_byte (take (i + 1) output) =
    sym (ap (flat_map hex_byte) (take_more output i 0 below) ∙ flat_map-append hex_byte (take i output) (get_or output i 0 ∷ [])) in
    append_assoc (codes "output ") (flat_map hex_byte (take i output)) (hexadecimal b 2)
    ∙ ap (λ t. codes "output " ++ t) (ap (λ t. flat_map hex_byte (take i output) ++ t) one ∙ all)

-- the bytes so far, and the rest
pub output_split : (output : List ℕ) (i : ℕ) → 0 < length output
    → (codes "output " ++ flat_map hex_byte (take i output)) ++ (flat_map hex_byte (drop i output) ++ line_feed) ≡ output_line output
output_split output i some =
    let bytes : flat_map hex_byte (take i output) ++ flat_map hex_byte (drop i output) ≡ output_text output =
    sym (flat_map-append hex_byte (take i output) (drop i output)) ∙ (ap (flat_map hex_byte) (take-append-drop i output) ∙ sym (some_output output some)) in
    append_assoc (codes "output ") (flat_map hex_byte (take i output)) (flat_map hex_byte (drop i output) ++ line_feed)
    ∙ ap (λ t. codes "output " ++ t) (sym (append_assoc (flat_map hex_byte (take i output)) (flat_map hex_byte (drop i output)) line_feed) ∙ ap (λ t. t ++ line_feed) bytes)
