-- Bytes that need no escape in a string.
use Rattle.std.proofs.Common.{◌≡◌, ℕ, ◌+◌, ◌/◌, ◌%◌, ◌<◌, ◌≤◌, ◌^◌, ◌++◌, ◌∙◌, true, false, cond, inl, inr, lit<, List, [], ◌∷◌, refl, sym, ap, ap₂, arith}
use Rattle.std.specs.Prelude.{codes, decimal, nat_lt}
use Rattle.std.specs.Char.{digit_char}
use Rattle.std.specs.Fmt.{digit_glyph, digits}
use Rattle.std.specs.List.{list_all}
use Rattle.std.proofs.lemmas.Bool.{and_parts, cases_lt, cond-false, cond-true, eqb-false, le-ltb, leb-true, lt-ltb, not-true}
use Rattle.std.proofs.lemmas.Fmt.{decimal_by_steps}
use Rattle.std.proofs.lemmas.Grind.{flat_map-append}
use Rattle.json.specs.Print.{escape, escape_byte, escape_letter}
use Rattle.json.proofs.Printed.Strings.{escape_byte_plain}
use Rattle.function_names.specs.Name.{number_text}
use Rattle.xray_io.specs.Piece.{hexadecimal}
use Rattle.xray_io.proofs.HexDigits.{left_all, left_last, left_next}
use Rattle.trace_forms.specs.private.Texts.{is_plain_byte}

-- a byte that needs none
pub plain_byte : (b : ℕ) → is_plain_byte b ≡ true → escape_byte b ≡ b ∷ []
plain_byte b is =
    let both = and_parts _ _ is in
    let first = and_parts _ _ both.0 in
    escape_byte_plain b (eqb-false b 34 (not-true _ first.1)) (eqb-false b 92 (not-true _ both.1)) (leb-true 32 b first.0)

-- bytes that need none
pub plain_bytes : (bytes : List ℕ) → list_all is_plain_byte bytes ≡ true → escape bytes ≡ bytes
plain_bytes [] all = refl
plain_bytes (b ∷ bytes) all =
    let both = and_parts (is_plain_byte b) (list_all is_plain_byte bytes) all in
    ap₂ (λ (x y : List ℕ). x ++ y) (plain_byte b both.0) (plain_bytes bytes both.1)

-- a digit needs none
plain_digit : (d : ℕ) → d < 10 → escape_byte (48 + d) ≡ (48 + d) ∷ []
plain_digit d low = escape_byte_plain (48 + d) (λ e. omega (arith, e)) (λ e. omega (arith, e)) (omega arith)

plain_one : (n : ℕ) → n < 10 → escape ((48 + n) ∷ []) ≡ (48 + n) ∷ []
plain_one n low = ap (λ (x : List ℕ). x ++ []) (plain_digit n low)

plain_more : (n : ℕ) (digits : List ℕ) → 10 ≤ n → escape digits ≡ digits → escape (digits ++ (48 + n % 10) ∷ []) ≡ digits ++ (48 + n % 10) ∷ []
plain_more n digits some plain =
    flat_map-append escape_byte digits ((48 + n % 10) ∷ [])
    ∙ ap₂ (λ (x y : List ℕ). x ++ y) plain (plain_one (n % 10) (omega arith))

plain_decimal : (n : ℕ) → n < 2 ^ 64 → escape (decimal n) ≡ decimal n
plain_decimal n low = decimal_by_steps (λ (m : ℕ) (digits : List ℕ). escape digits ≡ digits) plain_one plain_more n low

-- the text for a name that isn't known
pub plain_number : (id : ℕ) → id < 2 ^ 64 → escape (number_text id) ≡ number_text id
unfolding escape_byte
plain_number id low = ap (λ (t : List ℕ). 35 ∷ t) (plain_decimal id low)

-- ---- bytes that need one

-- a byte with a short escape
pub lettered : (b letter : ℕ) → letter ≡ escape_letter b → 0 < letter → 92 ∷ letter ∷ [] ≡ escape_byte b
unfolding escape_byte
lettered b letter is some =
    let short : nat_lt 0 (escape_letter b) ≡ true = ap (λ (l : ℕ). nat_lt 0 l) (sym is) ∙ lt-ltb 0 letter some in
    ap (λ (l : ℕ). 92 ∷ l ∷ []) is ∙ sym (cond-true (nat_lt 0 (escape_letter b)) _ _ short)

-- a byte without one
not_lettered : (b : ℕ) → escape_letter b ≡ 0
    → escape_byte b ≡ cond (nat_lt b 32) (92 ∷ 117 ∷ 48 ∷ 48 ∷ digit_char (b / 16) ∷ digit_char (b % 16) ∷ []) (b ∷ [])
unfolding escape_byte
not_lettered b none = cond-false (nat_lt 0 (escape_letter b)) _ _ (ap (λ (l : ℕ). nat_lt 0 l) none)

-- the hexadecimal digits of a number below 32
one_digit : (b : ℕ) → b < 16 → digits 16 false b ≡ digit_glyph false (b % 16) ∷ []
one_digit b low = sym (left_all b) ∙ left_last 16 b [] (lit< tt) (omega arith)

two_digits : (b : ℕ) → 16 ≤ b → b < 32 → digits 16 false b ≡ digit_glyph false (b / 16 % 16) ∷ digit_glyph false (b % 16) ∷ []
two_digits b high low =
    sym (left_all b)
    ∙ (left_next 16 b [] (lit< tt) (omega arith) ∙ left_last 15 (b / 16) (digit_glyph false (b % 16) ∷ []) (lit< tt) (omega arith))

control_text : (b : ℕ) → b < 32 → codes "\\u" ++ (hexadecimal b 4 ++ []) ≡ 92 ∷ 117 ∷ 48 ∷ 48 ∷ digit_char (b / 16) ∷ digit_char (b % 16) ∷ []
control_text b low =
    elim (cases_lt b 16) [
      | inl few ↦
          let one = one_digit b few in
          let high : b / 16 ≡ 0 = omega arith in
          rw (one, high) refl
      | inr more ↦
          let two = two_digits b more low in
          let high : b / 16 ≡ 1 = omega arith in
          rw (two, high) refl
    ]

-- a control character
pub control_byte : (b n : ℕ) → n ≡ b → escape_letter b ≡ 0 → b < 32 → codes "\\u" ++ (hexadecimal n 4 ++ []) ≡ escape_byte b
control_byte b n same none low =
    ap (λ (k : ℕ). codes "\\u" ++ (hexadecimal k 4 ++ [])) same
    ∙ (control_text b low ∙ sym (not_lettered b none ∙ cond-true (nat_lt b 32) _ _ (lt-ltb b 32 low)))

-- any other byte
pub other_byte : (b : ℕ) → escape_letter b ≡ 0 → 32 ≤ b → b ∷ [] ≡ escape_byte b
other_byte b none high = sym (not_lettered b none ∙ cond-false (nat_lt b 32) _ _ (le-ltb b 32 high))
