-- A word that is read digit by digit.
use Rattle.std.proofs.Common.{◌≡◌, ℕ, suc, ◌+◌, ◌*◌, ◌<◌, ◌≤◌, Bool, true, false, cond, not, ◌&&◌, List, [], ◌∷◌, length, drop, get_or, Option, Some, None, refl, sym, ap, inl, inr, ◌∙◌, ltb, leb, eqb, arith}
use Rattle.std.specs.Char.{digit_value, is_digit}
use Rattle.std.specs.List.{list_all}
use Rattle.std.specs.Str.Parse.{digits_value, digits_value_after}
use Rattle.std.proofs.Math.Seq.{drop-cons}
use Rattle.std.proofs.lemmas.Bool.{cases_lt, le-leb, lt-leb, ne_eqb}
use Rattle.text_lines.specs.Numbers.{is_numeral, numeral, number_of}

-- the largest number of 64 bits
abbrev pub most : ℕ
most = 18446744073709551615

-- the number that these digits make after those of n
abbrev pub numeral_after : ℕ → ℕ → List ℕ → Option ℕ
numeral_after radix n [] = Some n
numeral_after radix n (c ∷ cs) =
    cond (ltb (digit_value c) radix && leb (n * radix + digit_value c) most) (numeral_after radix (n * radix + digit_value c) cs) None

product-ge : (n radix : ℕ) → 2 ≤ radix → n ≤ n * radix
product-ge n radix some = grind arith

-- more digits don't make a number smaller
digits_value_after-ge : (radix n : ℕ) (cs : List ℕ) → 2 ≤ radix → n ≤ digits_value_after radix n cs
digits_value_after-ge radix n [] some = omega arith
digits_value_after-ge radix n (c ∷ cs) some =
    omega (arith, product-ge n radix some, digits_value_after-ge radix (n * radix + digit_value c) cs some)

-- one digit more, if the number so far fits, and if it doesn't
number_fits : (digit others below : Bool) (v : ℕ) (read : Option ℕ) → read ≡ cond (others && below) (Some v) None → cond (digit && true) read None ≡ cond (digit && others && below) (Some v) None
number_fits true others below v read is = is
number_fits false others below v read is = refl

number_grows : (digit others : Bool) (v : ℕ) (read : Option ℕ) → cond (digit && false) read None ≡ cond (digit && others && false) (Some v) None
number_grows true true v read = refl
number_grows true false v read = refl
number_grows false others v read = refl

numeral_after_is : (radix n : ℕ) (cs : List ℕ) → 2 ≤ radix → n ≤ most
    → numeral_after radix n cs ≡ cond (list_all (λ c. is_digit c radix) cs && leb (digits_value_after radix n cs) most) (Some (digits_value_after radix n cs)) None
numeral_after_is radix n [] some low = grind arith
numeral_after_is radix n (c ∷ cs) some low =
    let m = n * radix + digit_value c in
    let v = digits_value_after radix m cs in
    let others = list_all (λ d. is_digit d radix) cs in
    let fits : m ≤ most → numeral_after radix n (c ∷ cs) ≡ cond (is_digit c radix && others && leb v most) (Some v) None = λ small.
    rw (le-leb m most small) (number_fits (ltb (digit_value c) radix) others (leb v most) v (numeral_after radix m cs) (numeral_after_is radix m cs some small)) in
    let grows : most < m → numeral_after radix n (c ∷ cs) ≡ cond (is_digit c radix && others && leb v most) (Some v) None = λ large.
    rw (lt-leb m most large, lt-leb v most (omega (arith, large, digits_value_after-ge radix m cs some))) (number_grows (ltb (digit_value c) radix) others v (numeral_after radix m cs)) in
    elim (cases_lt most m) [ inl large ↦ grows large | inr small ↦ fits small ]

-- one or more digits, read from the first on
pub numeral_from_zero : (radix : ℕ) (digits : List ℕ) → 2 ≤ radix → 0 < length digits → numeral radix digits ≡ numeral_after radix 0 digits
numeral_from_zero radix [] some long = absurd (omega arith)
numeral_from_zero radix (c ∷ cs) some long =
    let digits = c ∷ cs in
    let bytes : eqb (length digits) 0 ≡ false = ne_eqb (length digits) 0 (λ e. omega (arith, e)) in
    ap (λ t. cond (not t && list_all (λ c. is_digit c radix) digits && leb (digits_value radix digits) most) (Some (digits_value radix digits)) None) bytes
    ∙ sym (numeral_after_is radix 0 digits some (omega arith))

one_more : (n : ℕ) → suc n ≡ n + 1
one_more n = omega arith

-- one byte
pub numeral_step : (radix n i : ℕ) (digits : List ℕ) → i < length digits → numeral_after radix n (drop i digits)
    ≡ cond (ltb (digit_value (get_or digits i 0)) radix && leb (n * radix + digit_value (get_or digits i 0)) most) (numeral_after radix (n * radix + digit_value (get_or digits i 0)) (drop (i + 1) digits)) None
numeral_step radix n i digits within =
    let c = get_or digits i 0 in
    let m = n * radix + digit_value c in
    ap (numeral_after radix n) (drop-cons digits i 0 within) ∙ ap (λ j. cond (ltb (digit_value c) radix && leb m most) (numeral_after radix m (drop j digits)) None) (one_more i)

-- a value of digits, as a number of 64 bits and as one of 32
none_below : (digits : Bool) (v : ℕ) → None ≡ cond (digits && leb v most) (Some v) None → cond (digits && leb v 4294967295) (Some v) None ≡ None
none_below false v none = refl
none_below true v none = elim (cases_lt 4294967295 v) [
  | inl large ↦ rw (lt-leb v 4294967295 large) refl
  | inr small ↦ (let is : None ≡ Some v = rw (le-leb v most (omega (arith, small))) at none in absurd cc)
]

some_below : (digits : Bool) (v n : ℕ) → Some n ≡ cond (digits && leb v most) (Some v) None → n ≤ 4294967295 → cond (digits && leb v 4294967295) (Some v) None ≡ Some n
some_below false v n is small = absurd cc
some_below true v n is small = elim (cases_lt most v) [
  | inl large ↦ (let none : Some n ≡ None = rw (lt-leb v most large) at is in absurd cc)
  | inr fits ↦ (let same : Some n ≡ Some v = rw (le-leb v most fits) at is in
      let number : n ≡ v = cc in
      rw (le-leb v 4294967295 (omega (arith, number, small))) (sym same))
]

large_below : (digits : Bool) (v n : ℕ) → Some n ≡ cond (digits && leb v most) (Some v) None → 4294967295 < n → cond (digits && leb v 4294967295) (Some v) None ≡ None
large_below false v n is large = refl
large_below true v n is large = elim (cases_lt most v) [
  | inl more ↦ rw (lt-leb v 4294967295 (omega (arith, more))) refl
  | inr fits ↦ (let same : Some n ≡ Some v = rw (le-leb v most fits) at is in
      let number : n ≡ v = cc in
      rw (lt-leb v 4294967295 (omega (arith, number, large))) refl)
]

-- a word that writes no number of 64 bits writes none of 32 bits
pub number_none : (word : List ℕ) → None ≡ numeral 10 word → number_of word ≡ None
number_none word none = none_below (is_numeral 10 word) (digits_value 10 word) none

-- a number that fits 32 bits
pub number_some : (word : List ℕ) (n : ℕ) → Some n ≡ numeral 10 word → n ≤ 4294967295 → number_of word ≡ Some n
number_some word n is small = some_below (is_numeral 10 word) (digits_value 10 word) n is small

-- a number that doesn't
pub number_large : (word : List ℕ) (n : ℕ) → Some n ≡ numeral 10 word → 4294967295 < n → number_of word ≡ None
number_large word n is large = large_below (is_numeral 10 word) (digits_value 10 word) n is large
