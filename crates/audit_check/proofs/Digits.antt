-- The digits of numbers.
use Rattle.std.proofs.Common.{◌≡◌, ◌<◌, ◌≤◌, ◌+◌, ◌/◌, ◌%◌, nat_eq, cond, ℕ, zero, suc, Bool, true, false, List, [], ◌∷◌, ◌++◌, length, refl, arith}
use Rattle.std.specs.Prelude.{decimal, not}
use Rattle.std.specs.Char.{is_ascii_digit}
use Rattle.std.specs.Fmt.{digits, digits_onto, digit_glyph}
use Rattle.std.proofs.lemmas.Bool.Decides.{nat_tests}
use Rattle.audit_check.specs.private.Parts.{BeginsNoDigit}
use Rattle.audit_check.specs.private.Taking.{digit_count}
use Rattle.audit_check.proofs.RowLines.{HasNoFeed}

-- each byte is a digit
abbrev pub AreDigits : List ℕ → Type 0
AreDigits [] = Unit {0}
AreDigits (byte ∷ bytes) = (48 ≤ byte) × (byte ≤ 57) × AreDigits bytes

glyph_low : (d : ℕ) → d < 10 → 48 ≤ digit_glyph false d
glyph_low d small = grind (arith, nat_tests)

glyph_high : (d : ℕ) → d < 10 → digit_glyph false d ≤ 57
glyph_high d small = grind (arith, nat_tests)

digits_onto_are : (k n : ℕ) (following : List ℕ) → AreDigits following → AreDigits (digits_onto k 10 false n following)
digits_onto_are zero n following are = are
digits_onto_are (suc k) n following are =
    by_rest (nat_eq (n / 10) 0) (digits_onto_are k (n / 10) (digit_glyph false (n % 10) ∷ following) (glyph_low (n % 10) (omega arith), glyph_high (n % 10) (omega arith), are))
  where
    by_rest : (none : Bool) → AreDigits (digits_onto k 10 false (n / 10) (digit_glyph false (n % 10) ∷ following))
        → AreDigits (cond none (digit_glyph false (n % 10) ∷ following) (digits_onto k 10 false (n / 10) (digit_glyph false (n % 10) ∷ following)))
    by_rest true more = (glyph_low (n % 10) (omega arith), glyph_high (n % 10) (omega arith), are)
    by_rest false more = more

pub decimal_are : (n : ℕ) → AreDigits (decimal n)
unfolding digits
decimal_are n = digits_onto_are 64 n [] tt

-- no digit is a line feed
feeds_of : (bytes : List ℕ) → AreDigits bytes → HasNoFeed bytes
feeds_of [] are = tt
feeds_of (byte ∷ bytes) are = ((λ (e : byte ≡ 10). omega (arith, e, are.0)), feeds_of bytes are.2)

pub decimal_feeds : (n : ℕ) → HasNoFeed (decimal n)
decimal_feeds n = feeds_of (decimal n) (decimal_are n)

-- ---- where a number ends

digit_passes : (byte : ℕ) → 48 ≤ byte → byte ≤ 57 → not (is_ascii_digit byte) ≡ false
digit_passes byte low high = grind (arith, nat_tests)

not_false : (b : Bool) → b ≡ false → not b ≡ true
not_false true e = absurd cc
not_false false e = refl

pub digits_end : (bytes rest : List ℕ) → AreDigits bytes → BeginsNoDigit rest → digit_count (bytes ++ rest) ≡ length bytes
digits_end [] [] are none = refl
digits_end [] (byte ∷ rest) are none = rw (not_false (is_ascii_digit byte) none) refl
digits_end (byte ∷ bytes) rest are none = rw (digit_passes byte are.0 are.1) (let later = digits_end bytes rest are.2 none in omega (arith, later))

pub count_within : (row : List ℕ) → digit_count row ≤ length row
count_within [] = omega arith
count_within (byte ∷ row) = by (not (is_ascii_digit byte)) (count_within row)
  where
    by : (other : Bool) → digit_count row ≤ length row → cond (not other) (1 + digit_count row) 0 ≤ suc (length row)
    by true low = omega arith
    by false low = omega arith
