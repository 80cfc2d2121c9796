-- The hexadecimal digits of a number, last digit first.
use Rattle.std.proofs.Common.{◌≡◌, ℕ, zero, suc, ◌+◌, ◌-◌, ◌/◌, ◌%◌, ◌^◌, ◌<◌, ◌≤◌, true, List, [], ◌∷◌, length, drop, slice_set, refl, ap, ◌∙◌, arith}
use Rattle.std.specs.Fmt.{digits, digits_onto, digit_glyph}
use Rattle.std.proofs.lemmas.List.{drop-set}
use Rattle.std.proofs.Math.Nat.{div-lt_iff_lt-mul, pow-suc}
use Rattle.std.proofs.lemmas.Bool.Decides.{nat_tests}

-- the digits of n, with room for `start` of them, before the digits that are there
unfoldable pub digits_left : ℕ → ℕ → List ℕ → List ℕ
digits_left start n after = digits_onto (start + 48) 16 true n after

-- all digits are still to come
pub left_all : (n : ℕ) → digits_left 16 n [] ≡ digits 16 true n
unfolding digits digits_left
left_all n = refl

-- room for one digit and for s more
room : (s : ℕ) → suc s + 48 ≡ suc (s + 48)
room s = omega arith

last_onto : (k n : ℕ) (after : List ℕ) → n / 16 ≡ 0 → digits_onto (suc k) 16 true n after ≡ digit_glyph true (n % 16) ∷ after
last_onto k n after e = grind (arith, nat_tests)

next_onto : (k n : ℕ) (after : List ℕ) → 0 < n / 16 → digits_onto (suc k) 16 true n after ≡ digits_onto k 16 true (n / 16) (digit_glyph true (n % 16) ∷ after)
next_onto k n after more = grind (arith, nat_tests)

-- the last digit, if it is the only one
pub left_last : (start n : ℕ) (after : List ℕ) → 0 < start → n / 16 ≡ 0 → digits_left start n after ≡ digit_glyph true (n % 16) ∷ after
unfolding digits_left
left_last zero n after h e = absurd (omega arith)
left_last (suc s) n after h e = ap (λ (k : ℕ). digits_onto k 16 true n after) (room s) ∙ last_onto (s + 48) n after e

-- the last digit, and those before it
pub left_next : (start n : ℕ) (after : List ℕ) → 0 < start → 0 < n / 16 → digits_left start n after ≡ digits_left (start - 1) (n / 16) (digit_glyph true (n % 16) ∷ after)
unfolding digits_left
left_next zero n after h more = absurd (omega arith)
left_next (suc s) n after h more =
    let one_less : s ≡ suc s - 1 = omega arith in
    ap (λ (k : ℕ). digits_onto k 16 true n after) (room s) ∙ next_onto (s + 48) n after more ∙ ap (λ (k : ℕ). digits_onto (k + 48) 16 true (n / 16) (digit_glyph true (n % 16) ∷ after)) one_less

-- a number of at most s digits has one digit fewer without its last
pub shorter : (s n : ℕ) → n < 16 ^ s → 0 < s → n / 16 < 16 ^ (s - 1)
shorter zero n h some = absurd (omega arith)
shorter (suc s) n h some =
    let one_less : suc s - 1 ≡ s = omega arith in
    rw one_less ((div-lt_iff_lt-mul {k = 16} {x = n} {y = 16 ^ s} (omega arith)).1 (rw pow-suc at h))

-- a number above 0 has a digit
pub has_digit : (s n : ℕ) → n < 16 ^ s → 0 < n → 0 < s
has_digit zero n h pos = omega arith
has_digit (suc s) n h pos = omega arith

-- a digit is put before those that are there
pub drop_put : (buffer : List ℕ) (start d : ℕ) → 0 < start → start ≤ length buffer → drop (start - 1) (slice_set buffer (start - 1) d) ≡ d ∷ drop start buffer
drop_put buffer start d some within =
    let one_less : start - 1 + 1 ≡ start = omega arith in
    drop-set buffer (start - 1) d (omega arith) ∙ ap (λ (k : ℕ). d ∷ drop k buffer) one_less
