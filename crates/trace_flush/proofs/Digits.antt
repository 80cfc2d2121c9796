-- Numbers in a text, told apart from what follows them.
use Rattle.std.proofs.Common.{◌≡◌, ◌<◌, ◌≤◌, ◌/◌, ◌%◌, nat_eq, cond, ℕ, zero, suc, Bool, true, false, List, [], ◌∷◌, ◌++◌, refl, arith}
use Rattle.std.specs.Prelude.{decimal}
use Rattle.std.specs.Fmt.{digits, digits_onto, digit_glyph}
use Rattle.std.proofs.lemmas.Bool.Decides.{nat_tests}

-- the bytes are all above one
abbrev pub IsAbove : ℕ → List ℕ → Type 0
IsAbove low [] = Unit {0}
IsAbove low (x ∷ xs) = (low < x) × IsAbove low xs

-- bytes that are above what follows them end where it begins
pub split_at : (low : ℕ) (xs ys : List ℕ) (c d : ℕ) (r s : List ℕ) → IsAbove low xs → IsAbove low ys → c ≤ low → d ≤ low
    → xs ++ c ∷ r ≡ ys ++ d ∷ s → (xs ≡ ys) × (c ∷ r ≡ d ∷ s)
split_at low [] [] c d r s above above' small small' same = (refl, same)
split_at low [] (y ∷ ys) c d r s above above' small small' same = let first : c ≡ y = cc in absurd (omega (arith, above'.0))
split_at low (x ∷ xs) [] c d r s above above' small small' same = let first : x ≡ d = cc in absurd (omega (arith, above.0))
split_at low (x ∷ xs) (y ∷ ys) c d r s above above' small small' same =
    let rest = split_at low xs ys c d r s above.1 above'.1 small small' cc in
    let front = rest.0 in
    (cc, rest.1)

-- the glyphs of digits
glyph_above : (d : ℕ) → d < 10 → 47 < digit_glyph false d
glyph_above d small = grind (arith, nat_tests)

digits_above : (k n : ℕ) (following : List ℕ) → IsAbove 47 following → IsAbove 47 (digits_onto k 10 false n following)
digits_above zero n following above = above
digits_above (suc k) n following above = by_rest (nat_eq (n / 10) 0) (digits_above k (n / 10) (digit_glyph false (n % 10) ∷ following) (glyph_above (n % 10) (omega arith), above))
  where
    by_rest : (none : Bool) → IsAbove 47 (digits_onto k 10 false (n / 10) (digit_glyph false (n % 10) ∷ following))
        → IsAbove 47 (cond none (digit_glyph false (n % 10) ∷ following) (digits_onto k 10 false (n / 10) (digit_glyph false (n % 10) ∷ following)))
    by_rest true more = (glyph_above (n % 10) (omega arith), above)
    by_rest false more = more

pub decimal_above : (n : ℕ) → IsAbove 47 (decimal n)
unfolding digits
decimal_above n = digits_above 64 n [] tt

-- a number, and what follows it
pub number_split : (m n c d : ℕ) (r s : List ℕ) → c ≤ 47 → d ≤ 47 → decimal m ++ c ∷ r ≡ decimal n ++ d ∷ s
    → (decimal m ≡ decimal n) × (c ∷ r ≡ d ∷ s)
number_split m n c d r s small small' same = split_at 47 (decimal m) (decimal n) c d r s (decimal_above m) (decimal_above n) small small' same

-- what follows the same bytes
pub following : (front r s : List ℕ) → front ++ r ≡ front ++ s → r ≡ s
following [] r s same = same
following (x ∷ front) r s same = following front r s cc
