-- The numbers that words write.
use Rattle.std.specs.Prelude.{ℕ, Bool, ◌&&◌, not, ◌==◌, nat_le, List, length, Option, Some, None, if◌then◌else◌}
use Rattle.std.specs.Char.{is_digit}
use Rattle.std.specs.List.{list_all}
use Rattle.std.specs.Str.Parse.{digits_value}

-- The word is one or more digits of a radix. Leading zeros are allowed, and signs aren't. Letters of either case are
-- the digits above nine.
abbrev pub is_numeral : ℕ → List ℕ → Bool
is_numeral radix word = not (length word == 0) && list_all (λ byte. is_digit byte radix) word

-- the number that a word writes in digits of a radix, if it writes one and that is at most `most`
abbrev pub numeral_within : (radix most : ℕ) → List ℕ → Option ℕ
numeral_within radix most word =
    if is_numeral radix word && nat_le (digits_value radix word) most then Some (digits_value radix word) else None

-- the number that a word writes in digits of a radix, if it fits 64 bits
abbrev pub numeral : ℕ → List ℕ → Option ℕ
numeral radix word = numeral_within radix 18446744073709551615 word

-- the number that a word writes in decimal, if it fits 32 bits
abbrev pub number_of : List ℕ → Option ℕ
number_of word = numeral_within 10 4294967295 word
