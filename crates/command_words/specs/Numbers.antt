-- The numbers that the values of options stand for.
use Rattle.std.specs.Prelude.{ℕ, ◌==◌, ◌&&◌, Bool, true, false, List, length, nat_le, if◌then◌else◌, Option, Some, None, option_and_then}
use Rattle.std.specs.List.{list_any, position_from}
use Rattle.std.specs.Str.{all_ascii_digits, bytes_eq}
use Rattle.std.specs.Str.Parse.{digits_value, without_leading_plus}

-- What the value of an option may be: a decimal number from the least to the most, one of these numbers, one of these
-- words, or any word, as the name of a file that is read.
pub data Values : Type 0 where
  Number : (least most : ℕ) → Values
  OneOf : (numbers : List ℕ) → Values
  Listed : (words : List (List ℕ)) → Values
  FileName : Values

-- the value names a file
abbrev pub is_file_name : Values → Bool
is_file_name FileName = true
is_file_name values = false

-- the number that a word writes in decimal, within a range; leading zeros are allowed, and one plus before them
abbrev pub number_within : (least most : ℕ) → List ℕ → Option ℕ
number_within least most word =
    let digits = without_leading_plus word in
    let number = digits_value 10 digits in
    if nat_le 1 (length digits) && all_ascii_digits digits
    && nat_le least number && nat_le number most then Some number else None

-- a number is one of these
abbrev pub has_number : (numbers : List ℕ) → ℕ → Bool
has_number numbers number = list_any (λ one. one == number) numbers

-- the number of 64 bits that a word writes in decimal, if it is one of these
abbrev pub number_among : (numbers : List ℕ) → List ℕ → Option ℕ
number_among numbers word =
    option_and_then (λ number. if has_number numbers number then Some number else None) (number_within 0 18446744073709551615 word)

-- the number that a value stands for: the one that it writes, or its place among the listed words, from 0; the name of a
-- file stands for none
abbrev pub number_meant : Values → List ℕ → Option ℕ
number_meant (Number least most) value = number_within least most value
number_meant (OneOf numbers) value = number_among numbers value
number_meant (Listed words) value = position_from (bytes_eq value) 0 words
number_meant FileName value = None
