-- The number that a word writes.
use Rattle.std.proofs.Common.{◌≡◌, ◌<◌, ◌≤◌, ◌^◌, ℕ, Bool, true, false, cond, ◌&&◌, List, length, Some, None, Ok, Err, refl, arith, leb}
use Rattle.std.specs.Str.{all_ascii_digits}
use Rattle.std.specs.Str.Parse.{digits_value, without_leading_plus, ParsesUnsigned}
use Rattle.std.proofs.lemmas.Str.Parse.{IsNumeralModel, numerals_by_value, tells_all_ascii_digits}
use Rattle.std.proofs.lemmas.Bool.{le-leb, leb-true}
use Rattle.command_words.specs.Numbers.{number_within}

digits : IsNumeralModel (λ ds. all_ascii_digits ds ≡ true) (digits_value 10)
digits = numerals_by_value _ tells_all_ascii_digits

-- a word that is read as a number in the range
pub number_found : (E : Type 0) (least most n : ℕ) (word : List ℕ) → ParsesUnsigned {E = E} 64 10 word (Ok n) → least ≤ n → n ≤ most
    → number_within least most word ≡ Some n
number_found E least most n word reads low high =
    let ds = without_leading_plus word in
    let some : leb 1 (length ds) ≡ true = le-leb 1 (length ds) reads.0.0.0 in
    let all : all_ascii_digits ds ≡ true = digits.from ds reads.0.0.1 in
    rw (some, all, ← reads.1, le-leb least n low, le-leb n most high) refl

-- a word that isn't read as a number
refused : (some all low high : Bool) (n : ℕ) → ((some ≡ true) → (all ≡ true) → (high ≡ true) → ⊥)
    → cond (some && all && low && high) (Some n) None ≡ None
refused true true true true n never = absurd (never refl refl refl)
refused true true true false n never = refl
refused true true false high n never = refl
refused true false low high n never = refl
refused false all low high n never = refl

pub no_number : (E : Type 0) (least most : ℕ) (word : List ℕ) (e : E) → ParsesUnsigned 64 10 word (Err e) → most < 2 ^ 64
    → number_within least most word ≡ None
no_number E least most word e reads small =
    let ds = without_leading_plus word in
    let n = digits_value 10 ds in
    refused (leb 1 (length ds)) (all_ascii_digits ds) (leb least n) (leb n most) n
    (λ some all high. reads ((leb-true 1 (length ds) some, digits.to ds all), omega (arith, leb-true n most high)))
