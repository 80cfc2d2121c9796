-- Numbers that are written in digits, as they are read.
use Rattle.std.proofs.Common.{◌≡◌, ◌<◌, ◌≤◌, ◌^◌, ℕ, true, false, cond, not, List, [], ◌∷◌, ◌++◌, ◌==◌, length, Some, None, refl, ap, subst, ◌∙◌, eqb, leb, arith, is_some}
use Rattle.std.specs.Prelude.{codes, decimal}
use Rattle.std.specs.Char.{digit_value, is_digit}
use Rattle.std.specs.Fmt.{digits}
use Rattle.std.specs.List.{list_all}
use Rattle.std.specs.Str.Parse.{AllDigits, IsNumeral, digits_value}
use Rattle.std.proofs.lemmas.Bool.{and_from, not_from_false, le-leb, lt-ltb, ne_eqb}
use Rattle.std.proofs.lemmas.Fmt.{digits_is_IsNumeral}
use Rattle.text_lines.specs.Numbers.{is_numeral, numeral_within, number_of}
use Rattle.map_names.specs.Entries.{after_label, is_address}

digits_of_radix : (radix : ℕ) (ds : List ℕ) → AllDigits radix ds → list_all (λ byte. is_digit byte radix) ds ≡ true
digits_of_radix radix [] h = refl
digits_of_radix radix (c ∷ cs) h =
    and_from (is_digit c radix) (list_all (λ byte. is_digit byte radix) cs) (lt-ltb (digit_value c) radix h.0) (digits_of_radix radix cs h.1)

numeral_reads : (radix most n : ℕ) (ds : List ℕ) → IsNumeral radix ds → digits_value radix ds ≡ n → n ≤ most → numeral_within radix most ds ≡ Some n
numeral_reads radix most n ds h value small =
    let some : not (eqb (length ds) 0) ≡ true = not_from_false (eqb (length ds) 0) (ne_eqb (length ds) 0 (λ e. omega (arith, h.0, e))) in
    let is : is_numeral radix ds ≡ true = and_from (not (eqb (length ds) 0)) (list_all (λ byte. is_digit byte radix) ds) some (digits_of_radix radix ds h.1) in
    let fits : leb (digits_value radix ds) most ≡ true = le-leb (digits_value radix ds) most (omega (arith, value, small)) in
    ap (λ t. cond t (Some (digits_value radix ds)) None) (and_from (is_numeral radix ds) (leb (digits_value radix ds) most) is fits) ∙ ap Some value

-- an id is read
pub id_reads : (n : ℕ) → n ≤ 4294967295 → number_of (decimal n) ≡ Some n
id_reads n small =
    let is = digits_is_IsNumeral 10 false (omega arith) (omega arith) n (omega (arith, small)) in numeral_reads 10 4294967295 n (decimal n) is.0 is.1 small

-- an address is read
pub address_reads : (n : ℕ) → n ≤ 18446744073709551615 → is_address (codes "0x" ++ digits 16 true n) ≡ true
unfolding is_address after_label
address_reads n small =
    let is = digits_is_IsNumeral 16 true (omega arith) (omega arith) n (omega (arith, small)) in
    ap is_some (numeral_reads 16 18446744073709551615 n (digits 16 true n) is.0 is.1 small)

-- no digit ends a line
pub no_line_feed : (radix : ℕ) (ds : List ℕ) → radix ≤ 16 → AllDigits radix ds → list_all (λ b. not (b == 10)) ds ≡ true
no_line_feed radix [] small h = refl
no_line_feed radix (c ∷ cs) small h =
    let isnt : (c == 10) ≡ false = ne_eqb c 10 (λ e. let P : ℕ → Type 0 = λ x. digit_value x < radix in omega (arith, small, subst P e h.0)) in
    and_from (not (c == 10)) (list_all (λ b. not (b == 10)) cs) (not_from_false (c == 10) isnt) (no_line_feed radix cs small h.1)

pub decimal_line : (n : ℕ) → n < 2 ^ 64 → list_all (λ b. not (b == 10)) (decimal n) ≡ true
decimal_line n small = no_line_feed 10 (decimal n) (omega arith) (digits_is_IsNumeral 10 false (omega arith) (omega arith) n (omega (arith, small))).0.1

pub address_line : (n : ℕ) → n < 2 ^ 64 → list_all (λ b. not (b == 10)) (digits 16 true n) ≡ true
address_line n small = no_line_feed 16 (digits 16 true n) (omega arith) (digits_is_IsNumeral 16 true (omega arith) (omega arith) n (omega (arith, small))).0.1
