-- The assembler text of any number is read as what it says.
use Rattle.std.proofs.Common.{◌≡◌, ℕ, zero, suc, ◌+◌, ◌/◌, ◌%◌, ◌^◌, ◌<◌, ◌≤◌, Bool, true, false, cond, ◌||◌, ◌&&◌, List, [], ◌∷◌, ◌++◌, length, take, drop, Option, None, Some, refl, sym, ap, ◌∙◌, arith, eqb, leb}
use Rattle.std.specs.Prelude.{codes, decimal, nat_lt, min, option_and_then, option_map, ⊤}
use Rattle.std.specs.Int.{IsInRange}
use Rattle.std.specs.List.{AllByRecursion, AllZip, cons_option, enumerate_from, filter_map, flat_map, list_all}
use Rattle.std.specs.Str.{bytes_eq}
use Rattle.std.specs.Str.Parse.{AllDigits, digits_value}
use Rattle.std.proofs.lemmas.Bool.{and_from, and_parts, le-leb, ne_eqb}
use Rattle.std.proofs.lemmas.Fmt.{decimal_is_IsNumeral, length-decimal-le}
use Rattle.std.proofs.lemmas.Str.Parse.{tells_digits}
use Rattle.text_lines.specs.Numbers.{numeral}
use Rattle.text_lines.specs.Written.{is_word_byte, is_written_word, WrittenNumbersRead}
use Rattle.subset_decode.specs.declared.instr.Instr.TheVariants.{Mov, Out}
use Rattle.xray_image.specs.Program.{is_name_byte}
use Rattle.asm_text.specs.Language.{statement_of}
use Rattle.asm_text.specs.Names as names
use Rattle.asm_text.specs.Numbers as asm_numbers
use Rattle.asm_text.specs.Statements.{Plain, Return, Statement, Base, Does}
use Rattle.asm_text.specs.WrittenTexts.{Says}
use Rattle.soak_inputs.specs.Draws.{drawn, next}
use Rattle.soak_inputs.proofs.Statements.{always_of, call_of, call_statements, function_statements, functions_statements, round_statements, statements}
use Rattle.soak_inputs.specs.Said.{soak_said}
use Rattle.soak_inputs.specs.Texts.{Round, all_lines, after_callee, after_function, after_round, base_line, call_lines, function_line, function_lines, functions_lines, function_name, return_line, round_count, round_lines, rounds}

-- ---- numbers and names

digits_in_name : (ds : List ℕ) → AllDigits 10 ds → list_all is_name_byte ds ≡ true
digits_in_name [] h = refl
digits_in_name (c ∷ cs) h =
    let parts = tells_digits.parts c cs h in
    and_from (is_name_byte c) (list_all is_name_byte cs) (digit c parts.0) (digits_in_name cs parts.1)
  where
    digit : (c : ℕ) → IsInRange 48 57 c → is_name_byte c ≡ true
    digit c h =
        rw (le-leb 48 c (omega (arith, h.0)), le-leb c 57 (omega (arith, h.1))) (or_digit ((leb 65 c && leb c 90) || (leb 97 c && leb c 122)) (eqb c 95) (eqb c 46) (eqb c 36))
      where
        or_digit : (a b d e : Bool) → ((((a || true) || b) || d) || e) ≡ true
        or_digit true b d e = refl
        or_digit false b d e = refl

-- the second digit of a number is no x
no_prefix : (ds : List ℕ) → AllDigits 10 ds → bytes_eq (take 2 ds) (codes "0x") ≡ false
no_prefix [] h = refl
no_prefix (c ∷ []) h = short (eqb c 48)
  where
    short : (t : Bool) → (t && false) ≡ false
    short true = refl
    short false = refl
no_prefix (c ∷ d ∷ ds) h =
    let second = (tells_digits.parts d ds h.1).0 in
    let no : eqb d 120 ≡ false = ne_eqb d 120 (λ e. omega (arith, e, second.1)) in
    ap (λ t. eqb c 48 && (t && true)) no ∙ short (eqb c 48)
  where
    short : (t : Bool) → (t && false) ≡ false
    short true = refl
    short false = refl

pub same_numbers : (n m : ℕ) → n < 2 ^ 64 → m < 2 ^ 64 → decimal n ≡ decimal m → n ≡ m
same_numbers n m hn hm e = sym (decimal_is_IsNumeral n hn).1 ∙ ap (digits_value 10) e ∙ (decimal_is_IsNumeral m hm).1

-- ---- rounds

-- the function that is called is one of those that there are
abbrev pub CalleeFits : Option ℕ → Type 0
CalleeFits None = ⊤
CalleeFits (Some j) = j ≤ 63

abbrev pub IsGood : Round → Type 0
IsGood r = (r.value ≤ 255) × CalleeFits r.callee

callee_fits : (t : Bool) (n : ℕ) → CalleeFits (cond t (Some (min 63 n)) None)
callee_fits true n = omega arith
callee_fits false n = tt

byte_fits : (n : ℕ) → n % 256 ≤ 255
byte_fits n = omega arith

pub rounds_good : (i count x : ℕ) → AllByRecursion IsGood (rounds i count x)
unfolding rounds
rounds_good i zero x = tt
rounds_good i (suc count) x =
    ((byte_fits (next (after_callee i x) / 2 ^ 33), callee_fits (nat_lt i 63) (i + 1 + drawn 4 x)), rounds_good i count (after_round i x))

module _ (numbers : WrittenNumbersRead) where
  name_written : (i : ℕ) → i ≤ 63 → is_written_word (function_name i) ≡ true
  name_written i h =
      and_from (leb 1 (length (function_name i))) (list_all is_word_byte (function_name i)) (le-leb 1 (length (function_name i)) (omega arith))
      (and_parts (leb 1 (length (decimal i))) (list_all is_word_byte (decimal i)) (numbers.word i (omega (arith, h)))).1

  name_reads : (i : ℕ) → i ≤ 63 → names.name_written (function_name i) ≡ Some (function_name i)
  name_reads i h =
      let word = function_name i in
      let short = length-decimal-le 2 i (omega arith) (omega (arith, h)) (omega (arith, h)) in
      let bytes = digits_in_name (decimal i) (decimal_is_IsNumeral i (omega (arith, h))).0.1 in
      let lengths : (leb 1 (length word) && leb (length word) 255) ≡ true =
      and_from (leb 1 (length word)) (leb (length word) 255) (le-leb 1 (length word) (omega arith)) (le-leb (length word) 255 (omega (arith, short))) in
      let first : ((leb 1 (length word) && leb (length word) 255) && true) ≡ true = and_from (leb 1 (length word) && leb (length word) 255) true lengths refl in
      let is : names.is_name word ≡ true = and_from ((leb 1 (length word) && leb (length word) 255) && true) (list_all is_name_byte word) first bytes in
      ap (λ t. cond t (Some word) None) is

  number_reads : (n : ℕ) → n ≤ 255 → asm_numbers.number_written (decimal n) ≡ Some n
  number_reads n h =
      ap (λ t. cond t (numeral 16 (drop 2 (decimal n))) (numeral 10 (decimal n))) (no_prefix (decimal n) (decimal_is_IsNumeral n (omega (arith, h))).0.1)
      ∙ numbers.long n (omega (arith, h))

  -- ---- what each line says

  says_base : Says base_line (Base 4096)
  says_base = record { written = refl; said = refl }

  says_function : (i : ℕ) → i ≤ 63 → Says (function_line i) (always_of (function_name i))
  says_function i h = record {
    written = and_from (is_written_word (function_name i)) true (name_written i h) refl;
    said = ap (option_and_then (λ n. Some (always_of n))) (name_reads i h);
  }

  says_move : (v : ℕ) → v ≤ 255 → Says (codes "mov" ∷ codes "eax," ∷ decimal v ∷ []) (Does (Plain (Mov 0 v)))
  says_move v h = record {
    written = and_from (is_written_word (decimal v)) true (numbers.word v (omega (arith, h))) refl;
    said = ap (option_map (λ imm. Does (Plain (Mov 0 imm)))) (number_reads v h);
  }

  says_out : Says (codes "out" ∷ codes "1" ∷ []) (Does (Plain (Out 1)))
  says_out = record { written = refl; said = refl }

  says_call : (j : ℕ) → j ≤ 63 → Says (codes "call" ∷ function_name j ∷ []) (Does (call_of (function_name j)))
  says_call j h = record {
    written = and_from (is_written_word (function_name j)) true (name_written j h) refl;
    said = ap (option_map (λ n. Does (call_of n))) (name_reads j h);
  }

  says_return : Says return_line (Does Return)
  says_return = record { written = refl; said = refl }

  -- ---- what all lines say

  zip-append : (xs ys : List (List (List ℕ))) (us vs : List Statement) → AllZip Says xs us → AllZip Says ys vs → AllZip Says (xs ++ ys) (us ++ vs)
  zip-append [] ys [] vs h k = k
  zip-append [] ys (u ∷ us) vs h k = absurd h
  zip-append (x ∷ xs) ys [] vs h k = absurd h
  zip-append (x ∷ xs) ys (u ∷ us) vs h k = (h.0, zip-append xs ys us vs h.1 k)

  call_says : (callee : Option ℕ) → CalleeFits callee → AllZip Says (call_lines callee) (call_statements callee)
  call_says None h = tt
  call_says (Some j) h = (says_call j h, tt)

  rounds_say : (rs : List Round) → AllByRecursion IsGood rs → AllZip Says (flat_map round_lines rs) (flat_map round_statements rs)
  rounds_say [] h = tt
  rounds_say (r ∷ rs) h =
      zip-append (round_lines r) (flat_map round_lines rs) (round_statements r) (flat_map round_statements rs)
      (says_move r.value h.0.0, (says_out, call_says r.callee h.0.1)) (rounds_say rs h.1)

  function_says : (i x : ℕ) → i ≤ 63 → AllZip Says (function_lines i x) (function_statements i x)
  function_says i x h =
      let rs = rounds i (round_count x) (next x) in (
        says_function i h,
        zip-append (flat_map round_lines rs) (return_line ∷ []) (flat_map round_statements rs) (Does Return ∷ [])
            (rounds_say rs (rounds_good i (round_count x) (next x))) (says_return, tt),
      )

  functions_say : (i count x : ℕ) → i + count ≤ 64 → AllZip Says (functions_lines i count x) (functions_statements i count x)
  unfolding functions_lines functions_statements
  functions_say i zero x h = tt
  functions_say i (suc count) x h =
      zip-append (function_lines i x) (functions_lines (i + 1) count (after_function i x)) (function_statements i x) (functions_statements (i + 1) count (after_function i x))
      (function_says i x (omega (arith, h))) (functions_say (i + 1) count (after_function i x) (omega (arith, h)))

  pub text_says : (x : ℕ) → AllZip Says (all_lines x) (statements x)
  text_says x = (says_base, functions_say 0 64 x (omega arith))

-- what lines of words say
said_is : (lines : List (List (List ℕ))) (all : List Statement) → AllZip Says lines all → filter_map statement_of lines ≡ all
said_is [] [] h = refl
said_is [] (s ∷ all) h = absurd h
said_is (words ∷ lines) [] h = absurd h
said_is (words ∷ lines) (s ∷ all) h =
    ap (λ o. cons_option o (filter_map statement_of lines)) h.0.said ∙ ap (λ (ss : List Statement). s ∷ ss) (said_is lines all h.1)

pub text_said : WrittenNumbersRead → (x : ℕ) → soak_said x ≡ enumerate_from 1 (statements x)
text_said numbers x = ap (enumerate_from 1) (said_is (all_lines x) (statements x) (text_says numbers x))
