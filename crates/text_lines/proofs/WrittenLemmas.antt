-- What is written of words is read as these words.
use Rattle.std.proofs.Common.{◌≡◌, ℕ, ◌-◌, ◌≤◌, Bool, true, false, cond, not, ◌&&◌, List, [], ◌∷◌, ◌++◌, length, take, get_or, Some, None, refl, ap, subst, ◌∙◌, eqb, leb, arith, append_assoc}
use Rattle.std.specs.Prelude.{decimal, map}
use Rattle.std.specs.Char.{digit_value, is_digit}
use Rattle.std.specs.Int.{IsInRange}
use Rattle.std.specs.List.{position_or_len, slice_split, filter, All, list_all, join_with_byte}
use Rattle.std.specs.Str.Lines.{lines, lines_of_parts, strip_carriage_return}
use Rattle.std.specs.Str.Parse.{AllDigits, IsNumeral, digits_value}
use Rattle.std.proofs.lemmas.Bool.{and_parts, and_from, not-true, not_from_false, leb-true, le-leb, lt-ltb, ne_eqb, both_ways}
use Rattle.std.proofs.lemmas.Fmt.{decimal_is_IsNumeral}
use Rattle.std.proofs.lemmas.List.{take_all}
use Rattle.std.proofs.lemmas.List.Folds.{list_all-append}
use Rattle.std.proofs.lemmas.List.Splits.{slice_split_none, slice_split_at}
use Rattle.std.proofs.lemmas.List.Sums.{AllPass-from_list_all, position_or_len_is}
use Rattle.std.proofs.lemmas.Str.Parse.{tells_digits}
use Rattle.text_lines.specs.Numbers.{is_numeral, numeral_within, number_of, numeral}
use Rattle.text_lines.specs.Words.{begins_comment, before_comment, is_allowed, is_blank, is_clean, words_between_blanks, words_of}
use Rattle.text_lines.specs.Written.{is_word_byte, is_written_word, are_written_words, written_line, written_text}

-- ---- bytes

-- a byte of a line without a comment
abbrev pub is_line_byte : ℕ → Bool
is_line_byte byte = is_allowed byte && not (begins_comment byte)

-- a byte of a word is no blank, and a byte of a line
word_byte-blank : (b : ℕ) → is_word_byte b ≡ true → is_blank b ≡ false
word_byte-blank b h =
    not-true (is_blank b) (and_parts (is_allowed b) (not (is_blank b)) (and_parts (is_allowed b && not (is_blank b)) (not (begins_comment b)) h).0).1

word_byte-line : (b : ℕ) → is_word_byte b ≡ true → is_line_byte b ≡ true
word_byte-line b h =
    let parts = and_parts (is_allowed b && not (is_blank b)) (not (begins_comment b)) h in
    and_from (is_allowed b) (not (begins_comment b)) (and_parts (is_allowed b) (not (is_blank b)) parts.0).0 parts.1

line_byte-comment : (b : ℕ) → is_line_byte b ≡ true → begins_comment b ≡ false
line_byte-comment b h = not-true (begins_comment b) (and_parts (is_allowed b) (not (begins_comment b)) h).1

line_byte-allowed : (b : ℕ) → is_line_byte b ≡ true → is_allowed b ≡ true
line_byte-allowed b h = (and_parts (is_allowed b) (not (begins_comment b)) h).0

-- LF and CR aren't allowed in lines
line_byte-not : (c b : ℕ) → is_allowed c ≡ false → is_line_byte b ≡ true → eqb b c ≡ false
line_byte-not c b bad h =
    ne_eqb b c (λ e. both_ways (is_allowed c) bad (subst (λ x. is_allowed x ≡ true) e (line_byte-allowed b h)))

-- ---- tests of all bytes

all_weaker : (p q : ℕ → Bool) → ((b : ℕ) → p b ≡ true → q b ≡ true) → (xs : List ℕ) → list_all p xs ≡ true → list_all q xs ≡ true
all_weaker p q step [] h = refl
all_weaker p q step (x ∷ xs) h =
    let parts = and_parts (p x) (list_all p xs) h in
    and_from (q x) (list_all q xs) (step x parts.0) (all_weaker p q step xs parts.1)

-- a test that no byte passes
none_passes : (p q : ℕ → Bool) → ((b : ℕ) → p b ≡ true → q b ≡ false) → (xs : List ℕ) → list_all p xs ≡ true → All (λ b. q b ≡ false) xs
none_passes p q step xs h k d lt = step (get_or xs k d) (AllPass-from_list_all p xs h k d lt)

-- ---- the words of a line

split_words : (word : List ℕ) (words : List (List ℕ)) → are_written_words (word ∷ words) ≡ true
    → slice_split is_blank (join_with_byte 32 (word ∷ words)) ≡ word ∷ words
split_words word [] h =
    let parts = and_parts (is_written_word word) true h in
    let bytes = and_parts (leb 1 (length word)) (list_all is_word_byte word) parts.0 in
    slice_split_none is_blank word (none_passes is_word_byte is_blank word_byte-blank word bytes.1)
split_words word (next ∷ words) h =
    let parts = and_parts (is_written_word word) (are_written_words (next ∷ words)) h in
    let bytes = and_parts (leb 1 (length word)) (list_all is_word_byte word) parts.0 in
    slice_split_at is_blank word 32 (join_with_byte 32 (next ∷ words)) (none_passes is_word_byte is_blank word_byte-blank word bytes.1) refl
    ∙ ap (λ ws. word ∷ ws) (split_words next words parts.1)

some_bytes : (word : List ℕ) → is_written_word word ≡ true → not (eqb (length word) 0) ≡ true
some_bytes word h =
    let long = leb-true 1 (length word) (and_parts (leb 1 (length word)) (list_all is_word_byte word) h).0 in
    not_from_false (eqb (length word) 0) (ne_eqb (length word) 0 (λ e. omega (arith, long, e)))

keep_words : (words : List (List ℕ)) → are_written_words words ≡ true → filter (λ part. not (eqb (length part) 0)) words ≡ words
keep_words [] h = refl
keep_words (word ∷ words) h =
    let parts = and_parts (is_written_word word) (are_written_words words) h in
    ap (λ t. cond t (word ∷ filter (λ part. not (eqb (length part) 0)) words) (filter (λ part. not (eqb (length part) 0)) words)) (some_bytes word parts.0)
    ∙ ap (λ ws. word ∷ ws) (keep_words words parts.1)

-- ---- the bytes of a line

line_bytes : (words : List (List ℕ)) → are_written_words words ≡ true → list_all is_line_byte (join_with_byte 32 words) ≡ true
line_bytes [] h = refl
line_bytes (word ∷ []) h =
    let parts = and_parts (is_written_word word) true h in
    let bytes = and_parts (leb 1 (length word)) (list_all is_word_byte word) parts.0 in
    all_weaker is_word_byte is_line_byte word_byte-line word bytes.1
line_bytes (word ∷ next ∷ words) h =
    let parts = and_parts (is_written_word word) (are_written_words (next ∷ words)) h in
    let bytes = and_parts (leb 1 (length word)) (list_all is_word_byte word) parts.0 in
    let following = join_with_byte 32 (next ∷ words) in
    list_all-append is_line_byte word (32 ∷ following)
    ∙ and_from (list_all is_line_byte word) (list_all is_line_byte (32 ∷ following)) (all_weaker is_word_byte is_line_byte word_byte-line word bytes.1) (line_bytes (next ∷ words) parts.1)

no_comment : (line : List ℕ) → list_all is_line_byte line ≡ true → before_comment line ≡ line
no_comment line h =
    let none = none_passes is_line_byte begins_comment line_byte-comment line h in
    let at : position_or_len begins_comment line ≡ length line =
    position_or_len_is begins_comment line (length line) 0 (omega arith) (λ k lt. none k 0 lt) (λ lt. absurd (omega (arith, lt))) in
    take_all (position_or_len begins_comment line) line (omega (arith, at))

pub written_clean : (words : List (List ℕ)) → are_written_words words ≡ true → is_clean (written_line words) ≡ true
written_clean words h =
    let bytes = line_bytes words h in
    ap (list_all is_allowed) (no_comment (written_line words) bytes) ∙ all_weaker is_line_byte is_allowed line_byte-allowed (written_line words) bytes

between : (words : List (List ℕ)) → are_written_words words ≡ true → words_between_blanks (join_with_byte 32 words) ≡ words
between [] h = refl
between (word ∷ words) h =
    ap (filter (λ part. not (eqb (length part) 0))) (split_words word words h) ∙ keep_words (word ∷ words) h

pub written_words : (words : List (List ℕ)) → are_written_words words ≡ true → words_of (written_line words) ≡ words
written_words words h =
    ap words_between_blanks (no_comment (written_line words) (line_bytes words h)) ∙ between words h

-- ---- the lines of a text

abbrev pub ends_line : ℕ → Bool
ends_line b = eqb b 10

split_lines : (all : List (List (List ℕ))) → list_all are_written_words all ≡ true
    → slice_split ends_line (written_text all) ≡ map written_line all ++ [] ∷ []
split_lines [] h = refl
split_lines (words ∷ all) h =
    let parts = and_parts (are_written_words words) (list_all are_written_words all) h in
    let line = written_line words in
    let none = none_passes is_line_byte ends_line (λ b. line_byte-not 10 b refl) line (line_bytes words parts.0) in
    ap (slice_split ends_line) (append_assoc line (10 ∷ []) (written_text all))
    ∙ slice_split_at ends_line line 10 (written_text all) none refl
    ∙ ap (λ ls. line ∷ ls) (split_lines all parts.1)

keep_return : (line : List ℕ) → list_all is_line_byte line ≡ true → strip_carriage_return line ≡ line
keep_return [] h = refl
keep_return (b ∷ line) h =
    let at = length (b ∷ line) - 1 in
    let last = get_or (b ∷ line) at 0 in
    let no : eqb last 13 ≡ false = line_byte-not 13 last refl (AllPass-from_list_all is_line_byte (b ∷ line) h at 0 (omega arith)) in
    ap (λ t. cond t (take at (b ∷ line)) (b ∷ line)) no

one_line_more : (line : List ℕ) (parts : List (List ℕ)) → lines_of_parts (line ∷ parts ++ [] ∷ []) ≡ strip_carriage_return line ∷ lines_of_parts (parts ++ [] ∷ [])
one_line_more line [] = refl
one_line_more line (part ∷ parts) = refl

lines_of_written : (all : List (List (List ℕ))) → list_all are_written_words all ≡ true → lines_of_parts (map written_line all ++ [] ∷ []) ≡ map written_line all
lines_of_written [] h = refl
lines_of_written (words ∷ all) h =
    let parts = and_parts (are_written_words words) (list_all are_written_words all) h in
    one_line_more (written_line words) (map written_line all)
    ∙ ap (λ l. l ∷ lines_of_parts (map written_line all ++ [] ∷ [])) (keep_return (written_line words) (line_bytes words parts.0))
    ∙ ap (λ ls. written_line words ∷ ls) (lines_of_written all parts.1)

pub written_lines : (all : List (List (List ℕ))) → list_all are_written_words all ≡ true → lines (written_text all) ≡ map written_line all
written_lines all h = ap lines_of_parts (split_lines all h) ∙ lines_of_written all h

-- ---- numbers

digit_in_word : (c : ℕ) → IsInRange 48 57 c → is_word_byte c ≡ true
digit_in_word c h =
    let allowed : is_allowed c ≡ true = rw (le-leb 32 c (omega (arith, h.0)), le-leb c 126 (omega (arith, h.1)), ne_eqb c 9 (λ e. omega (arith, e, h.0))) refl in
    rw (allowed, ne_eqb c 32 (λ e. omega (arith, e, h.0)), ne_eqb c 9 (λ e. omega (arith, e, h.0)), ne_eqb c 35 (λ e. omega (arith, e, h.0))) refl

digits_in_word : (ds : List ℕ) → AllDigits 10 ds → list_all is_word_byte ds ≡ true
digits_in_word [] h = refl
digits_in_word (c ∷ cs) h =
    let parts = tells_digits.parts c cs h in
    and_from (is_word_byte c) (list_all is_word_byte cs) (digit_in_word c parts.0) (digits_in_word cs parts.1)

digits_of_radix : (ds : List ℕ) → AllDigits 10 ds → list_all (λ byte. is_digit byte 10) ds ≡ true
digits_of_radix [] h = refl
digits_of_radix (c ∷ cs) h =
    and_from (is_digit c 10) (list_all (λ byte. is_digit byte 10) cs) (lt-ltb (digit_value c) 10 h.0) (digits_of_radix cs h.1)

numeral_word : (ds : List ℕ) → IsNumeral 10 ds → is_written_word ds ≡ true
numeral_word ds h = and_from (leb 1 (length ds)) (list_all is_word_byte ds) (le-leb 1 (length ds) (omega (arith, h.0))) (digits_in_word ds h.1)

numeral_reads : (most n : ℕ) (ds : List ℕ) → IsNumeral 10 ds → digits_value 10 ds ≡ n → n ≤ most → numeral_within 10 most ds ≡ Some n
numeral_reads most n ds h value small =
    let some : not (eqb (length ds) 0) ≡ true = not_from_false (eqb (length ds) 0) (ne_eqb (length ds) 0 (λ e. omega (arith, h.0, e))) in
    let is : is_numeral 10 ds ≡ true = and_from (not (eqb (length ds) 0)) (list_all (λ byte. is_digit byte 10) ds) some (digits_of_radix ds h.1) in
    let fits : leb (digits_value 10 ds) most ≡ true = le-leb (digits_value 10 ds) most (omega (arith, value, small)) in
    ap (λ t. cond t (Some (digits_value 10 ds)) None) (and_from (is_numeral 10 ds) (leb (digits_value 10 ds) most) is fits) ∙ ap Some value

pub number_word : (n : ℕ) → n ≤ 18446744073709551615 → is_written_word (decimal n) ≡ true
number_word n small = numeral_word (decimal n) (decimal_is_IsNumeral n (omega (arith, small))).0

pub number_long : (n : ℕ) → n ≤ 18446744073709551615 → numeral 10 (decimal n) ≡ Some n
number_long n small =
    let is = decimal_is_IsNumeral n (omega (arith, small)) in numeral_reads 18446744073709551615 n (decimal n) is.0 is.1 small

pub number_short : (n : ℕ) → n ≤ 4294967295 → number_of (decimal n) ≡ Some n
number_short n small =
    let is = decimal_is_IsNumeral n (omega (arith, small)) in numeral_reads 4294967295 n (decimal n) is.0 is.1 small
