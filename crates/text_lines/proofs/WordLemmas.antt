-- The first word, as `split_word` takes it.
use Rattle.std.proofs.Common.{◌≡◌, ℕ, suc, ◌+◌, ◌<◌, ◌≤◌, Bool, true, false, cond, not, List, [], ◌∷◌, length, take, drop, get_or, Option, Some, None, refl, sym, ap, subst, inl, inr, ◌∙◌, eqb, arith, add-zero}
use Rattle.std.specs.Prelude.{position, unwrap_or}
use Rattle.std.specs.List.{position_or_len, slice_split, onto_first, filter, All}
use Rattle.std.proofs.lemmas.List.Splits.{slice_split_first, slice_split_none, slice_split-cons_yes}
use Rattle.std.proofs.lemmas.List.{drop_all, take_all, length-take, length-drop, get_or-drop}
use Rattle.std.proofs.Math.Seq.{drop-cons}
use Rattle.std.proofs.lemmas.List.Sums.{passes_at_first, fails_before_first, prefix_len-le-length}
use Rattle.std.proofs.lemmas.List.Elements.{All-from_get_or}
use Rattle.std.proofs.lemmas.Bool.{cases_lt}
use Rattle.text_lines.specs.Words.{is_blank, words_between_blanks}
use Rattle.text_lines.proofs.Places.{Some-position, None-position, unwrap_or-position}

-- whether a part has bytes, and so is a word
abbrev pub has_bytes : List ℕ → Bool
has_bytes part = not (eqb (length part) 0)

-- whether a byte is part of a word
abbrev pub is_in_word : ℕ → Bool
is_in_word b = not (is_blank b)

-- a first part that has bytes is a word, and an empty one isn't
words_of_part : (part : List ℕ) (parts : List (List ℕ)) → 0 < length part → filter has_bytes (part ∷ parts) ≡ part ∷ filter has_bytes parts
words_of_part part parts some = grind arith

-- a blank before the rest
words-blank : (b : ℕ) (bytes : List ℕ) → is_blank b ≡ true → words_between_blanks (b ∷ bytes) ≡ words_between_blanks bytes
words-blank b bytes blank = ap (filter has_bytes) (slice_split-cons_yes is_blank b bytes blank)

one_more : (n : ℕ) → suc n ≡ 1 + n
one_more n = omega arith

-- blanks before the first word
words-drop_blanks : (bytes : List ℕ) → words_between_blanks bytes ≡ words_between_blanks (drop (position_or_len is_in_word bytes) bytes)
words-drop_blanks [] = refl
words-drop_blanks (b ∷ bytes) =
    let P : Bool → Type 0 = λ t. is_blank b ≡ t → words_between_blanks (b ∷ bytes) ≡ words_between_blanks (drop (cond (not (not t)) (1 + position_or_len is_in_word bytes) 0) (b ∷ bytes)) in
    let either : (t : Bool) → P t = λ t. elim t as P [
      | true ↦ λ blank. words-blank b bytes blank ∙ words-drop_blanks bytes ∙ ap (λ i. words_between_blanks (drop i (b ∷ bytes))) (one_more (position_or_len is_in_word bytes))
      | false ↦ λ _. refl
    ] in
    either (is_blank b) refl

-- all bytes are blanks
pub words_none : (bytes : List ℕ) → None ≡ position is_in_word bytes → words_between_blanks bytes ≡ []
words_none bytes h =
    let no = None-position is_in_word bytes h in
    words-drop_blanks bytes ∙ ap words_between_blanks (drop_all (position_or_len is_in_word bytes) bytes (omega (arith, no)))

-- the blank after a word
words-following : (bytes : List ℕ) (n : ℕ) → position_or_len is_blank bytes ≡ n → n < length bytes → words_between_blanks (drop n bytes) ≡ words_between_blanks (drop (n + 1) bytes)
words-following bytes n at within =
    let here : is_blank (get_or bytes n 0) ≡ true = subst (λ i. is_blank (get_or bytes i 0) ≡ true) at (passes_at_first is_blank bytes 0 (omega (arith, at))) in
    ap words_between_blanks (drop-cons bytes n 0 within)
    ∙ words-blank (get_or bytes n 0) (drop (suc n) bytes) here
    ∙ ap (λ i. words_between_blanks (drop i bytes)) (one_more n ∙ omega arith)

-- the first word ends at the first blank, or with the last byte
words-word : (bytes : List ℕ) (n : ℕ) → position_or_len is_blank bytes ≡ n → 0 < n → words_between_blanks bytes ≡ take n bytes ∷ words_between_blanks (drop n bytes)
words-word bytes n at some =
    let within : n < length bytes → words_between_blanks bytes ≡ take n bytes ∷ words_between_blanks (drop n bytes) = λ lt.
    let long : 0 < length (take n bytes) = omega (arith, length-take n bytes) in
    let first : slice_split is_blank bytes ≡ take n bytes ∷ slice_split is_blank (drop (n + 1) bytes) =
    subst (λ i. slice_split is_blank bytes ≡ take i bytes ∷ slice_split is_blank (drop (i + 1) bytes)) at (slice_split_first is_blank bytes 0 (omega (arith, at, lt))) in
    ap (filter has_bytes) first
    ∙ words_of_part (take n bytes) (slice_split is_blank (drop (n + 1) bytes)) long
    ∙ ap (λ ws. take n bytes ∷ ws) (sym (words-following bytes n at lt)) in
    let whole : length bytes ≤ n → words_between_blanks bytes ≡ take n bytes ∷ words_between_blanks (drop n bytes) = λ ge.
    let none : All (λ x. is_blank x ≡ false) bytes =
    All-from_get_or (λ x. is_blank x ≡ false) bytes 0 (λ k l. fails_before_first is_blank bytes k 0 (omega (arith, at, ge, l))) in
    let long : 0 < length bytes = omega (arith, at, prefix_len-le-length (λ x. not (is_blank x)) bytes) in
    rw (take_all n bytes ge, drop_all n bytes ge) (ap (filter has_bytes) (slice_split_none is_blank bytes none) ∙ words_of_part bytes [] long) in
    elim (cases_lt n (length bytes)) [ inl lt ↦ within lt | inr ge ↦ whole ge ]

in_front : (bytes : List ℕ) → 0 < length bytes → is_in_word (get_or bytes 0 0) ≡ true → 0 < position_or_len is_blank bytes
in_front [] some word = absurd (omega arith)
in_front (b ∷ bytes) some word = subst (λ t. 0 < cond t (1 + position_or_len is_blank bytes) 0) (sym word) (omega arith)

-- the first word: `start` is the place of the first byte that isn't a blank, and `end` that of the first blank after it
pub words_some : (bytes : List ℕ) (start : ℕ) → Some start ≡ position is_in_word bytes → (end : Option ℕ) → end ≡ position is_blank (drop start bytes)
    → let rest = drop start bytes in let n = unwrap_or end (length rest) in words_between_blanks bytes ≡ take n rest ∷ words_between_blanks (drop n rest)
words_some bytes start h end e =
    let rest = drop start bytes in
    let at = Some-position is_in_word bytes start h in
    let here : is_in_word (get_or bytes start 0) ≡ true = subst (λ i. is_in_word (get_or bytes i 0) ≡ true) at.0 (passes_at_first is_in_word bytes 0 (omega (arith, at.0, at.1))) in
    let same : get_or rest 0 0 ≡ get_or bytes start 0 = get_or-drop start bytes 0 0 ∙ ap (λ i. get_or bytes i 0) (add-zero start) in
    let word : is_in_word (get_or rest 0 0) ≡ true = ap is_in_word same ∙ here in
    let some : 0 < position_or_len is_blank rest = in_front rest (omega (arith, length-drop start bytes, at.1)) word in
    let n = unwrap_or-position is_blank rest end e in
    let skipped : words_between_blanks bytes ≡ words_between_blanks rest = subst (λ i. words_between_blanks bytes ≡ words_between_blanks (drop i bytes)) at.0 (words-drop_blanks bytes) in
    skipped ∙ words-word rest (unwrap_or end (length rest)) (sym n) (omega (arith, n, some))

-- a word takes at least one byte
words_of_part-le : (part : List ℕ) (parts : List (List ℕ)) → length (filter has_bytes (part ∷ parts)) ≤ 1 + length (filter has_bytes parts)
words_of_part-le part parts = elim (has_bytes part) as (λ t. length (cond t (part ∷ filter has_bytes parts) (filter has_bytes parts)) ≤ 1 + length (filter has_bytes parts)) [ true ↦ omega arith | false ↦ omega arith ]

words_of_part-ge : (part : List ℕ) (parts : List (List ℕ)) → length (filter has_bytes parts) ≤ length (filter has_bytes (part ∷ parts))
words_of_part-ge part parts = elim (has_bytes part) as (λ t. length (filter has_bytes parts) ≤ length (cond t (part ∷ filter has_bytes parts) (filter has_bytes parts))) [ true ↦ omega arith | false ↦ omega arith ]

words_of_byte_more : (b : ℕ) (parts : List (List ℕ)) → length (filter has_bytes (onto_first b parts)) ≤ 1 + length (filter has_bytes parts)
words_of_byte_more b [] = words_of_part-le (b ∷ []) []
words_of_byte_more b (part ∷ parts) = omega (arith, words_of_part-le (b ∷ part) parts, words_of_part-ge part parts)

pub length_of_words : (bytes : List ℕ) → length (words_between_blanks bytes) ≤ length bytes
length_of_words [] = omega arith
length_of_words (b ∷ bytes) =
    let parts = slice_split is_blank bytes in
    let rest : length (filter has_bytes parts) ≤ length bytes = length_of_words bytes in
    elim (is_blank b) as (λ t. length (filter has_bytes (cond t ([] ∷ parts) (onto_first b parts))) ≤ suc (length bytes)) [
      | true ↦ omega (arith, rest)
      | false ↦ omega (arith, rest, words_of_byte_more b parts)
    ]
