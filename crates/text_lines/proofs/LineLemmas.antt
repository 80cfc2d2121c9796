-- The first line of a text, as `split_line` takes it, and the number of lines.
use Rattle.std.proofs.Common.{◌≡◌, ℕ, suc, ◌+◌, ◌<◌, ◌≤◌, Bool, true, false, cond, List, [], ◌∷◌, length, take, drop, get_or, Some, None, refl, sym, ap, subst, ◌∙◌, ◌-◌, eqb, arith}
use Rattle.std.specs.Prelude.{position, count_by}
use Rattle.std.specs.List.{position_or_len, slice_split, onto_first, All}
use Rattle.std.specs.Str.Lines.{lines, lines_of_parts, strip_carriage_return}
use Rattle.std.proofs.lemmas.List.Splits.{slice_split_first, slice_split_none, length-slice_split}
use Rattle.std.proofs.lemmas.List.Sums.{fails_before_first, sum_by-cons}
use Rattle.std.proofs.lemmas.List.Elements.{All-from_get_or}
use Rattle.std.proofs.lemmas.List.{take_rest}
use Rattle.std.proofs.lemmas.List.FromFn.{length-enumerate_from}
use Rattle.text_lines.specs.Lines.{numbered_lines}
use Rattle.text_lines.proofs.Places.{Some-position, None-position}

-- the test for the byte that ends a line
abbrev pub ends_line : ℕ → Bool
ends_line b = eqb b 10

lines_of_more : (x : List ℕ) (parts : List (List ℕ)) → 0 < length parts → lines_of_parts (x ∷ parts) ≡ strip_carriage_return x ∷ lines_of_parts parts
lines_of_more x [] h = absurd (omega arith)
lines_of_more x (y ∷ more) h = refl

lines_of_last : (x : List ℕ) → 0 < length x → lines_of_parts (x ∷ []) ≡ x ∷ []
lines_of_last x some = grind arith

-- the line before the first LF, and the lines after it
line_in_front : (text : List ℕ) (end : ℕ) → Some end ≡ position ends_line text → lines text ≡ strip_carriage_return (take end text) ∷ lines (drop (end + 1) text)
line_in_front text end h =
    let at = Some-position ends_line text end h in
    let within : position_or_len ends_line text < length text = omega (arith, at.0, at.1) in
    let following = drop (position_or_len ends_line text + 1) text in
    let some : 0 < length (slice_split ends_line following) = omega (arith, length-slice_split ends_line following) in
    let first : lines text ≡ strip_carriage_return (take (position_or_len ends_line text) text) ∷ lines (drop (position_or_len ends_line text + 1) text) =
    ap lines_of_parts (slice_split_first ends_line text 0 within) ∙ lines_of_more (take (position_or_len ends_line text) text) (slice_split ends_line following) some in
    let P : ℕ → Type 0 = λ i. lines text ≡ strip_carriage_return (take i text) ∷ lines (drop (i + 1) text) in
    subst P at.0 first

-- the same, with the bytes after the LF as the range that `&text[end + 1..]` is
pub first_line : (text : List ℕ) (end : ℕ) → Some end ≡ position ends_line text
    → lines text ≡ strip_carriage_return (take end text) ∷ lines (take (length text - (end + 1)) (drop (end + 1) text))
first_line text end h = rw take_rest (line_in_front text end h)

-- a text without LF is one line
pub only_line : (text : List ℕ) → None ≡ position ends_line text → 0 < length text → lines text ≡ text ∷ []
only_line [] h some = absurd (omega arith)
only_line (b ∷ text) h some =
    let no = None-position ends_line (b ∷ text) h in
    let all : All (λ x. ends_line x ≡ false) (b ∷ text) =
    All-from_get_or (λ x. ends_line x ≡ false) (b ∷ text) 0 (λ k l. fails_before_first ends_line (b ∷ text) k 0 (omega (arith, no))) in
    ap lines_of_parts (slice_split_none ends_line (b ∷ text) all) ∙ lines_of_last (b ∷ text) some

-- one more byte before a text that isn't empty: an LF makes one line more, and any other byte none
lines_of_byte_more : (b : ℕ) (parts : List (List ℕ)) → 0 < length (lines_of_parts parts) → length (lines_of_parts (onto_first b parts)) ≡ length (lines_of_parts parts)
lines_of_byte_more b [] some = absurd (omega arith)
lines_of_byte_more b ([] ∷ []) some = absurd (omega arith)
lines_of_byte_more b ((x ∷ part) ∷ []) some =
    ap length (lines_of_last (b ∷ x ∷ part) (omega arith)) ∙ sym (ap length (lines_of_last (x ∷ part) (omega arith)))
lines_of_byte_more b (part ∷ y ∷ more) some = refl

cond-le-one : (t : Bool) → cond t 1 0 ≤ 1
cond-le-one true = omega arith
cond-le-one false = omega arith

length-lines-cons : (b c : ℕ) (text : List ℕ) → 0 < length (lines (c ∷ text)) → length (lines (b ∷ c ∷ text)) ≡ cond (ends_line b) 1 0 + length (lines (c ∷ text))
length-lines-cons b c text some =
    let parts = slice_split ends_line (c ∷ text) in
    let many : 0 < length parts = omega (arith, length-slice_split ends_line (c ∷ text)) in
    elim (ends_line b) as (λ t. length (lines_of_parts (cond t ([] ∷ parts) (onto_first b parts))) ≡ cond t 1 0 + length (lines_of_parts parts)) [
      | true ↦ ap length (lines_of_more [] parts many) ∙ omega arith
      | false ↦ lines_of_byte_more b parts some ∙ omega arith
    ]

some_line : (parts : List (List ℕ)) (b : ℕ) → 0 < length (lines_of_parts (onto_first b parts))
some_line [] b = omega arith
some_line (part ∷ []) b = rw (lines_of_last (b ∷ part) (omega arith)) (omega arith)
some_line (part ∷ y ∷ more) b = omega arith

some_lines : (b : ℕ) (text : List ℕ) → 0 < length (lines (b ∷ text))
some_lines b text =
    let parts = slice_split ends_line text in
    let many : 0 < length parts = omega (arith, length-slice_split ends_line text) in
    elim (ends_line b) as (λ t. 0 < length (lines_of_parts (cond t ([] ∷ parts) (onto_first b parts)))) [
      | true ↦ rw (lines_of_more [] parts many) (omega arith)
      | false ↦ some_line parts b
    ]

length-lines-one : (b : ℕ) → length (lines (b ∷ [])) ≡ count_by ends_line (b ∷ []) + cond (ends_line b) 0 1
length-lines-one b =
    let one : length (lines (b ∷ [])) ≡ cond (ends_line b) 1 0 + cond (ends_line b) 0 1 =
    elim (ends_line b) as (λ t. length (lines_of_parts (cond t ([] ∷ [] ∷ []) ((b ∷ []) ∷ []))) ≡ cond t 1 0 + cond t 0 1) [ true ↦ refl | false ↦ refl ] in
    one ∙ omega (arith, sum_by-cons (λ x. cond (ends_line x) 1 0) b [])

-- how many lines a text has, by its last byte
pub length_of_lines : (text : List ℕ) (last : ℕ) → 0 < length text → last ≡ get_or text (length text - 1) 0 → length (lines text) ≡ count_by ends_line text + cond (ends_line last) 0 1
length_of_lines [] last some is = absurd (omega arith)
length_of_lines (b ∷ []) last some is = rw is (length-lines-one b)
length_of_lines (b ∷ c ∷ text) last some is =
    let shift : length (b ∷ c ∷ text) - 1 ≡ suc (length (c ∷ text) - 1) = omega arith in
    let more = length_of_lines (c ∷ text) last (omega arith) (is ∙ ap (λ i. get_or (b ∷ c ∷ text) i 0) shift) in
    omega (arith, length-lines-cons b c text (some_lines c text), more, sum_by-cons (λ x. cond (ends_line x) 1 0) b (c ∷ text))

-- a line takes at least one byte
pub length_of_lines-le : (text : List ℕ) → length (lines text) ≤ length text
length_of_lines-le [] = omega arith
length_of_lines-le (b ∷ []) = elim (ends_line b) as (λ t. length (lines_of_parts (cond t ([] ∷ [] ∷ []) ((b ∷ []) ∷ []))) ≤ 1) [ true ↦ omega arith | false ↦ omega arith ]
length_of_lines-le (b ∷ c ∷ text) =
    omega (arith, length-lines-cons b c text (some_lines c text), cond-le-one (ends_line b), length_of_lines-le (c ∷ text))

-- so the number of the last line is no more than the count of bytes
pub length_of_numbered_lines : (text : List ℕ) → length (numbered_lines text) ≤ length text
length_of_numbered_lines text = omega (arith, length-enumerate_from 1 (lines text), length_of_lines-le text)

-- a text has no more lines than bytes
pub lines_within : (text : List ℕ) → length (lines text) ≤ length text
lines_within text = length_of_lines-le text
