-- The lines of bytes, one after the other.
use Rattle.std.proofs.Common.{◌≡◌, ◌≢◌, ℕ, zero, suc, ◌+◌, ◌<◌, ◌≤◌, ◌==◌, Bool, true, false, cond, List, [], ◌∷◌, ◌++◌, length, take, drop, get_or, nat_lt, Some, None, position, refl, sym, ap, subst, ◌∙◌, arith, eq-eqb, eqb-true, ltb-false, append_assoc}
use Rattle.std.specs.Prelude.{if◌then◌else◌}
use Rattle.std.specs.List.{flat_map, position_or_len}
use Rattle.std.proofs.lemmas.Bool.{eqb-false, ne_eqb}
use Rattle.std.proofs.lemmas.List.{drop_all, take_all}
use Rattle.std.proofs.lemmas.List.Quantifiers.{position-Some}
use Rattle.std.proofs.lemmas.List.Sums.{fails_before_first}
use Rattle.audit_check.specs.Reading.{whole_lines, with_byte}

choose : (t : Bool) (x y : List (List ℕ)) → t ≡ true → (if t then x else y) ≡ x
choose true x y e = refl
choose false x y e = absurd cc

reject : (t : Bool) (x y : List (List ℕ)) → t ≡ false → (if t then x else y) ≡ y
reject true x y e = absurd cc
reject false x y e = refl

-- ---- the first line

pub first_row : (bytes : List ℕ) (end : ℕ) → end < length bytes → get_or bytes end 0 ≡ 10 → ((k : ℕ) → k < end → get_or bytes k 0 ≢ 10)
    → whole_lines bytes ≡ take (suc end) bytes ∷ whole_lines (drop (suc end) bytes)
first_row [] end low is before = absurd (omega arith)
first_row (byte ∷ bytes) zero low is before = choose (byte == 10) _ _ (eq-eqb byte 10 is)
first_row (byte ∷ bytes) (suc end) low is before =
    let unlike : byte ≢ 10 = before 0 (omega arith) in
    reject (byte == 10) _ _ (ne_eqb byte 10 unlike)
    ∙ ap (with_byte byte) (first_row bytes end (omega arith) is (λ k less. before (suc k) (omega arith)))

pub only_row : (bytes : List ℕ) → 0 < length bytes → ((k : ℕ) → k < length bytes → get_or bytes k 0 ≢ 10) → whole_lines bytes ≡ bytes ∷ []
only_row [] some none = absurd (omega arith)
only_row (byte ∷ []) some none = reject (byte == 10) _ _ (ne_eqb byte 10 (none 0 (omega arith)))
only_row (byte ∷ next ∷ bytes) some none =
    let unlike : byte ≢ 10 = none 0 (omega arith) in
    reject (byte == 10) _ _ (ne_eqb byte 10 unlike)
    ∙ ap (with_byte byte) (only_row (next ∷ bytes) (omega arith) (λ k less. none (suc k) (omega arith)))

-- the first line ends at the first line feed, or is all of the bytes
pub row_to : (bytes : List ℕ) (end : ℕ) → Some end ≡ position (λ byte. byte == 10) bytes
    → whole_lines bytes ≡ take (end + 1) bytes ∷ whole_lines (drop (end + 1) bytes)
row_to bytes end is =
    let at = position-Some (λ byte. byte == 10) bytes end 0 (sym is) in
    let more : suc end ≡ end + 1 = omega arith in
    subst (λ n. whole_lines bytes ≡ take n bytes ∷ whole_lines (drop n bytes)) more
    (first_row bytes end at.0 (eqb-true (get_or bytes end 0) 10 at.1) (λ k less. eqb-false (get_or bytes k 0) 10 (at.2 k less)))

pub row_whole : (bytes : List ℕ) → None ≡ position (λ byte. byte == 10) bytes → bytes ≢ []
    → whole_lines bytes ≡ take (length bytes) bytes ∷ whole_lines (drop (length bytes) bytes)
row_whole [] none some = absurd (some refl)
row_whole (byte ∷ bytes) none some =
    let row : List ℕ = byte ∷ bytes in
    let place : ℕ = position_or_len (λ b. b == 10) row in
    let past = no_place (nat_lt place (length row)) place none in
    let low : length row ≤ place = ltb-false place (length row) past in
    let no_feed : (k : ℕ) → k < length row → get_or row k 0 ≢ 10 =
    (λ k less. eqb-false (get_or row k 0) 10 (fails_before_first (λ b. b == 10) row k 0 (omega (arith, less, low)))) in
    only_row row (omega arith) no_feed
    ∙ (ap (λ (l : List ℕ). l ∷ []) (sym (take_all (length row) row (omega arith)))
    ∙ ap (λ (l : List ℕ). take (length row) row ∷ whole_lines l) (sym (drop_all (length row) row (omega arith))))
  where
    no_place : (t : Bool) (place : ℕ) → None ≡ cond t (Some place) None → t ≡ false
    no_place true place e = absurd cc
    no_place false place e = refl

-- ---- lines that are put together

-- no byte is a line feed
abbrev pub HasNoFeed : List ℕ → Type 0
HasNoFeed [] = Unit {0}
HasNoFeed (byte ∷ bytes) = (byte ≢ 10) × HasNoFeed bytes

pub feeds-append : (xs ys : List ℕ) → HasNoFeed xs → HasNoFeed ys → HasNoFeed (xs ++ ys)
feeds-append [] ys none none' = none'
feeds-append (x ∷ xs) ys none none' = (none.0, feeds-append xs ys none.1 none')

-- bytes and a line feed are a line
pub one_line : (body rest : List ℕ) → HasNoFeed body → whole_lines (body ++ 10 ∷ rest) ≡ (body ++ 10 ∷ []) ∷ whole_lines rest
one_line [] rest none = refl
one_line (byte ∷ body) rest none =
    reject (byte == 10) _ _ (ne_eqb byte 10 none.0) ∙ ap (with_byte byte) (one_line body rest none.1)

-- a whole line, with its line feed
pub record IsLine (line : List ℕ) : Type 0 where
  pub body : List ℕ
  pub none : HasNoFeed body
  pub is : line ≡ body ++ 10 ∷ []

abbrev pub AreLines : List (List ℕ) → Type 0
AreLines [] = Unit {0}
AreLines (line ∷ lines) = IsLine line × AreLines lines

pub lines-append : (xs ys : List (List ℕ)) → AreLines xs → AreLines ys → AreLines (xs ++ ys)
lines-append [] ys are are' = are'
lines-append (x ∷ xs) ys are are' = (are.0, lines-append xs ys are.1 are')

pub line_before : (line rest : List ℕ) → IsLine line → whole_lines (line ++ rest) ≡ line ∷ whole_lines rest
line_before line rest is =
    ap (λ (l : List ℕ). whole_lines (l ++ rest)) is.is
    ∙ (ap whole_lines (append_assoc is.body (10 ∷ []) rest)
    ∙ (one_line is.body rest is.none ∙ ap (λ (l : List ℕ). l ∷ whole_lines rest) (sym is.is)))

pub lines_of_text : (lines : List (List ℕ)) → AreLines lines → whole_lines (flat_map (λ line. line) lines) ≡ lines
lines_of_text [] are = refl
lines_of_text (line ∷ lines) are =
    line_before line (flat_map (λ l. l) lines) are.0 ∙ ap (λ (ls : List (List ℕ)). line ∷ ls) (lines_of_text lines are.1)

-- the lines of bytes, put together, are the bytes
with_byte_joined : (byte : ℕ) (lines : List (List ℕ)) → flat_map (λ line. line) (with_byte byte lines) ≡ byte ∷ flat_map (λ line. line) lines
with_byte_joined byte [] = refl
with_byte_joined byte (line ∷ lines) = refl

pub joined_lines : (bytes : List ℕ) → flat_map (λ line. line) (whole_lines bytes) ≡ bytes
joined_lines [] = refl
joined_lines (byte ∷ bytes) = by (byte == 10) (joined_lines bytes)
  where
    by : (b : Bool) → flat_map (λ line. line) (whole_lines bytes) ≡ bytes
        → flat_map (λ line. line) (if b then (byte ∷ []) ∷ whole_lines bytes else with_byte byte (whole_lines bytes)) ≡ byte ∷ bytes
    by true rest = ap (λ (bs : List ℕ). byte ∷ bs) rest
    by false rest = with_byte_joined byte (whole_lines bytes) ∙ ap (λ (bs : List ℕ). byte ∷ bs) rest
