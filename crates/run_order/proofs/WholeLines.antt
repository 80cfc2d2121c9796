-- The first line of a text, with what ends it.
use Rattle.std.proofs.Common.{◌≡◌, ℕ, suc, ◌+◌, ◌<◌, Bool, true, false, cond, List, [], ◌∷◌, ◌++◌, append_assoc, Some, None, refl, sym, ap, subst, ◌∙◌, arith, length, take, drop}
use Rattle.std.specs.Prelude.{◌==◌, All, filter, not, position, slice_get, unwrap_or}
use Rattle.std.specs.List.{enumerate_from, flat_map, position_or_len, slice_split}
use Rattle.std.specs.Str.Lines.{lines}
use Rattle.std.proofs.lemmas.Bool.Decides.{Decides-eqb, nat_tests}
use Rattle.std.proofs.lemmas.List.Elements.{All-from_get_or}
use Rattle.std.proofs.lemmas.List.Splits.{length-slice_split, slice_split_first, slice_split_none}
use Rattle.std.proofs.lemmas.List.Sums.{fails_before_first}
use Rattle.text_lines.proofs.Places.{None-position, Some-position}
use Rattle.text_lines.specs.Words.{words_of}
use Rattle.run_order.specs.FreeScripts.{begins_wait, free_text, line_in, lines_with_ends, whole_of_parts}
use Rattle.run_order.specs.private.Texts.{kept_text}

abbrev ends : ℕ → Bool
ends byte = byte == 10

-- ---- the first line

-- the bytes up to an end, and the end
taken_end : (text : List ℕ) → position_or_len ends text < length text
    → take (position_or_len ends text + 1) text ≡ take (position_or_len ends text) text ++ 10 ∷ []
taken_end [] low = absurd (omega (arith, low))
taken_end (byte ∷ bytes) low = by_test (ends byte) refl low (taken_end bytes)
  where
    by_test : (b : Bool) → ends byte ≡ b → cond (not b) (1 + position_or_len ends bytes) 0 < length (byte ∷ bytes)
        → (position_or_len ends bytes < length bytes → take (position_or_len ends bytes + 1) bytes ≡ take (position_or_len ends bytes) bytes ++ 10 ∷ [])
        → take (cond (not b) (1 + position_or_len ends bytes) 0 + 1) (byte ∷ bytes)
        ≡ take (cond (not b) (1 + position_or_len ends bytes) 0) (byte ∷ bytes) ++ 10 ∷ []
    by_test true is low later = ap (λ b. b ∷ []) ((Decides-eqb byte 10).0 is)
    by_test false is low later =
        let p : ℕ = position_or_len ends bytes in
        let more : 1 + p + 1 ≡ suc (p + 1) = omega arith in
        let one : 1 + p ≡ suc p = omega arith in
        ap (λ n. take n (byte ∷ bytes)) more
        ∙ ap (λ (bs : List ℕ). byte ∷ bs) (later (omega (arith, low)))
        ∙ ap (λ n. take n (byte ∷ bytes) ++ 10 ∷ []) (sym one)

more_whole : (part : List ℕ) (parts : List (List ℕ)) → 0 < length parts → whole_of_parts (part ∷ parts) ≡ (part ++ 10 ∷ []) ∷ whole_of_parts parts
more_whole part [] some = absurd (omega (arith, some))
more_whole part (next ∷ later) some = refl

pub first_whole : (text : List ℕ) (end : ℕ) → Some end ≡ position ends text
    → lines_with_ends text ≡ take (end + 1) text ∷ lines_with_ends (drop (end + 1) text)
first_whole text end h =
    let at = Some-position ends text end h in
    let within : position_or_len ends text < length text = omega (arith, at.0, at.1) in
    let following = drop (position_or_len ends text + 1) text in
    let some : 0 < length (slice_split ends following) = omega (arith, length-slice_split ends following) in
    let first : lines_with_ends text ≡ (take (position_or_len ends text) text ++ 10 ∷ []) ∷ lines_with_ends following =
    ap whole_of_parts (slice_split_first ends text 0 within)
    ∙ more_whole (take (position_or_len ends text) text) (slice_split ends following) some in
    let P : ℕ → Type 0 = λ i. lines_with_ends text ≡ take (i + 1) text ∷ lines_with_ends (drop (i + 1) text) in
    subst P at.0 (first ∙ ap (λ (line : List ℕ). line ∷ lines_with_ends following) (sym (taken_end text within)))

last_whole : (text : List ℕ) → 0 < length text → whole_of_parts (text ∷ []) ≡ text ∷ []
last_whole text some =
    let e : (length text == 0) ≡ false = grind (arith, nat_tests) in
    ap (λ b. cond b [] (text ∷ [])) e

-- a text without an end is one line
pub only_whole : (text : List ℕ) → None ≡ position ends text → 0 < length text → lines_with_ends text ≡ text ∷ []
only_whole text h some =
    let no = None-position ends text h in
    let all : All (λ x. ends x ≡ false) text =
    All-from_get_or (λ x. ends x ≡ false) text 0 (λ k l. fails_before_first ends text k 0 (omega (arith, no, l))) in
    ap whole_of_parts (slice_split_none ends text all) ∙ last_whole text some

-- ---- the lines that stay

-- the text without waits is what is kept of each line
pub kept_texts : (text : List ℕ) → free_text text ≡ flat_map kept_text (lines_with_ends text)
kept_texts text = all_kept (lines_with_ends text)
  where
    all_kept : (lines : List (List ℕ)) → flat_map (λ line. line) (filter (λ line. not (begins_wait (words_of (line_in line)))) lines) ≡ flat_map kept_text lines
    all_kept [] = refl
    all_kept (line ∷ lines) = by_wait (begins_wait (words_of (line_in line))) (all_kept lines)
      where
        by_wait : (b : Bool) → flat_map (λ line. line) (filter (λ line. not (begins_wait (words_of (line_in line)))) lines) ≡ flat_map kept_text lines
            → flat_map (λ line. line) (cond (not b) (line ∷ filter (λ line. not (begins_wait (words_of (line_in line)))) lines) (filter (λ line. not (begins_wait (words_of (line_in line)))) lines))
            ≡ cond b [] line ++ flat_map kept_text lines
        by_wait true rest = rest
        by_wait false rest = ap (λ (bs : List ℕ). line ++ bs) rest

-- some bytes, what is kept of the first line, and what is kept of the others
pub kept_more : (done left line later : List ℕ) → lines_with_ends left ≡ line ∷ lines_with_ends later
    → (done ++ kept_text line) ++ flat_map kept_text (lines_with_ends later) ≡ done ++ flat_map kept_text (lines_with_ends left)
kept_more done left line later is =
    append_assoc done (kept_text line) (flat_map kept_text (lines_with_ends later))
    ∙ ap (λ (ls : List (List ℕ)). done ++ flat_map kept_text ls) (sym is)

-- ---- the line that bytes have

pub first_line_in : (bytes : List ℕ) (number : ℕ) (first : List ℕ) (rest : List (ℕ × List ℕ)) → enumerate_from 1 (lines bytes) ≡ (number, first) ∷ rest
    → line_in bytes ≡ first
first_line_in bytes number first rest e = by_lines (lines bytes) e
  where
    by_lines : (all : List (List ℕ)) → enumerate_from 1 all ≡ (number, first) ∷ rest → unwrap_or (slice_get all 0) [] ≡ first
    by_lines [] e = absurd cc
    by_lines (line ∷ all) e =
        let same : ◌≡◌ {A = ℕ × List ℕ} (1, line) (number, first) = cc in
        ap (λ (p : ℕ × List ℕ). p.1) same

pub no_line_in : (bytes : List ℕ) → enumerate_from 1 (lines bytes) ≡ [] → line_in bytes ≡ []
no_line_in bytes e = by_lines (lines bytes) e
  where
    by_lines : (all : List (List ℕ)) → enumerate_from 1 all ≡ [] → unwrap_or (slice_get all 0) [] ≡ []
    by_lines [] e = refl
    by_lines (line ∷ all) e = absurd cc
