-- The lines of a text without its waits.
use Rattle.std.proofs.Common.{◌≡◌, ℕ, ◌<◌, Bool, true, false, cond, List, [], ◌∷◌, ◌++◌, append-nil, append_assoc, refl, sym, ap, ◌∙◌, arith, length}
use Rattle.std.specs.Prelude.{◌==◌, All, filter, not, slice_get, unwrap_or}
use Rattle.std.specs.List.{flat_map, onto_first, slice_split}
use Rattle.std.specs.Str.Lines.{lines, lines_of_parts, strip_carriage_return}
use Rattle.std.proofs.lemmas.List.Elements.{All-cons, All-nil}
use Rattle.std.proofs.lemmas.List.Splits.{length-slice_split, slice_split_at, slice_split_none}
use Rattle.text_lines.specs.Words.{words_of}
use Rattle.run_order.specs.FreeScripts.{begins_wait, free_text, line_in, whole_of_parts}

-- the byte ends a line
abbrev ends : ℕ → Bool
ends byte = byte == 10

-- no byte ends a line
abbrev NoEnd : List ℕ → Type 0
NoEnd bytes = All (λ byte. ends byte ≡ false) bytes

abbrev AllNoEnd : List (List ℕ) → Type 0
AllNoEnd [] = Unit {0}
AllNoEnd (part ∷ parts) = NoEnd part × AllNoEnd parts

parts_no_end : (bytes : List ℕ) → AllNoEnd (slice_split ends bytes)
parts_no_end [] = (All-nil (λ byte. ends byte ≡ false), tt)
parts_no_end (byte ∷ bytes) = by_test (ends byte) refl (slice_split ends bytes) (parts_no_end bytes)
  where
    by_test : (b : Bool) → ends byte ≡ b → (parts : List (List ℕ)) → AllNoEnd parts → AllNoEnd (cond b ([] ∷ parts) (onto_first byte parts))
    by_test true is parts none = (All-nil (λ byte. ends byte ≡ false), none)
    by_test false is [] none = (All-cons (λ b. ends b ≡ false) byte [] is (All-nil (λ b. ends b ≡ false)), tt)
    by_test false is (part ∷ parts) none = (All-cons (λ b. ends b ≡ false) byte part is none.0, none.1)

-- ---- the lines of lines

more_lines : (part : List ℕ) (parts : List (List ℕ)) → 0 < length parts → lines_of_parts (part ∷ parts) ≡ strip_carriage_return part ∷ lines_of_parts parts
more_lines part [] some = absurd (omega (arith, some))
more_lines part (next ∷ later) some = refl

-- a line that ends, before other bytes
ended_line : (part bytes : List ℕ) → NoEnd part → lines ((part ++ 10 ∷ []) ++ bytes) ≡ strip_carriage_return part ∷ lines bytes
ended_line part bytes none =
    let some : 0 < length (slice_split ends bytes) = omega (arith, length-slice_split ends bytes) in
    ap lines (append_assoc part (10 ∷ []) bytes)
    ∙ ap lines_of_parts (slice_split_at ends part 10 bytes none refl)
    ∙ more_lines part (slice_split ends bytes) some

-- a last line without an end
last_line : (part : List ℕ) → NoEnd part → (length part == 0) ≡ false → lines part ≡ part ∷ []
last_line part none some =
    ap lines_of_parts (slice_split_none ends part none) ∙ ap (λ b. cond b [] (part ∷ [])) some

-- ---- what stays

-- a line with its end stays, by the line that it is
abbrev stays_whole : List ℕ → Bool
stays_whole line = not (begins_wait (words_of (line_in line)))

abbrev pub stays_line : List ℕ → Bool
stays_line line = not (begins_wait (words_of line))

-- by the test of its line, a line is added to those that stay
kept_line : (part : List ℕ) (later : List (List ℕ)) (own : List ℕ) (rest : List (List ℕ)) (line : List ℕ) → line_in part ≡ line
    → ((bytes : List ℕ) → lines (part ++ bytes) ≡ line ∷ lines bytes) → lines (flat_map (λ l. l) later) ≡ filter stays_line rest
    → lines (flat_map (λ l. l) (cond (stays_whole part) (part ∷ later) later)) ≡ cond (stays_line line) (line ∷ filter stays_line rest) (filter stays_line rest)
kept_line part later own rest line is more same =
    by_test (stays_line line) (ap stays_line is)
  where
    by_test : (b : Bool) → stays_whole part ≡ b
        → lines (flat_map (λ l. l) (cond (stays_whole part) (part ∷ later) later)) ≡ cond b (line ∷ filter stays_line rest) (filter stays_line rest)
    by_test true e =
        ap (λ b. lines (flat_map (λ l. l) (cond b (part ∷ later) later))) e ∙ more (flat_map (λ l. l) later) ∙ ap (λ (ls : List (List ℕ)). line ∷ ls) same
    by_test false e = ap (λ b. lines (flat_map (λ l. l) (cond b (part ∷ later) later))) e ∙ same

kept_lines : (parts : List (List ℕ)) → AllNoEnd parts
    → lines (flat_map (λ line. line) (filter stays_whole (whole_of_parts parts))) ≡ filter stays_line (lines_of_parts parts)
kept_lines [] none = refl
kept_lines (part ∷ []) none = by_test (length part == 0) refl
  where
    by_test : (b : Bool) → (length part == 0) ≡ b
        → lines (flat_map (λ line. line) (filter stays_whole (cond b [] (part ∷ [])))) ≡ filter stays_line (cond b [] (part ∷ []))
    by_test true e = refl
    by_test false e =
        let one : lines part ≡ part ∷ [] = last_line part none.0 e in
        let is : line_in part ≡ part = ap (λ (ls : List (List ℕ)). unwrap_or (slice_get ls 0) []) one in
        by_stay one (stays_line part) refl (ap stays_line is)
      where
        by_stay : lines part ≡ part ∷ [] → (s : Bool) → stays_line part ≡ s → stays_whole part ≡ stays_line part
            → lines (flat_map (λ line. line) (cond (stays_whole part) (part ∷ []) [])) ≡ cond (stays_line part) (part ∷ []) []
        by_stay one true stays same =
            ap (λ b. lines (flat_map (λ line. line) (cond b (part ∷ []) []))) (same ∙ stays) ∙ ap lines (append-nil part) ∙ one
            ∙ ap (λ b. cond b (part ∷ []) []) (sym stays)
        by_stay one false stays same =
            ap (λ b. lines (flat_map (λ line. line) (cond b (part ∷ []) []))) (same ∙ stays) ∙ ap (λ b. cond b (part ∷ []) []) (sym stays)
kept_lines (part ∷ next ∷ later) none =
    let whole : List ℕ = part ++ 10 ∷ [] in
    let line : List ℕ = strip_carriage_return part in
    let alone : lines whole ≡ line ∷ [] = ap lines (sym (append-nil whole)) ∙ ended_line part [] none.0 in
    let is : line_in whole ≡ line = ap (λ (ls : List (List ℕ)). unwrap_or (slice_get ls 0) []) alone in
    kept_line whole (filter stays_whole (whole_of_parts (next ∷ later))) [] (lines_of_parts (next ∷ later)) line is
    (λ bytes. ended_line part bytes none.0) (kept_lines (next ∷ later) none.1)

-- The lines of the text without waits are those that don't begin with a wait.
pub free_lines : (text : List ℕ) → lines (free_text text) ≡ filter stays_line (lines text)
free_lines text = kept_lines (slice_split ends text) (parts_no_end text)
