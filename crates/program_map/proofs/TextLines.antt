-- The lines of a text that is put together of lines.
use Rattle.std.proofs.Common.{◌≡◌, ◌-◌, ◌==◌, ℕ, Bool, true, false, cond, not, List, [], ◌∷◌, ◌++◌, length, length-append, take, get_or, refl, ap, ◌∙◌, arith, append_assoc}
use Rattle.std.specs.List.{All, flat_map, list_all, slice_split}
use Rattle.std.specs.Str.Lines.{lines, lines_of_parts, strip_carriage_return}
use Rattle.std.proofs.lemmas.Bool.{and_from, not-true}
use Rattle.std.proofs.lemmas.List.Folds.{list_all-append}
use Rattle.std.proofs.lemmas.List.Splits.{slice_split_at}
use Rattle.std.proofs.lemmas.List.Sums.{AllPass-from_list_all}

-- no byte ends a line
abbrev pub is_within_line : List ℕ → Bool
is_within_line line = list_all (λ b. not (b == 10)) line

-- a line that is read as it is: no byte ends it, and it doesn't end with a carriage return
pub record IsALine (line : List ℕ) : Type 0 where
  pub within : is_within_line line ≡ true
  pub kept : strip_carriage_return line ≡ line

abbrev pub AreLines : List (List ℕ) → Type 0
AreLines [] = Unit {0}
AreLines (line ∷ said) = IsALine line × AreLines said

-- lines, each with a line feed behind it
abbrev pub text_of_lines : List (List ℕ) → List ℕ
text_of_lines said = flat_map (λ line. line ++ 10 ∷ []) said

pub both_within : (xs ys : List ℕ) → is_within_line xs ≡ true → is_within_line ys ≡ true → is_within_line (xs ++ ys) ≡ true
both_within xs ys p q = list_all-append (λ b. not (b == 10)) xs ys ∙ and_from (is_within_line xs) (is_within_line ys) p q

none_ends : (line : List ℕ) → is_within_line line ≡ true → All (λ b. (b == 10) ≡ false) line
none_ends line h k d lt = not-true (get_or line k d == 10) (AllPass-from_list_all (λ b. not (b == 10)) line h k d lt)

split_lines : (said : List (List ℕ)) → AreLines said → slice_split (λ b. b == 10) (text_of_lines said) ≡ said ++ [] ∷ []
split_lines [] h = refl
split_lines (line ∷ said) h =
    ap (slice_split (λ b. b == 10)) (append_assoc line (10 ∷ []) (text_of_lines said))
    ∙ slice_split_at (λ b. b == 10) line 10 (text_of_lines said) (none_ends line h.0.within) refl
    ∙ ap (λ ls. line ∷ ls) (split_lines said h.1)

one_line_more : (line : List ℕ) (parts : List (List ℕ)) → lines_of_parts (line ∷ parts ++ [] ∷ []) ≡ strip_carriage_return line ∷ lines_of_parts (parts ++ [] ∷ [])
one_line_more line [] = refl
one_line_more line (part ∷ parts) = refl

lines_kept : (said : List (List ℕ)) → AreLines said → lines_of_parts (said ++ [] ∷ []) ≡ said
lines_kept [] h = refl
lines_kept (line ∷ said) h =
    one_line_more line said ∙ ap (λ l. l ∷ lines_of_parts (said ++ [] ∷ [])) h.0.kept ∙ ap (λ ls. line ∷ ls) (lines_kept said h.1)

pub text_lines : (said : List (List ℕ)) → AreLines said → lines (text_of_lines said) ≡ said
text_lines said h = ap lines_of_parts (split_lines said h) ∙ lines_kept said h

-- ---- the end of a line

last_at : (xs : List ℕ) (b : ℕ) → get_or (xs ++ b ∷ []) (length xs) 0 ≡ b
last_at [] b = refl
last_at (x ∷ xs) b = last_at xs b

-- a line that ends with another byte than a carriage return keeps it
pub end_kept : (xs : List ℕ) (b : ℕ) → (b == 13) ≡ false → strip_carriage_return (xs ++ b ∷ []) ≡ xs ++ b ∷ []
end_kept xs b isnt =
    let line = xs ++ b ∷ [] in
    let size : length line - 1 ≡ length xs = omega (arith, length-append xs (b ∷ [])) in
    let last : get_or line (length line - 1) 0 ≡ b = ap (λ n. get_or line n 0) size ∙ last_at xs b in
    ap (λ t. cond t (take (length line - 1) line) line) (ap (λ n. n == 13) last ∙ isnt)
