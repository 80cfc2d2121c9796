-- A script without its waits is no longer than the script.
use Rattle.std.proofs.Common.{◌≡◌, ℕ, ◌≤◌, Bool, true, false, cond, List, [], ◌∷◌, ◌++◌, refl, sym, ap, subst, arith, length, length-append}
use Rattle.std.specs.Prelude.{◌==◌, filter, not}
use Rattle.std.specs.List.{flat_map, join_with_byte, slice_split}
use Rattle.std.proofs.lemmas.Bool.Decides.{nat_tests}
use Rattle.std.proofs.lemmas.List.Splits.{join_with_byte-slice_split}
use Rattle.text_lines.specs.Words.{words_of}
use Rattle.run_order.specs.FreeScripts.{begins_wait, free_text, line_in, lines_with_ends, whole_of_parts}

-- the bytes of lines
abbrev all_of : List (List ℕ) → List ℕ
all_of lines = flat_map (λ line. line) lines

-- some of some lines have no more bytes than all
some_short : (p : List ℕ → Bool) (lines : List (List ℕ)) → length (all_of (filter p lines)) ≤ length (all_of lines)
some_short p [] = omega arith
some_short p (line ∷ lines) = by_test (p line) refl (some_short p lines)
  where
    by_test : (b : Bool) → p line ≡ b → length (all_of (filter p lines)) ≤ length (all_of lines)
        → length (all_of (cond (p line) (line ∷ filter p lines) (filter p lines))) ≤ length (all_of (line ∷ lines))
    by_test true is rest =
        subst (λ (b : Bool). length (all_of (cond b (line ∷ filter p lines) (filter p lines))) ≤ length (all_of (line ∷ lines))) (sym is)
        (omega (arith, rest, length-append line (all_of (filter p lines)), length-append line (all_of lines)))
    by_test false is rest =
        subst (λ (b : Bool). length (all_of (cond b (line ∷ filter p lines) (filter p lines))) ≤ length (all_of (line ∷ lines))) (sym is)
        (omega (arith, rest, length-append line (all_of lines)))

-- the parts between LFs, each with its LF, have no more bytes than the text
parts_short : (parts : List (List ℕ)) → length (all_of (whole_of_parts parts)) ≤ length (join_with_byte 10 parts)
parts_short [] = omega arith
parts_short ([] ∷ []) = omega arith
parts_short ((byte ∷ part) ∷ []) =
    let some : (length (byte ∷ part) == 0) ≡ false = grind (arith, nat_tests) in
    let whole : whole_of_parts ((byte ∷ part) ∷ []) ≡ (byte ∷ part) ∷ [] = ap (λ b. cond b [] ((byte ∷ part) ∷ [])) some in
    omega (arith, ap (λ (ls : List (List ℕ)). length (all_of ls)) whole, length-append (byte ∷ part) [])
parts_short (part ∷ next ∷ later) =
    let rest = parts_short (next ∷ later) in
    omega (
      arith,
      rest,
      length-append (part ++ 10 ∷ []) (all_of (whole_of_parts (next ∷ later))),
      length-append part (10 ∷ []),
      length-append part (10 ∷ join_with_byte 10 (next ∷ later)),
    )

lines_short : (text : List ℕ) → length (all_of (lines_with_ends text)) ≤ length text
lines_short text =
    subst (λ (bytes : List ℕ). length (all_of (lines_with_ends text)) ≤ length bytes) (join_with_byte-slice_split 10 text)
    (parts_short (slice_split (λ byte. byte == 10) text))

pub free_short : (text : List ℕ) → length (free_text text) ≤ length text
free_short text =
    let some = some_short (λ line. not (begins_wait (words_of (line_in line)))) (lines_with_ends text) in
    let all = lines_short text in
    omega (arith, some, all)
