-- The names of outputs. No other file has the name of an output.
use Rattle.std.proofs.Common.{◌≡◌, ◌≢◌, ◌∙◌, ◌==◌, ◌+◌, ◌≤◌, ℕ, Bool, true, false, List, [], ◌∷◌, cond, count_by, IfSome, Option, Some, None, arith, refl, sym, subst}
use Rattle.std.specs.List.{list_all}
use Rattle.std.specs.Prelude.{if◌then◌else◌}
use Rattle.std.specs.Str.{bytes_eq}
use Rattle.std.proofs.lemmas.Bool.{eqb-true}
use Rattle.std.proofs.lemmas.List.Sums.{sum_by-cons}
use Rattle.std.proofs.lemmas.Slice.Eq.{bytes_eq-Decides}
use Rattle.xray_io.specs.declared.wall.Wall.{Wall}
use Rattle.command_words.specs.Files.{row_of}
use Rattle.command_words.specs.Items.{items_of}
use Rattle.command_words.specs.Lines.{outputs_differ, outputs_in}
use Rattle.command_words.specs.Ranges.{AreApart, HasRanges, InRange, IsNone, OutputsAreApart}
use Rattle.command_words.specs.Rows.{FileRow, is_output}
use Rattle.command_words.specs.Words.{Command, reading}
use Rattle.command_words.proofs.OfRows.{allowed_in, never, of_their_rows}
use Rattle.command_words.proofs.Texts.{and_parts, same_text}

one_more : (p : List ℕ → Bool) (name : List ℕ) (names : List (List ℕ)) → count_by p (name ∷ names) ≡ cond (p name) 1 0 + count_by p names
one_more p name names = sum_by-cons (λ n. cond (p n) 1 0) name names

-- outputs are among the names
few : (p : List ℕ → Bool) (files : List FileRow) (names : List (List ℕ)) → count_by p (outputs_in files names) ≤ count_by p names
few p [] names = omega arith
few p (file ∷ files) [] = omega arith
few p (file ∷ files) (name ∷ names) = go (is_output file) (few p files names)
  where
    go : (b : Bool) → count_by p (outputs_in files names) ≤ count_by p names
        → count_by p (if b then name ∷ outputs_in files names else outputs_in files names) ≤ count_by p (name ∷ names)
    go true more = rw (one_more p name names, one_more p name (outputs_in files names)) (omega (arith, more))
    go false more = rw (one_more p name names) (omega (arith, more))

-- a text that is counted nowhere is none of the others
none_of : (name : List ℕ) (others : List (List ℕ)) → count_by (bytes_eq name) others ≤ 0 → IsNone name others
none_of name [] none = tt
none_of name (other ∷ others) none =
    let counted = one_more (bytes_eq name) other others in
    go others (none_of name others (omega (arith, none, counted)))
  where
    differs : name ≢ other
    differs is =
        let alike : bytes_eq name other ≡ true = (bytes_eq-Decides name other).1 is in
        let counted : count_by (bytes_eq name) (other ∷ others) ≡ 1 + count_by (bytes_eq name) others = one_more (bytes_eq name) other others ∙ rw alike refl in
        absurd (omega (arith, none, counted))

    go : (others : List (List ℕ)) → IsNone name others → IsNone name (other ∷ others)
    go [] more = differs
    go (another ∷ others) more = (differs, more)

-- texts that are counted only once among others are apart
apart : (outputs names : List (List ℕ)) → ((p : List ℕ → Bool) → count_by p outputs ≤ count_by p names)
    → list_all (λ output. count_by (bytes_eq output) names == 1) outputs ≡ true → AreApart outputs
apart [] names among all = tt
apart (name ∷ others) names among all =
    let parts = and_parts (count_by (bytes_eq name) names == 1) _ all in
    let once : count_by (bytes_eq name) names ≡ 1 = eqb-true (count_by (bytes_eq name) names) 1 parts.0 in
    let counted : count_by (bytes_eq name) (name ∷ others) ≡ 1 + count_by (bytes_eq name) others = one_more (bytes_eq name) name others ∙ rw (same_text name) refl in
    let bound = among (bytes_eq name) in
    let rest : (p : List ℕ → Bool) → count_by p others ≤ count_by p names = λ p. omega (arith, among p, one_more p name others) in
    go others (none_of name others (omega (arith, once, counted, bound))) (apart others names rest parts.1)
  where
    go : (others : List (List ℕ)) → IsNone name others → AreApart others → AreApart (name ∷ others)
    go [] none more = tt
    go (other ∷ []) none more = none
    go (other ∷ another ∷ others) none more = (none, more)

pub outputs_apart : OutputsAreApart
outputs_apart wall [] command is = never command is
outputs_apart wall (word ∷ words) command is =
    let of = of_their_rows wall word words command is in
    let row = row_of command in
    let allowed = allowed_in row (items_of words) of.line of.says in
    let differ = (and_parts (outputs_differ row.files of.line.files) _ allowed).0 in
    subst AreApart (sym of.outputs_are) (apart _ of.line.files (λ p. few p row.files of.line.files) differ)

-- so what words say has its ranges
pub ranged : (wall : Wall) (words : List (List ℕ)) (said : Option Command) → said ≡ reading wall words → IfSome said InRange → IfSome said HasRanges
ranged wall words None is ranges = tt
ranged wall words (Some command) is ranges = (ranges, outputs_apart wall words command (sym is))
