-- One more line after those that are laid out. Each function that doesn't say never counts as instrumented.
use Rattle.std.proofs.Common.{◌≡◌, ℕ, ◌+◌, Bool, false, [], ◌∷◌, ◌++◌, refl, ap, ◌∙◌, arith, append-nil}
use Rattle.std.specs.List.{flat_map}
use Rattle.std.proofs.lemmas.List.Sums.{sum_by-append}
use Rattle.std.proofs.lemmas.Grind.{flat_map-append}
use Rattle.asm_text.specs.declared.statement.Choice.TheVariants.{ByLength, Always, Args, Never}
use Rattle.asm_text.specs.Statements.{Statement, Base, Entry, Func, Label, Does}
use Rattle.asm_text.specs.Layout.{StatementLines, LineOwner, Placed, unless_never, owner_of, no_owner, parts_of_line, parts_at, placed_from, lines_placed, all_parts, width, widths}
use Rattle.asm_text.specs.private.FirstPass.{traced_after, traced_by}

-- where the lines end, and the function that the last one belongs to
abbrev pub end_of : ℕ → LineOwner → StatementLines → ℕ
end_of place owner [] = place
end_of place owner (line ∷ following) =
    let here = owner_of unless_never place owner line.1 following in
    end_of (place + widths (parts_of_line here.traced place line.1)) here following

abbrev pub owner_after : ℕ → LineOwner → StatementLines → LineOwner
owner_after place owner [] = owner
owner_after place owner (line ∷ following) =
    let here = owner_of unless_never place owner line.1 following in
    owner_after (place + widths (parts_of_line here.traced place line.1)) here following

-- the lines after this one decide nothing here
same_owner : (place : ℕ) (owner : LineOwner) (statement : Statement) (xs ys : StatementLines) → owner_of unless_never place owner statement xs ≡ owner_of unless_never place owner statement ys
same_owner place owner (Base address) xs ys = refl
same_owner place owner (Entry name) xs ys = refl
same_owner place owner (Func name ByLength) xs ys = refl
same_owner place owner (Func name Always) xs ys = refl
same_owner place owner (Func name Args) xs ys = refl
same_owner place owner (Func name Never) xs ys = refl
same_owner place owner (Label name) xs ys = refl
same_owner place owner (Does operation) xs ys = refl

-- a line as it is laid out after others
abbrev pub placed_last : ℕ → LineOwner → StatementLines → ℕ → Statement → Placed
placed_last place owner lines number statement = record {
  line = number;
  statement = statement;
  owner = owner_of unless_never (end_of place owner lines) (owner_after place owner lines) statement [];
  place = end_of place owner lines;
}

placed_from-more : (place : ℕ) (owner : LineOwner) (lines : StatementLines) (number : ℕ) (statement : Statement)
    → placed_from unless_never place owner (lines ++ (number, statement) ∷ []) ≡ placed_from unless_never place owner lines ++ placed_last place owner lines number statement ∷ []
placed_from-more place owner [] number statement = refl
placed_from-more place owner (line ∷ following) number statement =
    let here = owner_of unless_never place owner line.1 following in
    let more = placed_from-more (place + widths (parts_of_line here.traced place line.1)) here following number statement in
    let same = same_owner place owner line.1 (following ++ (number, statement) ∷ []) following in
    ap (λ (o : LineOwner). record { line = line.0; statement = line.1; owner = o; place = place } ∷ placed_from unless_never (place + widths (parts_of_line o.traced place line.1)) o (following ++ (number, statement) ∷ [])) same
    ∙ ap (λ ps. record { line = line.0; statement = line.1; owner = here; place = place } ∷ ps) more

end_of-is : (place : ℕ) (owner : LineOwner) (lines : StatementLines) → end_of place owner lines ≡ place + widths (flat_map parts_at (placed_from unless_never place owner lines))
end_of-is place owner [] = omega arith
end_of-is place owner (line ∷ following) =
    let here = owner_of unless_never place owner line.1 following in
    let next = place + widths (parts_of_line here.traced place line.1) in
    omega (arith, end_of-is next here following, sum_by-append width (parts_of_line here.traced place line.1) (flat_map parts_at (placed_from unless_never next here following)))

-- how many bytes the lines have
pub end_of_lines : (lines : StatementLines) → end_of 0 no_owner lines ≡ widths (all_parts unless_never lines)
end_of_lines lines = omega (arith, end_of-is 0 no_owner lines)

traced_after-is : (place : ℕ) (owner : LineOwner) (statement : Statement) (following : StatementLines) → (owner_of unless_never place owner statement following).traced ≡ traced_after owner.traced statement
traced_after-is place owner (Base address) following = refl
traced_after-is place owner (Entry name) following = refl
traced_after-is place owner (Func name ByLength) following = refl
traced_after-is place owner (Func name Always) following = refl
traced_after-is place owner (Func name Args) following = refl
traced_after-is place owner (Func name Never) following = refl
traced_after-is place owner (Label name) following = refl
traced_after-is place owner (Does operation) following = refl

owner_after-traced : (place : ℕ) (owner : LineOwner) (lines : StatementLines) → (owner_after place owner lines).traced ≡ traced_by owner.traced lines
owner_after-traced place owner [] = refl
owner_after-traced place owner (line ∷ following) =
    let here = owner_of unless_never place owner line.1 following in
    owner_after-traced (place + widths (parts_of_line here.traced place line.1)) here following ∙ ap (λ t. traced_by t following) (traced_after-is place owner line.1 following)

-- the parts of one more line
pub all_parts-more : (lines : StatementLines) (number : ℕ) (statement : Statement)
    → all_parts unless_never (lines ++ (number, statement) ∷ [])
    ≡ all_parts unless_never lines ++ parts_of_line (traced_after (traced_by false lines) statement) (widths (all_parts unless_never lines)) statement
all_parts-more lines number statement =
    let last = placed_last 0 no_owner lines number statement in
    let joined : all_parts unless_never (lines ++ (number, statement) ∷ []) ≡ all_parts unless_never lines ++ parts_at last =
    ap (flat_map parts_at) (placed_from-more 0 no_owner lines number statement) ∙ flat_map-append parts_at (lines_placed unless_never lines) (last ∷ [])
    ∙ ap (λ ps. all_parts unless_never lines ++ ps) (append-nil (parts_at last)) in
    let traced : last.owner.traced ≡ traced_after (traced_by false lines) statement =
    traced_after-is (end_of 0 no_owner lines) (owner_after 0 no_owner lines) statement [] ∙ ap (λ t. traced_after t statement) (owner_after-traced 0 no_owner lines) in
    joined ∙ ap (λ t. all_parts unless_never lines ++ parts_of_line t (end_of 0 no_owner lines) statement) traced
    ∙ ap (λ n. all_parts unless_never lines ++ parts_of_line (traced_after (traced_by false lines) statement) n statement) (end_of_lines lines)

pub traced_by-more : (traced : Bool) (lines : StatementLines) (number : ℕ) (statement : Statement) → traced_by traced (lines ++ (number, statement) ∷ []) ≡ traced_after (traced_by traced lines) statement
traced_by-more traced [] number statement = refl
traced_by-more traced (line ∷ following) number statement = traced_by-more (traced_after traced line.1) following number statement
