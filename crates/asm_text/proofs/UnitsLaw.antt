-- The units of a text are the units of an image's code.
use Rattle.std.proofs.Common.{◌≡◌, ℕ, ◌+◌, ◌%◌, ◌<◌, ◌≤◌, ◌-ℤ◌, pos, Bool, true, false, cond, List, [], ◌∷◌, ◌++◌, Option, Some, None, refl, arith, eqb, map}
use Rattle.std.proofs.lemmas.Int.{ints}
use Rattle.std.specs.Prelude.{FitsSigned, unwrap_or}
use Rattle.std.specs.Int.{w32}
use Rattle.std.specs.List.{flat_map, AllByRecursion}
use Rattle.std.proofs.lemmas.List.Sums.{sum_by-append}
use Rattle.xray_image.specs.Units.{Piece, Instruction, JumpSled, ReturnSled, Align, IsPiece, IsUnits, piece_bytes}
use Rattle.asm_text.specs.declared.statement.Branch.{Branch}
use Rattle.asm_text.specs.declared.statement.Branch.TheVariants as branches
use Rattle.asm_text.specs.Statements.{Operation, Plain, Go, TailJump, Return, Statement, Base, Entry, Func, Label, Does}
use Rattle.asm_text.specs.private.Fits.{Fits, OperationFits, AllFit}
use Rattle.asm_text.specs.Layout.{StatementLines, UnitDraft, Fixed, Jump, Placed, LineOwner, Choosing, owner_of, no_owner, parts_of_line, parts_at, plain_parts, traced_parts, aligned, placed_from, lines_placed, all_parts, width, widths, sled_shift, branch_to, piece_of, line_pieces, pieces, place_of}
use Rattle.asm_text.proofs.PlacesInCode.{AllLie, all_lie, name_within}

all_both : {X : Type 0} (P : X → Type 0) (xs ys : List X) → AllByRecursion P xs → AllByRecursion P ys → AllByRecursion P (xs ++ ys)
all_both P [] ys first second = second
all_both P (x ∷ xs) ys first second = (first.0, all_both P xs ys first.1 second)

-- a distance within the code fits its field
distance_fits : (target following : ℕ) → target ≤ 1048576 → following ≤ 1048576 → FitsSigned w32 (pos target -ℤ pos following)
distance_fits target following t b = omega (arith, ints)

branch_fits : (branch : Branch) (target following : ℕ) → target ≤ 1048576 → following ≤ 1048576 → IsPiece (Instruction (branch_to branch (pos target -ℤ pos following)))
branch_fits branches.Call target following t b = distance_fits target following t b
branch_fits branches.Jmp target following t b = distance_fits target following t b
branch_fits branches.Jnz target following t b = distance_fits target following t b

target_within : (o : Option ℕ) → ((place : ℕ) → o ≡ Some place → place ≤ 1048576) → unwrap_or o 0 ≤ 1048576
target_within None h = omega arith
target_within (Some place) h = h place refl

module _ (all : List Placed) (lie : AllLie 1048576 all) where
  -- the parts are pieces whose fields fit
  Fit : ℕ → List UnitDraft → Type 0
  Fit following parts = AllByRecursion IsPiece (map (piece_of all following) parts)

  sled_fits : (following place : ℕ) (sled : Piece) → IsPiece sled → Fit following (aligned place sled)
  unfolding Fit
  sled_fits following place sled h =
      elim (eqb (place % 2) 0) as (λ t. AllByRecursion IsPiece (map (piece_of all following) (cond t (Fixed sled ∷ []) (Fixed Align ∷ Fixed sled ∷ [])))) [
        | true ↦ (h, tt)
        | false ↦ (tt, (h, tt))
      ]

  jump_fits : (following : ℕ) (branch : Branch) (name : List ℕ) → following ≤ 1048576 → IsPiece (piece_of all following (Jump branch name))
  jump_fits following branch name within = branch_fits branch (unwrap_or (place_of name all) 0) following (target_within (place_of name all) (name_within 1048576 all lie name)) within

  sled_jump_fits : (following place : ℕ) (sled : Piece) (branch : Branch) (name : List ℕ) → IsPiece sled → following ≤ 1048576 → Fit following (aligned place sled ++ Jump branch name ∷ [])
  unfolding Fit
  sled_jump_fits following place sled branch name h within =
      elim (eqb (place % 2) 0) as (λ t. AllByRecursion IsPiece (map (piece_of all following) (cond t (Fixed sled ∷ []) (Fixed Align ∷ Fixed sled ∷ []) ++ Jump branch name ∷ []))) [
        | true ↦ (h, (jump_fits following branch name within, tt))
        | false ↦ (tt, (h, (jump_fits following branch name within, tt)))
      ]

  shift_fits : sled_shift < 4294967296
  shift_fits = omega arith

  plain_fits : (following : ℕ) (operation : Operation) → OperationFits operation → following ≤ 1048576 → Fit following (plain_parts operation)
  unfolding Fit
  plain_fits following (Plain instr) fit within = (fit, tt)
  plain_fits following (Go branch name) fit within = (jump_fits following branch name within, tt)
  plain_fits following (TailJump name) fit within = (jump_fits following branches.Jmp name within, tt)
  plain_fits following Return fit within = (tt, tt)

  traced_fits : (following place : ℕ) (operation : Operation) → OperationFits operation → following ≤ 1048576 → Fit following (traced_parts place operation)
  unfolding Fit
  traced_fits following place (Plain instr) fit within = (fit, tt)
  traced_fits following place (Go branch name) fit within = (jump_fits following branch name within, tt)
  traced_fits following place (TailJump name) fit within = sled_jump_fits following place (JumpSled sled_shift) branches.Jmp name shift_fits within
  traced_fits following place Return fit within = sled_fits following place (ReturnSled sled_shift) shift_fits

  line_fits : (traced : Bool) (following place : ℕ) (s : Statement) → Fits s → following ≤ 1048576 → Fit following (parts_of_line traced place s)
  unfolding Fit
  line_fits traced following place (Base address) fit within = tt
  line_fits traced following place (Entry name) fit within = tt
  line_fits true following place (Func name choice) fit within = sled_fits following place (JumpSled sled_shift) shift_fits
  line_fits false following place (Func name choice) fit within = tt
  line_fits traced following place (Label name) fit within = tt
  line_fits true following place (Does operation) fit within = traced_fits following place operation fit within
  line_fits false following place (Does operation) fit within = plain_fits following operation fit within

  lines_fit : (chosen : Choosing) (place : ℕ) (owner : LineOwner) (lines : StatementLines) → AllFit lines → place + widths (flat_map parts_at (placed_from chosen place owner lines)) ≤ 1048576
      → AllByRecursion IsPiece (flat_map (line_pieces all) (placed_from chosen place owner lines))
  unfolding Fit
  lines_fit chosen place owner [] fit within = tt
  lines_fit chosen place owner (line ∷ following) fit within =
      let here = owner_of chosen place owner line.1 following in
      let xs = parts_of_line here.traced place line.1 in
      let left = placed_from chosen (place + widths xs) here following in
      let more : place + widths xs + widths (flat_map parts_at left) ≤ 1048576 = omega (arith, within, sum_by-append width xs (flat_map parts_at left)) in
      let first : Fit (place + widths xs) xs = line_fits here.traced (place + widths xs) place line.1 fit.0 (omega (arith, more)) in
      all_both IsPiece (map (piece_of all (place + widths xs)) xs) (flat_map (line_pieces all) left) first (lines_fit chosen (place + widths xs) here following fit.1 more)

-- the whole code
pub code_is_units : (chosen : Choosing) (said : StatementLines) → AllFit said → widths (all_parts chosen said) ≤ 1048576
    → IsUnits (flat_map piece_bytes (pieces (lines_placed chosen said))) (pieces (lines_placed chosen said))
code_is_units chosen said fit few =
    let lie = all_lie chosen 1048576 0 no_owner said (omega (arith, few)) in
    record { whole = refl; pieces_fit = lines_fit (lines_placed chosen said) lie chosen 0 no_owner said fit (omega (arith, few)) }
