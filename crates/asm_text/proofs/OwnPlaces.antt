-- At the place that a line gives, a unit begins. It is the place of an instruction line or a function's start.
use Rattle.std.proofs.Common.{◌≡◌, ℕ, zero, suc, ◌+◌, ◌%◌, ◌<◌, Bool, true, false, cond, List, [], ◌∷◌, ◌++◌, Some, refl, sym, ap, subst, ◌∙◌, arith, eqb, map, append-nil, add_assoc, add-zero}
use Rattle.std.specs.Prelude.{Contains}
use Rattle.std.specs.List.{flat_map, AllByRecursion}
use Rattle.std.proofs.lemmas.List.Elements.{Contains-append_left, Contains-append_right}
use Rattle.xray_image.specs.Units.{Piece, Instruction, Align, JumpSled, ReturnSled}
use Rattle.subset_decode.specs.declared.instr.Instr.TheVariants as instrs
use Rattle.asm_text.specs.declared.statement.Choice.{Choice}
use Rattle.asm_text.specs.declared.statement.Branch.TheVariants as branches
use Rattle.asm_text.specs.Statements.{Operation, Plain, Go, TailJump, Return, Statement, Base, Entry, Func, Label, Does}
use Rattle.asm_text.specs.Layout.{StatementLines, UnitDraft, Fixed, Jump, Placed, LineOwner, Choosing, owner_of, owner_at, instruction_lines, parts_of_line, aligned, placed_from, widths, sled_shift, piece_of, line_pieces, own_place}
use Rattle.asm_text.proofs.WidthLemmas.{at_parity}
use Rattle.asm_text.proofs.PlacesInCode.{parts_length}
use Rattle.asm_text.proofs.SaidLines.{IsFilled, AllFilled}
use Rattle.asm_text.proofs.Addresses.{addresses_from, addresses-append, first_address, address_within}

-- the place that a line gives is one of the addresses
abbrev pub Stands : ℕ → List ℕ → Placed → Type 0
Stands base begins p = (own : ℕ) → own_place p ≡ Some own → Contains begins (base + own)

stand_after : (base : ℕ) (xs ys : List ℕ) (lines : List Placed) → AllByRecursion (Stands base ys) lines → AllByRecursion (Stands base (xs ++ ys)) lines
stand_after base xs ys [] all = tt
stand_after base xs ys (p ∷ lines) all = ((λ own e. Contains-append_right xs ys (base + own) (all.0 own e)), stand_after base xs ys lines all.1)

module _ (all : List Placed) (following : ℕ) where
  abbrev made : List UnitDraft → List Piece
  made parts = map (piece_of all following) parts

  -- the alignment byte of a sled, or the sled, begins where its line does
  aligned_first : (address place : ℕ) (sled : Piece) (rest : List UnitDraft) → Contains (addresses_from address (made (aligned place sled ++ rest))) address
  aligned_first address place sled rest =
      elim (eqb (place % 2) 0) as (λ t. Contains (addresses_from address (map (piece_of all following) (cond t (Fixed sled ∷ []) (Fixed Align ∷ Fixed sled ∷ []) ++ rest))) address) [
        | true ↦ first_address address sled (map (piece_of all following) rest)
        | false ↦ first_address address Align (sled ∷ map (piece_of all following) rest)
      ]

  aligned_only : (address place : ℕ) (sled : Piece) → Contains (addresses_from address (made (aligned place sled))) address
  aligned_only address place sled =
      subst (λ parts. Contains (addresses_from address (map (piece_of all following) parts)) address) (append-nil (aligned place sled)) (aligned_first address place sled [])

  -- an instruction line has a unit at its place
  operation_first : (traced : Bool) (address place : ℕ) (operation : Operation) → Contains (addresses_from address (made (parts_of_line traced place (Does operation)))) address
  operation_first true address place (Plain instr) = first_address address (piece_of all following (Fixed (Instruction instr))) []
  operation_first true address place (Go branch name) = first_address address (piece_of all following (Jump branch name)) []
  operation_first true address place (TailJump name) = aligned_first address place (JumpSled sled_shift) (Jump branches.Jmp name ∷ [])
  operation_first true address place Return = aligned_only address place (ReturnSled sled_shift)
  operation_first false address place (Plain instr) = first_address address (piece_of all following (Fixed (Instruction instr))) []
  operation_first false address place (Go branch name) = first_address address (piece_of all following (Jump branch name)) []
  operation_first false address place (TailJump name) = first_address address (piece_of all following (Jump branches.Jmp name)) []
  operation_first false address place Return = first_address address (piece_of all following (Fixed (Instruction instrs.Ret))) []

  sled_at : (address : ℕ) (sled : Piece) (r : ℕ) → r < 2 → Contains (addresses_from address (made (at_parity r sled))) (address + r)
  sled_at address sled zero h = (0, omega arith, sym (add-zero address))
  sled_at address sled (suc zero) h = (1, omega arith, refl)
  sled_at address sled (suc (suc r)) h = absurd (omega arith)

  -- the sled itself begins after any alignment byte
  aligned_sled : (base place : ℕ) (sled : Piece) → Contains (addresses_from (base + place) (made (aligned place sled))) (base + (place + place % 2))
  aligned_sled base place sled =
      subst (λ a. Contains (addresses_from (base + place) (map (piece_of all following) (aligned place sled))) a) (add_assoc base place (place % 2)) (sled_at (base + place) sled (place % 2) (omega arith))

module _ (all : List Placed) (base : ℕ) where
  -- where the units of lines begin
  abbrev begins : Choosing → ℕ → LineOwner → StatementLines → List ℕ
  begins chosen place owner lines = addresses_from (base + place) (flat_map (line_pieces all) (placed_from chosen place owner lines))

  -- if an instruction line follows, a unit begins at the place of the lines
  next_unit : (chosen : Choosing) (place : ℕ) (owner : LineOwner) (lines : StatementLines) → 0 < instruction_lines lines → Contains (begins chosen place owner lines) (base + place)
  next_unit chosen place owner [] h = absurd (omega arith)
  next_unit chosen place owner ((number, Base address) ∷ following) h =
      subst (λ n. Contains (addresses_from (base + place) (flat_map (line_pieces all) (placed_from chosen n owner following))) (base + place)) (sym (add-zero place)) (next_unit chosen place owner following h)
  next_unit chosen place owner ((number, Entry name) ∷ following) h =
      subst (λ n. Contains (addresses_from (base + place) (flat_map (line_pieces all) (placed_from chosen n owner following))) (base + place)) (sym (add-zero place)) (next_unit chosen place owner following h)
  next_unit chosen place owner ((number, Func name choice) ∷ following) h = absurd (omega arith)
  next_unit chosen place owner ((number, Label name) ∷ following) h =
      subst (λ n. Contains (addresses_from (base + place) (flat_map (line_pieces all) (placed_from chosen n owner following))) (base + place)) (sym (add-zero place)) (next_unit chosen place owner following h)
  next_unit chosen place owner ((number, Does operation) ∷ following) h =
      let xs = parts_of_line owner.traced place (Does operation) in
      let next = place + widths xs in
      address_within (base + place) (map (piece_of all next) xs) (flat_map (line_pieces all) (placed_from chosen next owner following)) (base + place)
      (operation_first all next owner.traced (base + place) place operation)

  -- the units of a line, and those after it
  abbrev line_begins : (here : LineOwner) (chosen : Choosing) (place : ℕ) (s : Statement) (following : StatementLines) → List ℕ
  line_begins here chosen place s following =
      addresses_from (base + place) (map (piece_of all (place + widths (parts_of_line here.traced place s))) (parts_of_line here.traced place s))
      ++ begins chosen (place + widths (parts_of_line here.traced place s)) here following

  function_stands : (traced : Bool) (chosen : Choosing) (place : ℕ) (name : List ℕ) (choice : Choice) (following : StatementLines) → 0 < instruction_lines following
      → let here = owner_at traced choice place in Contains (line_begins here chosen place (Func name choice) following) (base + here.start)
  function_stands true chosen place name choice following h =
      let here = owner_at true choice place in
      let xs = aligned place (JumpSled sled_shift) in
      let next = place + widths xs in
      Contains-append_left (addresses_from (base + place) (map (piece_of all next) xs)) (begins chosen next here following) (base + (place + place % 2)) (aligned_sled all next base place (JumpSled sled_shift))
  function_stands false chosen place name choice following h =
      let here = owner_at false choice place in
      subst (λ n. Contains (begins chosen (place + 0) here following) (base + n)) (add-zero place) (next_unit chosen (place + 0) here following h)

  own_first : (chosen : Choosing) (place : ℕ) (owner : LineOwner) (number : ℕ) (s : Statement) (following : StatementLines) → IsFilled s following
      → let here = owner_of chosen place owner s following in Stands base (line_begins here chosen place s following) (record { line = number; statement = s; owner = here; place = place })
  own_first chosen place owner number (Base address) following filled own e = absurd (cc e)
  own_first chosen place owner number (Entry name) following filled own e = absurd (cc e)
  own_first chosen place owner number (Func name choice) following filled own e =
      let here = owner_of chosen place owner (Func name choice) following in
      let at : here.start ≡ own = cc e in
      subst (λ n. Contains (line_begins here chosen place (Func name choice) following) (base + n)) at (function_stands (chosen choice (instruction_lines following)) chosen place name choice following filled)
  own_first chosen place owner number (Label name) following filled own e = absurd (cc e)
  own_first chosen place owner number (Does operation) following filled own e =
      let at : place ≡ own = cc e in
      let xs = parts_of_line owner.traced place (Does operation) in
      let next = place + widths xs in
      subst (λ n. Contains (line_begins owner chosen place (Does operation) following) (base + n)) at
      (Contains-append_left (addresses_from (base + place) (map (piece_of all next) xs)) (begins chosen next owner following) (base + place) (operation_first all next owner.traced (base + place) place operation))

  line_joins : (here : LineOwner) (chosen : Choosing) (place : ℕ) (s : Statement) (following : StatementLines)
      → let xs = parts_of_line here.traced place s in
      addresses_from (base + place) (map (piece_of all (place + widths xs)) xs ++ flat_map (line_pieces all) (placed_from chosen (place + widths xs) here following)) ≡ line_begins here chosen place s following
  line_joins here chosen place s following =
      let xs = parts_of_line here.traced place s in
      let next = place + widths xs in
      let first = map (piece_of all next) xs in
      let others = flat_map (line_pieces all) (placed_from chosen next here following) in
      addresses-append (base + place) first others
      ∙ ap (λ n. addresses_from (base + place) first ++ addresses_from n others) (ap (λ w. base + place + w) (parts_length all next xs) ∙ add_assoc base place (widths xs))

  all_stand : (chosen : Choosing) (place : ℕ) (owner : LineOwner) (lines : StatementLines) → AllFilled lines → AllByRecursion (Stands base (begins chosen place owner lines)) (placed_from chosen place owner lines)
  all_stand chosen place owner [] filled = tt
  all_stand chosen place owner (line ∷ following) filled =
      let here = owner_of chosen place owner line.1 following in
      let p : Placed = record { line = line.0; statement = line.1; owner = here; place = place } in
      let xs = parts_of_line here.traced place line.1 in
      let next = place + widths xs in
      let left = placed_from chosen next here following in
      subst (λ ns. AllByRecursion (Stands base ns) (p ∷ left)) (sym (line_joins here chosen place line.1 following)) (
        own_first chosen place owner line.0 line.1 following filled.0,
        stand_after base (addresses_from (base + place) (map (piece_of all next) xs)) (begins chosen next here following) left (all_stand chosen next here following filled.1),
      )

-- each line's own place
pub own_places : (all : List Placed) (base : ℕ) (chosen : Choosing) (place : ℕ) (owner : LineOwner) (lines : StatementLines) → AllFilled lines
    → AllByRecursion (Stands base (addresses_from (base + place) (flat_map (line_pieces all) (placed_from chosen place owner lines)))) (placed_from chosen place owner lines)
own_places all base chosen place owner lines filled = all_stand all base chosen place owner lines filled
