-- If a text was read, its branches go to units.
use Rattle.std.proofs.Common.{◌≡◌, ℕ, zero, suc, ◌<◌, ◌+◌, ◌%◌, ℤ, pos, Bool, true, false, cond, ◌||◌, List, [], ◌∷◌, ◌++◌, length, Option, Some, None, refl, sym, ap, subst, ◌∙◌, arith, eqb, map, length-append, add_assoc, add-zero}
use Rattle.std.specs.Prelude.{⊤, Ok, Contains, IfSome, is_some, unwrap_or}
use Rattle.std.specs.List.{flat_map, AllByRecursion}
use Rattle.std.proofs.lemmas.Bool.{not-false}
use Rattle.std.proofs.lemmas.Int.{ints}
use Rattle.std.proofs.lemmas.List.Elements.{All-from_recursion, All-contains}
use Rattle.subset_decode.specs.declared.instr.Instr.{Instr}
use Rattle.subset_decode.specs.declared.instr.Instr.TheVariants as instrs
use Rattle.subset_decode.specs.Encoding.{spelling}
use Rattle.xray_image.specs.declared.unit.Unit.{Unit as CodeUnit}
use Rattle.xray_image.specs.declared.unit.What.{What}
use Rattle.xray_image.specs.declared.unit.What.TheVariants as whats
use Rattle.xray_image.specs.Units.{Piece, Instruction, JumpSled, ReturnSled, Align, piece_bytes, sleds_in, units_from, what_of}
use Rattle.xray_image.specs.Program.{addresses, branch_target, BranchesReach}
use Rattle.asm_text.specs.declared.statement.Branch.{Branch}
use Rattle.asm_text.specs.declared.statement.Branch.TheVariants as branches
use Rattle.asm_text.specs.Statements.{Operation, Plain, Go, TailJump, Return, Statement, Base, Entry, Func, Label, Does}
use Rattle.asm_text.specs.Layout.{StatementLines, Fixed, Jump, Placed, LineOwner, Choosing, by_threshold, is_function, is_instruction, defines, owner_of, no_owner, parts_of_line, aligned, placed_from, lines_placed, widths, branch_width, sled_shift, piece_of, own_place, next_place, place_of, line_pieces, pieces, base_of}
use Rattle.asm_text.specs.private.Laying.{earlier, lines_of}
use Rattle.asm_text.specs.Refusals.{is_defined, is_missing, target_name, is_unresolved}
use Rattle.asm_text.specs.Assembling.{statements_said}
use Rattle.asm_text.proofs.ReadStatements.{NamesNoPlace, IsShort}
use Rattle.asm_text.proofs.TargetLemmas.{next_place-cons}
use Rattle.asm_text.proofs.EndingLemmas.{label_unresolved}
use Rattle.asm_text.proofs.WidthLemmas.{at_parity, widths_aligned_branch}
use Rattle.asm_text.proofs.PlacesInCode.{parts_length, lines_of-placed}
use Rattle.asm_text.proofs.SaidLines.{IsAllowed, Allowed, Settled, AreSaid, are_said, all_filled}
use Rattle.asm_text.proofs.Addresses.{addresses_from, addresses-units}
use Rattle.asm_text.proofs.OwnPlaces.{Stands, own_places}

-- ---- the place of a name

earlier_has : (P : ℕ → Type 0) (a b : Option ℕ) → ((own : ℕ) → a ≡ Some own → P own) → ((own : ℕ) → b ≡ Some own → P own) → (own : ℕ) → earlier a b ≡ Some own → P own
earlier_has P None b ha hb own e = hb own e
earlier_has P (Some x) b ha hb own e = ha own e

-- a fact of each line's own place
abbrev pub OwnHas : (ℕ → Type 0) → Placed → Type 0
OwnHas P p = (own : ℕ) → own_place p ≡ Some own → P own

next_has : (P : ℕ → Type 0) (all : List Placed) → AllByRecursion (OwnHas P) all → (own : ℕ) → next_place all ≡ Some own → P own
next_has P [] has own e = absurd (cc e)
next_has P (p ∷ following) has own e =
    earlier_has P (own_place p) (next_place following) has.0 (next_has P following has.1) own (sym (next_place-cons p following) ∙ e)

by_definition : (P : ℕ → Type 0) (t : Bool) (here there : Option ℕ) (place : ℕ) → (here ≡ Some place → P place) → (there ≡ Some place → P place) → cond t here there ≡ Some place → P place
by_definition P true here there place h i e = h e
by_definition P false here there place h i e = i e

name_has : (P : ℕ → Type 0) (all : List Placed) → AllByRecursion (OwnHas P) all → (name : List ℕ) (place : ℕ) → place_of name all ≡ Some place → P place
name_has P [] has name place e = absurd (cc e)
name_has P (p ∷ following) has name place e =
    by_definition P (defines name p.statement) (next_place (p ∷ following)) (place_of name following) place (next_has P (p ∷ following) has place) (name_has P following has.1 name place) e

-- a line that defines a name has a place, or a later line has
defined_here : (lines : StatementLines) (name : List ℕ) (p : Placed) (s : Statement) (following : List Placed) → s ≡ p.statement → defines name s ≡ true → is_unresolved lines s (lines_of following) ≡ false
    → is_some (next_place (p ∷ following)) ≡ true
defined_here lines name p (Base address) following is here settled = absurd (cc here)
defined_here lines name p (Entry other) following is here settled = absurd (cc here)
defined_here lines name p (Func other choice) following is here settled =
    let own : own_place p ≡ Some p.owner.start = subst (λ s. cond (is_function s) (Some p.owner.start) (cond (is_instruction s) (Some p.place) None) ≡ Some p.owner.start) is refl in
    ap is_some (next_place-cons p following ∙ ap (λ o. earlier o (next_place following)) own)
defined_here lines name p (Label other) following is here settled =
    let own : own_place p ≡ None = subst (λ s. cond (is_function s) (Some p.owner.start) (cond (is_instruction s) (Some p.place) None) ≡ None) is refl in
    not-false (is_some (next_place (p ∷ following))) (label_unresolved p following own ∙ settled)
defined_here lines name p (Does operation) following is here settled = absurd (cc here)

defined_first : (name : List ℕ) (p : Placed) (following : List Placed) (rest : Bool) (t : Bool) → (t ≡ true → is_some (next_place (p ∷ following)) ≡ true) → (rest ≡ true → is_some (place_of name following) ≡ true)
    → (t || rest) ≡ true → is_some (cond t (next_place (p ∷ following)) (place_of name following)) ≡ true
defined_first name p following rest true here there e = here refl
defined_first name p following rest false here there e = there e

-- a name that lines define has a place
defined_has_place : (all : StatementLines) (name : List ℕ) (chosen : Choosing) (place : ℕ) (owner : LineOwner) (lines : StatementLines) → Settled all lines → is_defined name lines ≡ true
    → is_some (place_of name (placed_from chosen place owner lines)) ≡ true
defined_has_place all name chosen place owner [] settled e = absurd (cc e)
defined_has_place all name chosen place owner (line ∷ following) settled e =
    let here = owner_of chosen place owner line.1 following in
    let p : Placed = record { line = line.0; statement = line.1; owner = here; place = place } in
    let next = place + widths (parts_of_line here.traced place line.1) in
    let left = placed_from chosen next here following in
    let known : is_unresolved all line.1 (lines_of left) ≡ false = subst (λ ls. is_unresolved all line.1 ls ≡ false) (sym (lines_of-placed chosen next here following)) settled.0 in
    defined_first name p left (is_defined name following) (defines name line.1) (λ t. defined_here all name p line.1 left refl t known)
    (defined_has_place all name chosen next here following settled.1) e

some_place : (P : ℕ → Type 0) (o : Option ℕ) → is_some o ≡ true → ((place : ℕ) → o ≡ Some place → P place) → P (unwrap_or o 0)
some_place P None some h = absurd (cc some)
some_place P (Some place) some h = h place refl

-- ---- branches among pieces

-- a unit begins at a target
abbrev pub GoesTo : List ℕ → ℤ → Type 0
GoesTo begins target = (address : ℕ) × (target ≡ pos address) × Contains begins address

-- if a piece branches, it goes from its address to a unit
abbrev pub Reaches : List ℕ → ℕ → Piece → Type 0
Reaches begins address (Instruction instr) = IfSome (branch_target (address + length (spelling instr)) instr) (GoesTo begins)
Reaches begins address (JumpSled shift) = ⊤
Reaches begins address (ReturnSled shift) = ⊤
Reaches begins address Align = ⊤

-- the same for each of several pieces
abbrev pub Reach : List ℕ → ℕ → List Piece → Type 0
Reach begins address [] = ⊤
Reach begins address (piece ∷ pieces) = Reaches begins address piece × Reach begins (address + length (piece_bytes piece)) pieces

reach-append : (begins : List ℕ) (address : ℕ) (xs ys : List Piece) → Reach begins address xs → Reach begins (address + length (flat_map piece_bytes xs)) ys → Reach begins address (xs ++ ys)
reach-append begins address [] ys first second = let same : address + 0 ≡ address = omega arith in subst (λ a. Reach begins a ys) same second
reach-append begins address (x ∷ xs) ys first second =
    let n = length (piece_bytes x) in
    let same : address + length (flat_map piece_bytes (x ∷ xs)) ≡ address + n + length (flat_map piece_bytes xs) =
    ap (λ m. address + m) (length-append (piece_bytes x) (flat_map piece_bytes xs)) ∙ sym (add_assoc address n (length (flat_map piece_bytes xs))) in
    (first.0, reach-append begins (address + n) xs ys first.1 (subst (λ a. Reach begins a ys) same second))

-- if a unit branches, it goes to one of the addresses
abbrev pub UnitReaches : List ℕ → CodeUnit → Type 0
UnitReaches begins u = (instr : Instr) → u.what ≡ whats.Plain instr → IfSome (branch_target (u.address + length (spelling instr)) instr) (GoesTo begins)

unit_reaches : (begins : List ℕ) (address sleds : ℕ) (piece : Piece) → Reaches begins address piece → (w : What) → what_of sleds piece ≡ w → UnitReaches begins (record { address = address; what = w })
unit_reaches begins address sleds (Instruction i) reaches w is instr e =
    let same : i ≡ instr = cc (is, e) in
    subst (λ x. IfSome (branch_target (address + length (spelling x)) x) (GoesTo begins)) same reaches
unit_reaches begins address sleds (JumpSled shift) reaches w is instr e = absurd (cc (is, e))
unit_reaches begins address sleds (ReturnSled shift) reaches w is instr e = absurd (cc (is, e))
unit_reaches begins address sleds Align reaches w is instr e = absurd (cc (is, e))

units_reach : (begins : List ℕ) (address sleds : ℕ) (pieces : List Piece) → Reach begins address pieces → AllByRecursion (UnitReaches begins) (units_from address sleds pieces)
units_reach begins address sleds [] reach = tt
units_reach begins address sleds (piece ∷ pieces) reach =
    (unit_reaches begins address sleds piece reach.0 (what_of sleds piece) refl, units_reach begins (address + length (piece_bytes piece)) (sleds + sleds_in piece) pieces reach.1)

-- ---- the branches of a line

module _ (all : List Placed) (base : ℕ) (begins : List ℕ) where
  -- where a name's place is
  abbrev target : List ℕ → ℕ
  target name = unwrap_or (place_of name all) 0

  jump_reaches : (following address : ℕ) (branch : Branch) (name : List ℕ) → address + branch_width branch ≡ base + following → Contains begins (base + target name)
      → Reaches begins address (piece_of all following (Jump branch name))
  jump_reaches following address branches.Call name ends there = (base + target name, omega (arith, ints, ends), there)
  jump_reaches following address branches.Jmp name ends there = (base + target name, omega (arith, ints, ends), there)
  jump_reaches following address branches.Jnz name ends there = (base + target name, omega (arith, ints, ends), there)

  plain_reaches : (following address : ℕ) (instr : Instr) → NamesNoPlace instr → Reaches begins address (piece_of all following (Fixed (Instruction instr)))
  plain_reaches following address (instrs.Mov dst imm) plain = tt
  plain_reaches following address (instrs.Add dst src) plain = tt
  plain_reaches following address (instrs.Sub dst src) plain = tt
  plain_reaches following address (instrs.Push reg) plain = tt
  plain_reaches following address (instrs.Pop reg) plain = tt
  plain_reaches following address (instrs.Call rel) plain = absurd plain
  plain_reaches following address (instrs.Jmp rel) plain = absurd plain
  plain_reaches following address (instrs.Jnz rel) plain = absurd plain
  plain_reaches following address instrs.Ret plain = tt
  plain_reaches following address (instrs.Out port) plain = tt

  -- a sled goes nowhere
  abbrev GoesNowhere : Piece → Type 0
  GoesNowhere piece = (address : ℕ) → Reaches begins address piece

  sled_reaches : (following address place : ℕ) (sled : Piece) → GoesNowhere sled → Reach begins address (map (piece_of all following) (aligned place sled))
  sled_reaches following address place sled nowhere =
      elim (eqb (place % 2) 0) as (λ t. Reach begins address (map (piece_of all following) (cond t (Fixed sled ∷ []) (Fixed Align ∷ Fixed sled ∷ [])))) [
        | true ↦ (nowhere address, tt)
        | false ↦ (tt, (nowhere (address + 1), tt))
      ]

  -- a tail jump after its sled
  tail_at : (following address : ℕ) (r : ℕ) (name : List ℕ) → r < 2 → address + (r + 11 + 5) ≡ base + following → Contains begins (base + target name)
      → Reach begins address (map (piece_of all following) (at_parity r (JumpSled sled_shift) ++ Jump branches.Jmp name ∷ []))
  tail_at following address zero name h ends there = (tt, (jump_reaches following (address + 11) branches.Jmp name (omega (arith, ends)) there, tt))
  tail_at following address (suc zero) name h ends there = (tt, (tt, (jump_reaches following (address + 1 + 11) branches.Jmp name (omega (arith, ends)) there, tt)))
  tail_at following address (suc (suc r)) name h ends there = absurd (omega arith)

  tail_reaches : (place : ℕ) (name : List ℕ) → Contains begins (base + target name)
      → let xs = aligned place (JumpSled sled_shift) ++ Jump branches.Jmp name ∷ [] in Reach begins (base + place) (map (piece_of all (place + widths xs)) xs)
  tail_reaches place name there =
      let xs = aligned place (JumpSled sled_shift) ++ Jump branches.Jmp name ∷ [] in
      tail_at (place + widths xs) (base + place) (place % 2) name (omega arith) (omega (arith, widths_aligned_branch place (JumpSled sled_shift) branches.Jmp name)) there

  -- the name that an operation goes to has its place among the addresses
  abbrev GoesThere : Operation → Type 0
  GoesThere operation = (name : List ℕ) → target_name operation ≡ Some name → Contains begins (base + target name)

  one_jump : (place : ℕ) (branch : Branch) (name : List ℕ) → Contains begins (base + target name) → Reach begins (base + place) (piece_of all (place + widths (Jump branch name ∷ [])) (Jump branch name) ∷ [])
  one_jump place branch name there = (jump_reaches (place + widths (Jump branch name ∷ [])) (base + place) branch name (omega arith) there, tt)

  operation_reaches : (traced : Bool) (place : ℕ) (operation : Operation) → IsShort (Does operation) → GoesThere operation
      → let xs = parts_of_line traced place (Does operation) in Reach begins (base + place) (map (piece_of all (place + widths xs)) xs)
  operation_reaches true place (Plain instr) short there = (plain_reaches (place + widths (Fixed (Instruction instr) ∷ [])) (base + place) instr short.1, tt)
  operation_reaches true place (Go branch name) short there = one_jump place branch name (there name refl)
  operation_reaches true place (TailJump name) short there = tail_reaches place name (there name refl)
  operation_reaches true place Return short there = sled_reaches (place + widths (aligned place (ReturnSled sled_shift))) (base + place) place (ReturnSled sled_shift) (λ _. tt)
  operation_reaches false place (Plain instr) short there = (plain_reaches (place + widths (Fixed (Instruction instr) ∷ [])) (base + place) instr short.1, tt)
  operation_reaches false place (Go branch name) short there = one_jump place branch name (there name refl)
  operation_reaches false place (TailJump name) short there = one_jump place branches.Jmp name (there name refl)
  operation_reaches false place Return short there = (tt, tt)

  -- what is known of the names that are defined
  abbrev KnowsPlaces : StatementLines → Type 0
  KnowsPlaces said = (name : List ℕ) → is_defined name said ≡ true → Contains begins (base + target name)

  found : (said : StatementLines) (o : Option (List ℕ)) → KnowsPlaces said → is_missing said o ≡ false → (name : List ℕ) → o ≡ Some name → Contains begins (base + target name)
  found said None knows settled name e = absurd (cc e)
  found said (Some other) knows settled name e =
      let same : other ≡ name = cc e in
      subst (λ n. Contains begins (base + target n)) same (knows other (not-false (is_defined other said) settled))

  line_reaches : (said before : StatementLines) (traced : Bool) (place : ℕ) (s : Statement) (following : StatementLines) → KnowsPlaces said → IsAllowed before s → is_unresolved said s following ≡ false
      → let xs = parts_of_line traced place s in Reach begins (base + place) (map (piece_of all (place + widths xs)) xs)
  line_reaches said before traced place (Base address) following knows may settled = tt
  line_reaches said before traced place (Entry name) following knows may settled = tt
  line_reaches said before true place (Func name choice) following knows may settled = sled_reaches (place + widths (aligned place (JumpSled sled_shift))) (base + place) place (JumpSled sled_shift) (λ _. tt)
  line_reaches said before false place (Func name choice) following knows may settled = tt
  line_reaches said before traced place (Label name) following knows may settled = tt
  line_reaches said before traced place (Does operation) following knows may settled = operation_reaches traced place operation may.short (found said (target_name operation) knows settled)

  lines_reach : (said : StatementLines) (chosen : Choosing) (place : ℕ) (owner : LineOwner) (before lines : StatementLines) → KnowsPlaces said → Allowed before lines → Settled said lines
      → Reach begins (base + place) (flat_map (line_pieces all) (placed_from chosen place owner lines))
  lines_reach said chosen place owner before [] knows may settled = tt
  lines_reach said chosen place owner before (line ∷ following) knows may settled =
      let here = owner_of chosen place owner line.1 following in
      let xs = parts_of_line here.traced place line.1 in
      let next = place + widths xs in
      let first = map (piece_of all next) xs in
      let same : base + next ≡ base + place + length (flat_map piece_bytes first) = sym (ap (λ w. base + place + w) (parts_length all next xs) ∙ add_assoc base place (widths xs)) in
      let others = flat_map (line_pieces all) (placed_from chosen next here following) in
      reach-append begins (base + place) first others (line_reaches said before here.traced place line.1 following knows may.0 settled.0)
      (subst (λ a. Reach begins a others) same (lines_reach said chosen next here (before ++ line ∷ []) following knows may.1 settled.1))

-- ---- all together

-- the branches of lines that were read
said_reach : (base : ℕ) (chosen : Choosing) (said : StatementLines) → AreSaid said → BranchesReach (units_from base 0 (pieces (lines_placed chosen said)))
said_reach base chosen said are u within =
    let all = lines_placed chosen said in
    let units = units_from base 0 (pieces all) in
    let begins = addresses units in
    let stands = own_places all base chosen 0 no_owner said (all_filled [] said are.allowed are.whole) in
    let at : addresses_from (base + 0) (pieces all) ≡ begins = ap (λ n. addresses_from n (pieces all)) (add-zero base) ∙ sym (addresses-units base 0 (pieces all)) in
    let has = subst (λ ns. AllByRecursion (Stands base ns) all) at stands in
    let P : ℕ → Type 0 = λ place. Contains begins (base + place) in
    let knows : (name : List ℕ) → is_defined name said ≡ true → Contains begins (base + unwrap_or (place_of name all) 0) =
    λ name defined. some_place P (place_of name all) (defined_has_place said name chosen 0 no_owner said are.settled defined) (name_has P all has name) in
    let reach = lines_reach all base begins said chosen 0 no_owner [] said knows are.allowed are.settled in
    let reach_there = subst (λ a. Reach begins a (pieces all)) (add-zero base) reach in
    All-contains (UnitReaches begins) units u (All-from_recursion (UnitReaches begins) units (units_reach begins base 0 (pieces all) reach_there)) within

-- the branches of a text
pub branches_reach : (text : List ℕ) (threshold : ℕ) (said : StatementLines) → statements_said text ≡ Ok said
    → BranchesReach (units_from (base_of said) 0 (pieces (lines_placed (by_threshold threshold) said)))
branches_reach text threshold said read = said_reach (base_of said) (by_threshold threshold) said (are_said text said read)
