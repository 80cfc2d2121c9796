-- StatementLines and names within the code, and the length of the code.
use Rattle.std.proofs.Common.{◌≡◌, ℕ, zero, suc, ◌+◌, ◌%◌, ◌<◌, ◌≤◌, ◌-ℤ◌, pos, ℤ, Bool, true, false, cond, List, [], ◌∷◌, length, get_or, Option, Some, None, refl, sym, ap, subst, ◌∙◌, arith, map, length-append}
use Rattle.std.specs.Prelude.{sum_by, count_by, unwrap_or, option_map}
use Rattle.std.specs.List.{flat_map, cons_option}
use Rattle.std.proofs.lemmas.List.Sums.{sum_by-append}
use Rattle.std.proofs.lemmas.Grind.{flat_map-append}
use Rattle.std.proofs.lemmas.List.{length-map, get_or-map}
use Rattle.subset_decode.specs.Encoding.{spelling}
use Rattle.xray_image.specs.Units.{piece_bytes, JumpSled, ReturnSled}
use Rattle.xray_image.specs.Container.{Function, MapEntry}
use Rattle.asm_text.specs.declared.statement.Branch.{Branch}
use Rattle.asm_text.specs.declared.statement.Branch.TheVariants as branches
use Rattle.asm_text.specs.declared.layout.Laid.{Laid}
use Rattle.asm_text.specs.Statements.{Plain, Go, TailJump, Return, Statement, Base, Entry, Func, Label, Does}
use Rattle.asm_text.specs.Layout.{StatementLines, UnitDraft, Fixed, Jump, Placed, LineOwner, Choosing, owner_of, instruction_lines, owner_at, parts_of_line, parts_at, placed_from, width, widths, sleds_of_part, sled_shift, own_place, next_place, place_of, defines, is_function, is_instruction, branch_to, branch_width, piece_of, line_pieces, pieces, functions, function_in, map_entries, entry_in, sled_kind}
use Rattle.asm_text.specs.private.Laying.{earlier, line_placed, placed_in, lines_of}
use Rattle.asm_text.proofs.TargetLemmas.{next_place-cons}
use Rattle.asm_text.proofs.WidthLemmas.{widths_aligned, sleds_aligned, sleds_aligned_branch}

-- the lines that were placed
pub lines_of-placed : (chosen : Choosing) (place : ℕ) (owner : LineOwner) (lines : StatementLines) → lines_of (placed_from chosen place owner lines) ≡ lines
lines_of-placed chosen place owner [] = refl
lines_of-placed chosen place owner (line ∷ following) =
    let here = owner_of chosen place owner line.1 following in
    ap (λ ls. line ∷ ls) (lines_of-placed chosen (place + widths (parts_of_line here.traced place line.1)) here following)

-- a line, and the place that it gives, are within
abbrev pub Lies : ℕ → Placed → Type 0
Lies n p = (p.place ≤ n) × ((own : ℕ) → own_place p ≡ Some own → own ≤ n)

start_within : (chosen : Choosing) (place : ℕ) (owner : LineOwner) (s : Statement) (following : StatementLines) (n own : ℕ)
    → let here = owner_of chosen place owner s following in place + widths (parts_of_line here.traced place s) ≤ n
    → cond (is_function s) (Some here.start) (cond (is_instruction s) (Some place) None) ≡ Some own → own ≤ n
start_within chosen place owner (Base address) following n own h e = absurd (cc e)
start_within chosen place owner (Entry name) following n own h e = absurd (cc e)
start_within chosen place owner (Func name choice) following n own h e =
    by_traced (chosen choice (instruction_lines following)) h e
  where
    by_traced : (t : Bool) → place + widths (parts_of_line t place (Func name choice)) ≤ n → Some (owner_at t choice place).start ≡ Some own → own ≤ n
    by_traced true h e = let at : place + place % 2 ≡ own = cc e in omega (arith, at, widths_aligned place (JumpSled sled_shift))
    by_traced false h e = let at : place ≡ own = cc e in omega arith
start_within chosen place owner (Label name) following n own h e = absurd (cc e)
start_within chosen place owner (Does operation) following n own h e = let at : place ≡ own = cc e in omega arith

-- the same for each line of a list
abbrev pub AllLie : ℕ → List Placed → Type 0
AllLie n [] = Unit {0}
AllLie n (p ∷ following) = Lies n p × AllLie n following

pub all_lie : (chosen : Choosing) (n place : ℕ) (owner : LineOwner) (lines : StatementLines)
    → place + widths (flat_map parts_at (placed_from chosen place owner lines)) ≤ n → AllLie n (placed_from chosen place owner lines)
all_lie chosen n place owner [] h = tt
all_lie chosen n place owner (line ∷ following) h =
    let here = owner_of chosen place owner line.1 following in
    let xs = parts_of_line here.traced place line.1 in
    let left = placed_from chosen (place + widths xs) here following in
    let sums = sum_by-append width xs (flat_map parts_at left) in
    let next : place + widths xs + widths (flat_map parts_at left) ≤ n = omega (arith, h, sums) in
    ((omega (arith, next), λ own e. start_within chosen place owner line.1 following n own (omega (arith, next)) e), all_lie chosen n (place + widths xs) here following next)

pub lies_at : (n : ℕ) (all : List Placed) (i : ℕ) (d : Placed) → AllLie n all → i < length all → (get_or all i d).place ≤ n
lies_at n [] i d lie within = absurd (omega arith)
lies_at n (p ∷ following) zero d lie within = lie.0.0
lies_at n (p ∷ following) (suc i) d lie within = lies_at n following i d lie.1 (omega arith)

-- the same for the lines that were laid out
pub laid_lie : (n : ℕ) (laid : List Laid) (i : ℕ) (d : Laid) → AllLie n (placed_in laid) → i < length laid → (get_or laid i d).place ≤ n
laid_lie n laid i d lie within =
    subst (λ (p : Placed). p.place ≤ n) (get_or-map line_placed laid i d (line_placed d) within)
    (lies_at n (placed_in laid) i (line_placed d) lie (simp length-map within))

earlier_within : (n : ℕ) (a b : Option ℕ) → ((own : ℕ) → a ≡ Some own → own ≤ n) → ((own : ℕ) → b ≡ Some own → own ≤ n) → (own : ℕ) → earlier a b ≡ Some own → own ≤ n
earlier_within n None b ha hb own e = hb own e
earlier_within n (Some x) b ha hb own e = ha own e

next_within : (n : ℕ) (all : List Placed) → AllLie n all → (own : ℕ) → next_place all ≡ Some own → own ≤ n
next_within n [] lie own e = absurd (cc e)
next_within n (p ∷ following) lie own e =
    earlier_within n (own_place p) (next_place following) lie.0.1 (next_within n following lie.1) own (sym (next_place-cons p following) ∙ e)

place_by_case : (t : Bool) (here there : Option ℕ) (n place : ℕ) → (here ≡ Some place → place ≤ n) → (there ≡ Some place → place ≤ n) → cond t here there ≡ Some place → place ≤ n
place_by_case true here there n place h i e = h e
place_by_case false here there n place h i e = i e

-- the places of names
pub name_within : (n : ℕ) (all : List Placed) → AllLie n all → (name : List ℕ) (place : ℕ) → place_of name all ≡ Some place → place ≤ n
name_within n [] lie name place e = absurd (cc e)
name_within n (p ∷ following) lie name place e =
    place_by_case (defines name p.statement) (next_place (p ∷ following)) (place_of name following) n place (next_within n (p ∷ following) lie place) (name_within n following lie.1 name place) e

-- ---- the length of the code

branch_bytes : (branch : Branch) (rel : ℤ) → length (spelling (branch_to branch rel)) ≡ branch_width branch
branch_bytes branches.Call rel = refl
branch_bytes branches.Jmp rel = refl
branch_bytes branches.Jnz rel = refl

part_bytes : (all : List Placed) (following : ℕ) (part : UnitDraft) → length (piece_bytes (piece_of all following part)) ≡ width part
part_bytes all following (Fixed piece) = refl
part_bytes all following (Jump branch name) = branch_bytes branch (pos (unwrap_or (place_of name all) 0) -ℤ pos following)

pub parts_length : (all : List Placed) (following : ℕ) (parts : List UnitDraft) → length (flat_map piece_bytes (map (piece_of all following) parts)) ≡ widths parts
parts_length all following [] = refl
parts_length all following (part ∷ parts) =
    length-append (piece_bytes (piece_of all following part)) (flat_map piece_bytes (map (piece_of all following) parts))
    ∙ omega (arith, part_bytes all following part, parts_length all following parts, sum_by-append width (part ∷ []) parts)

lines_length : (all lines : List Placed) → length (flat_map piece_bytes (flat_map (line_pieces all) lines)) ≡ widths (flat_map parts_at lines)
lines_length all [] = refl
lines_length all (p ∷ following) =
    ap length (flat_map-append piece_bytes (line_pieces all p) (flat_map (line_pieces all) following))
    ∙ length-append (flat_map piece_bytes (line_pieces all p)) (flat_map piece_bytes (flat_map (line_pieces all) following))
    ∙ omega (arith, parts_length all (p.place + widths (parts_at p)) (parts_at p), lines_length all following, sum_by-append width (parts_at p) (flat_map parts_at following))

pub code_length : (all : List Placed) → length (flat_map piece_bytes (pieces all)) ≡ widths (flat_map parts_at all)
code_length all = lines_length all all

-- ---- the number of functions and sleds

pub functions_count : (chosen : Choosing) (place : ℕ) (owner : LineOwner) (lines : StatementLines) → length (functions 0 (placed_from chosen place owner lines)) ≡ count_by (λ line. is_function line.1) lines
functions_count chosen place owner [] = refl
functions_count chosen place owner (line ∷ following) =
    let here = owner_of chosen place owner line.1 following in
    let p : Placed = record { line = line.0; statement = line.1; owner = here; place = place } in
    let left = placed_from chosen (place + widths (parts_of_line here.traced place line.1)) here following in
    one p line.1 (functions 0 left)
    ∙ omega (arith, functions_count chosen (place + widths (parts_of_line here.traced place line.1)) here following, sum_by-append (λ (line : ℕ × Statement). cond (is_function line.1) 1 0) (line ∷ []) following)
  where
    one : (p : Placed) (s : Statement) (fs : List Function) → length (cons_option (function_in 0 p s) fs) ≡ cond (is_function s) 1 0 + length fs
    one p (Base address) fs = omega arith
    one p (Entry name) fs = omega arith
    one p (Func name choice) fs = omega arith
    one p (Label name) fs = omega arith
    one p (Does operation) fs = omega arith

-- a line's sled is among its parts
entry_length : (traced : Bool) (place : ℕ) (s : Statement) (entry : ℕ → MapEntry) (es : List MapEntry)
    → length (cons_option (cond traced (option_map entry (sled_kind s)) None) es) ≡ sum_by sleds_of_part (parts_of_line traced place s) + length es
entry_length true place (Base address) entry es = omega arith
entry_length true place (Entry name) entry es = omega arith
entry_length true place (Func name choice) entry es = omega (arith, sleds_aligned place (JumpSled sled_shift))
entry_length true place (Label name) entry es = omega arith
entry_length true place (Does (Plain instr)) entry es = omega arith
entry_length true place (Does (Go branch name)) entry es = omega arith
entry_length true place (Does (TailJump name)) entry es = omega (arith, sleds_aligned_branch place (JumpSled sled_shift) branches.Jmp name)
entry_length true place (Does Return) entry es = omega (arith, sleds_aligned place (ReturnSled sled_shift))
entry_length false place (Base address) entry es = omega arith
entry_length false place (Entry name) entry es = omega arith
entry_length false place (Func name choice) entry es = omega arith
entry_length false place (Label name) entry es = omega arith
entry_length false place (Does (Plain instr)) entry es = omega arith
entry_length false place (Does (Go branch name)) entry es = omega arith
entry_length false place (Does (TailJump name)) entry es = omega arith
entry_length false place (Does Return) entry es = omega arith

one_entry : (p : Placed) (es : List MapEntry) → length (cons_option (entry_in 0 p) es) ≡ sum_by sleds_of_part (parts_at p) + length es
one_entry p es =
    entry_length p.owner.traced p.place p.statement (λ kind. record { sled = 0 + (p.place + p.place % 2); function = 0 + p.owner.start; kind = kind; always = cond p.owner.always 1 0; version = 0 }) es

pub sleds_count : (all : List Placed) → length (map_entries 0 all) ≡ sum_by sleds_of_part (flat_map parts_at all)
sleds_count [] = refl
sleds_count (p ∷ following) =
    one_entry p (map_entries 0 following) ∙ omega (arith, sleds_count following, sum_by-append sleds_of_part (parts_at p) (flat_map parts_at following))
