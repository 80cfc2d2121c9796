-- The image of a text fits the fields of its file.
use Rattle.std.proofs.Common.{ℕ, ◌+◌, ◌%◌, ◌≤◌, Bool, true, false, cond, List, [], ◌∷◌, Option, Some, None, arith}
use Rattle.std.specs.Prelude.{option_map}
use Rattle.std.specs.List.{flat_map, cons_option, AllByRecursion}
use Rattle.std.proofs.lemmas.List.Sums.{sum_by-append}
use Rattle.xray_image.specs.Container.{Function, MapEntry}
use Rattle.asm_text.specs.Statements.{Statement, Base, Entry, Func, Label, Does}
use Rattle.asm_text.specs.private.Fits.{Fits, AllFit}
use Rattle.asm_text.specs.Layout.{StatementLines, Placed, LineOwner, Choosing, owner_of, no_owner, parts_of_line, parts_at, placed_from, lines_placed, widths, width, sled_kind, functions, function_in, map_entries}
use Rattle.asm_text.proofs.Owners.{start_to}
use Rattle.asm_text.proofs.ReadBack.{FunctionFits, EntryFits}

-- each line's function starts within the code
start_small : (chosen : Choosing) (place : ℕ) (owner : LineOwner) (s : Statement) (following : StatementLines) → owner.start ≤ 1048576
    → let here = owner_of chosen place owner s following in place + widths (parts_of_line here.traced place s) ≤ 1048576 → here.start ≤ 1048576
start_small chosen place owner (Base address) following small within = small
start_small chosen place owner (Entry name) following small within = small
start_small chosen place owner (Func name choice) following small within = omega (arith, start_to chosen place owner name choice following, within)
start_small chosen place owner (Label name) following small within = small
start_small chosen place owner (Does operation) following small within = small

function_first : (base : ℕ) (p : Placed) (s : Statement) (fs : List Function) → base ≤ 0x7FFF00000000 → p.owner.start ≤ 1048576 → Fits s
    → AllByRecursion FunctionFits fs → AllByRecursion FunctionFits (cons_option (function_in base p s) fs)
function_first base p (Base address) fs low small fit rest = rest
function_first base p (Entry name) fs low small fit rest = rest
function_first base p (Func name choice) fs low small fit rest = ((omega arith, fit), rest)
function_first base p (Label name) fs low small fit rest = rest
function_first base p (Does operation) fs low small fit rest = rest

entry_first : (base : ℕ) (p : Placed) (traced : Bool) (kind : Option ℕ) (es : List MapEntry) → base ≤ 0x7FFF00000000 → p.owner.start ≤ 1048576 → p.place ≤ 1048576
    → AllByRecursion EntryFits es
    → AllByRecursion EntryFits (cons_option (cond traced (option_map (λ k. record { sled = base + (p.place + p.place % 2); function = base + p.owner.start; kind = k; always = cond p.owner.always 1 0; version = 0 }) kind) None) es)
entry_first base p true None es low small place rest = rest
entry_first base p true (Some k) es low small place rest = ((omega arith, omega arith), rest)
entry_first base p false kind es low small place rest = rest

lines_fit_file : (base : ℕ) (chosen : Choosing) (place : ℕ) (owner : LineOwner) (lines : StatementLines) → base ≤ 0x7FFF00000000 → owner.start ≤ 1048576 → AllFit lines
    → place + widths (flat_map parts_at (placed_from chosen place owner lines)) ≤ 1048576
    → AllByRecursion FunctionFits (functions base (placed_from chosen place owner lines)) × AllByRecursion EntryFits (map_entries base (placed_from chosen place owner lines))
lines_fit_file base chosen place owner [] low small fit within = (tt, tt)
lines_fit_file base chosen place owner (line ∷ following) low small fit within =
    let here = owner_of chosen place owner line.1 following in
    let p : Placed = record { line = line.0; statement = line.1; owner = here; place = place } in
    let xs = parts_of_line here.traced place line.1 in
    let left = placed_from chosen (place + widths xs) here following in
    let more : place + widths xs + widths (flat_map parts_at left) ≤ 1048576 = omega (arith, within, sum_by-append width xs (flat_map parts_at left)) in
    let start : here.start ≤ 1048576 = start_small chosen place owner line.1 following small (omega (arith, more)) in
    let rest = lines_fit_file base chosen (place + widths xs) here following low start fit.1 more in
    (function_first base p line.1 (functions base left) low start fit.0 rest.0, entry_first base p here.traced (sled_kind line.1) (map_entries base left) low start (omega (arith, more)) rest.1)

-- each function and each map entry
pub image_fits : (base : ℕ) (chosen : Choosing) (said : StatementLines) → base ≤ 0x7FFF00000000 → AllFit said → widths (flat_map parts_at (lines_placed chosen said)) ≤ 1048576
    → AllByRecursion FunctionFits (functions base (lines_placed chosen said)) × AllByRecursion EntryFits (map_entries base (lines_placed chosen said))
image_fits base chosen said low fit few = lines_fit_file base chosen 0 no_owner said low (omega arith) fit (omega (arith, few))
