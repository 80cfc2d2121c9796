-- The sled map lists the sleds of the code.
use Rattle.std.proofs.Common.{◌≡◌, ℕ, zero, suc, ◌+◌, ◌%◌, ◌<◌, ◌≤◌, Bool, true, false, cond, List, [], ◌∷◌, ◌++◌, length, Option, Some, None, inl, inr, ◌-ℤ◌, pos, refl, sym, ap, subst, ◌∙◌, arith, eqb, map, length-append, append-nil, add_assoc}
use Rattle.std.specs.Prelude.{option_map}
use Rattle.std.specs.Prelude.{FitsSigned}
use Rattle.std.specs.Int.{w32}
use Rattle.std.specs.List.{flat_map, filter_map, cons_option, All, AllByRecursion}
use Rattle.std.proofs.lemmas.Int.{ints}
use Rattle.xray_image.specs.Units.{Piece, Instruction, JumpSled, ReturnSled, Align, SledPlace, piece_bytes, places_from}
use Rattle.xray_image.specs.Container.{Function, MapEntry}
use Rattle.xray_image.specs.Program.{EachSled, KindFits, LiesIn, IsEntryOf, Reaches, trampoline_of, kind_of}
use Rattle.asm_text.specs.declared.statement.Choice.TheVariants.{ByLength, Always, Args, Never}
use Rattle.asm_text.specs.declared.statement.Branch.{Branch}
use Rattle.asm_text.specs.declared.statement.Branch.TheVariants as branches
use Rattle.asm_text.specs.Statements.{Plain, Go, TailJump, Return, Statement, Base, Entry, Func, Label, Does}
use Rattle.asm_text.specs.Layout.{StatementLines, UnitDraft, Fixed, Jump, Placed, LineOwner, Choosing, owner_of, no_owner, parts_of_line, parts_at, aligned, placed_from, lines_placed, widths, sled_shift, piece_of, line_pieces, pieces, sled_kind, entry_in, map_entries, functions}
use Rattle.asm_text.proofs.PlacesInCode.{AllLie, parts_length}
use Rattle.asm_text.specs.Programs.{trampolines_at}
use Rattle.asm_text.proofs.Owners.{LiesAmong, lines_lie}

-- the sleds of pieces after others
places_after : (address : ℕ) (xs ys : List Piece) → places_from address (xs ++ ys) ≡ places_from address xs ++ places_from (address + length (flat_map piece_bytes xs)) ys
places_after address [] ys = ap (λ n. places_from n ys) (sym (add_zero address))
  where
    add_zero : (n : ℕ) → n + 0 ≡ n
    add_zero n = omega arith
places_after address (Instruction instr ∷ xs) ys =
    let n = length (piece_bytes (Instruction instr)) in
    places_after (address + n) xs ys
    ∙ ap (λ m. places_from (address + n) xs ++ places_from m ys) (add_assoc address n (length (flat_map piece_bytes xs)) ∙ ap (λ m. address + m) (sym (length-append (piece_bytes (Instruction instr)) (flat_map piece_bytes xs))))
places_after address (JumpSled shift ∷ xs) ys =
    ap (λ ps. record { address = address; shift = shift; returns = false } ∷ ps)
    (places_after (address + 11) xs ys ∙ ap (λ m. places_from (address + 11) xs ++ places_from m ys) (add_assoc address 11 (length (flat_map piece_bytes xs)) ∙ ap (λ m. address + m) (sym (length-append (piece_bytes (JumpSled shift)) (flat_map piece_bytes xs)))))
places_after address (ReturnSled shift ∷ xs) ys =
    ap (λ ps. record { address = address; shift = shift; returns = true } ∷ ps)
    (places_after (address + 11) xs ys ∙ ap (λ m. places_from (address + 11) xs ++ places_from m ys) (add_assoc address 11 (length (flat_map piece_bytes xs)) ∙ ap (λ m. address + m) (sym (length-append (piece_bytes (ReturnSled shift)) (flat_map piece_bytes xs)))))
places_after address (Align ∷ xs) ys =
    places_after (address + 1) xs ys
    ∙ ap (λ m. places_from (address + 1) xs ++ places_from m ys) (add_assoc address 1 (length (flat_map piece_bytes xs)) ∙ ap (λ m. address + m) (sym (length-append (piece_bytes Align) (flat_map piece_bytes xs))))

-- the lines that have sleds, each with its sled's kind
abbrev pub sled_line : Bool → Placed → Option ℕ → Option (Placed × ℕ)
sled_line true p kind = option_map (λ k. (p, k)) kind
sled_line false p kind = None

abbrev pub sled_lines : List Placed → List (Placed × ℕ)
sled_lines lines = filter_map (λ p. sled_line p.owner.traced p (sled_kind p.statement)) lines

-- the sled of such a line, and its entry
abbrev pub place_for : ℕ → Placed × ℕ → SledPlace
place_for base line = record { address = base + (line.0.place + line.0.place % 2); shift = sled_shift; returns = eqb line.1 1 }

abbrev pub entry_for : ℕ → Placed × ℕ → MapEntry
entry_for base line = record {
  sled = base + (line.0.place + line.0.place % 2);
  function = base + line.0.owner.start;
  kind = line.1;
  always = cond line.0.owner.always 1 0;
  version = 0;
}

-- ---- the map

entry_first : (base : ℕ) (traced : Bool) (p : Placed) (kind : Option ℕ) (lines : List (Placed × ℕ))
    → cons_option (cond traced (option_map (λ k. entry_for base (p, k)) kind) None) (map (entry_for base) lines) ≡ map (entry_for base) (cons_option (sled_line traced p kind) lines)
entry_first base true p None lines = refl
entry_first base true p (Some k) lines = refl
entry_first base false p kind lines = refl

pub map_by_lines : (base : ℕ) (lines : List Placed) → map_entries base lines ≡ map (entry_for base) (sled_lines lines)
map_by_lines base [] = refl
map_by_lines base (p ∷ following) =
    ap (λ es. cons_option (entry_in base p) es) (map_by_lines base following) ∙ entry_first base p.owner.traced p (sled_kind p.statement) (sled_lines following)

-- ---- the code

add_zero : (n : ℕ) → n + 0 ≡ n
add_zero n = omega arith

-- a sled by the parity of its place
sled_at : (all : List Placed) (following at : ℕ) (sled : Piece) (r : ℕ) → r < 2 → (rest : List UnitDraft)
    → places_from at (map (piece_of all following) (cond (eqb r 0) (Fixed sled ∷ []) (Fixed Align ∷ Fixed sled ∷ []) ++ rest)) ≡ places_from (at + r) (sled ∷ map (piece_of all following) rest)
sled_at all following at sled zero h rest = ap (λ n. places_from n (sled ∷ map (piece_of all following) rest)) (sym (add_zero at))
sled_at all following at sled (suc zero) h rest = refl
sled_at all following at sled (suc (suc r)) h rest = absurd (omega arith)

-- a sled after its alignment byte
sled_after : (all : List Placed) (following base place : ℕ) (sled : Piece) (rest : List UnitDraft)
    → places_from (base + place) (map (piece_of all following) (aligned place sled ++ rest)) ≡ places_from (base + (place + place % 2)) (sled ∷ map (piece_of all following) rest)
sled_after all following base place sled rest =
    sled_at all following (base + place) sled (place % 2) (omega arith) rest
    ∙ ap (λ n. places_from n (sled ∷ map (piece_of all following) rest)) (add_assoc base place (place % 2))

sled_only : (all : List Placed) (following base place : ℕ) (sled : Piece)
    → places_from (base + place) (map (piece_of all following) (aligned place sled)) ≡ places_from (base + (place + place % 2)) (sled ∷ [])
sled_only all following base place sled =
    ap (λ parts. places_from (base + place) (map (piece_of all following) parts)) (sym (append-nil (aligned place sled))) ∙ sled_after all following base place sled []

-- the sled that a line has
abbrev pub places_of : ℕ → Option (Placed × ℕ) → List SledPlace
places_of base None = []
places_of base (Some line) = place_for base line ∷ []

no_sled : (base : ℕ) (traced : Bool) (p : Placed) → [] ≡ places_of base (sled_line traced p None)
no_sled base true p = refl
no_sled base false p = refl

-- the parts of a line, from its place on
line_places : (all : List Placed) (base following : ℕ) (p : Placed) (traced : Bool) (s : Statement)
    → places_from (base + p.place) (map (piece_of all following) (parts_of_line traced p.place s)) ≡ places_of base (sled_line traced p (sled_kind s))
line_places all base following p traced (Base address) = no_sled base traced p
line_places all base following p traced (Entry name) = no_sled base traced p
line_places all base following p true (Func name ByLength) = sled_only all following base p.place (JumpSled sled_shift)
line_places all base following p true (Func name Always) = sled_only all following base p.place (JumpSled sled_shift)
line_places all base following p true (Func name Args) = sled_only all following base p.place (JumpSled sled_shift)
line_places all base following p true (Func name Never) = sled_only all following base p.place (JumpSled sled_shift)
line_places all base following p false (Func name choice) = refl
line_places all base following p traced (Label name) = no_sled base traced p
line_places all base following p true (Does (Plain instr)) = refl
line_places all base following p true (Does (Go branch name)) = by_branch branch
  where
    by_branch : (b : Branch) → places_from (base + p.place) (piece_of all following (Jump b name) ∷ []) ≡ []
    by_branch b = refl
line_places all base following p true (Does (TailJump name)) = sled_after all following base p.place (JumpSled sled_shift) (Jump branches.Jmp name ∷ [])
line_places all base following p true (Does Return) = sled_only all following base p.place (ReturnSled sled_shift)
line_places all base following p false (Does (Plain instr)) = refl
line_places all base following p false (Does (Go branch name)) = refl
line_places all base following p false (Does (TailJump name)) = refl
line_places all base following p false (Does Return) = refl

places_first : (base : ℕ) (o : Option (Placed × ℕ)) (lines : List (Placed × ℕ)) → places_of base o ++ map (place_for base) lines ≡ map (place_for base) (cons_option o lines)
places_first base None lines = refl
places_first base (Some line) lines = refl

code_places : (all : List Placed) (base : ℕ) (chosen : Choosing) (place : ℕ) (owner : LineOwner) (lines : StatementLines)
    → places_from (base + place) (flat_map (line_pieces all) (placed_from chosen place owner lines)) ≡ map (place_for base) (sled_lines (placed_from chosen place owner lines))
code_places all base chosen place owner [] = refl
code_places all base chosen place owner (line ∷ following) =
    let here = owner_of chosen place owner line.1 following in
    let p : Placed = record { line = line.0; statement = line.1; owner = here; place = place } in
    let xs = parts_at p in
    let left = placed_from chosen (place + widths xs) here following in
    let first = map (piece_of all (place + widths xs)) xs in
    let others = flat_map (line_pieces all) left in
    places_after (base + place) first others
    ∙ ap (λ ps. ps ++ places_from (base + place + length (flat_map piece_bytes first)) others) (line_places all base (place + widths xs) p here.traced line.1)
    ∙ ap (λ n. places_of base (sled_line here.traced p (sled_kind line.1)) ++ places_from n others) (ap (λ w. base + place + w) (parts_length all (place + widths xs) xs) ∙ add_assoc base place (widths xs))
    ∙ ap (λ ps. places_of base (sled_line here.traced p (sled_kind line.1)) ++ ps) (code_places all base chosen (place + widths xs) here following)
    ∙ places_first base (sled_line here.traced p (sled_kind line.1)) (sled_lines left)

-- the sleds of the whole code
pub places_by_lines : (base : ℕ) (chosen : Choosing) (said : StatementLines) → places_from base (pieces (lines_placed chosen said)) ≡ map (place_for base) (sled_lines (lines_placed chosen said))
places_by_lines base chosen said =
    ap (λ n. places_from n (pieces (lines_placed chosen said))) (sym (add_zero base)) ∙ code_places (lines_placed chosen said) base chosen 0 no_owner said

-- ---- what the map says of the code

even_address : (base place : ℕ) → base % 16 ≡ 0 → (base + (place + place % 2)) % 2 ≡ 0
even_address base place aligned = omega (arith, aligned)

even_lines : (base : ℕ) (lines : List (Placed × ℕ)) → base % 16 ≡ 0 → All (λ place. place.address % 2 ≡ 0) (map (place_for base) lines)
even_lines base [] aligned k d within = absurd (omega arith)
even_lines base (line ∷ following) aligned zero d within = even_address base line.0.place aligned
even_lines base (line ∷ following) aligned (suc k) d within = even_lines base following aligned k d (omega arith)

same_order : (base : ℕ) (lines : List (Placed × ℕ)) → map (λ e. e.sled) (map (entry_for base) lines) ≡ map (λ p. p.address) (map (place_for base) lines)
same_order base [] = refl
same_order base (line ∷ following) = ap (λ ns. (base + (line.0.place + line.0.place % 2)) ∷ ns) (same_order base following)

-- sleds stand at even addresses
pub even_sleds : (base : ℕ) (chosen : Choosing) (said : StatementLines) → base % 16 ≡ 0 → All (λ place. place.address % 2 ≡ 0) (places_from base (pieces (lines_placed chosen said)))
even_sleds base chosen said aligned =
    subst (λ ps. All (λ place. place.address % 2 ≡ 0) ps) (sym (places_by_lines base chosen said)) (even_lines base (sled_lines (lines_placed chosen said)) aligned)

-- the map's entries are those of the sleds, in their order
pub map_order : (base : ℕ) (chosen : Choosing) (said : StatementLines) → map (λ e. e.sled) (map_entries base (lines_placed chosen said)) ≡ map (λ p. p.address) (places_from base (pieces (lines_placed chosen said)))
map_order base chosen said =
    ap (map (λ e. e.sled)) (map_by_lines base (lines_placed chosen said)) ∙ same_order base (sled_lines (lines_placed chosen said)) ∙ sym (ap (map (λ p. p.address)) (places_by_lines base chosen said))

-- ---- each entry and its sled

-- what is true of each line with a sled, among functions
abbrev pub SledFacts : ℕ → List Function → Placed × ℕ → Type 0
SledFacts base fs line =
    (line.0.place ≤ 1048576) × (sled_kind line.0.statement ≡ Some line.1) × LiesIn fs (base + (line.0.place + line.0.place % 2)) (base + line.0.owner.start)

facts_first : (base : ℕ) (fs : List Function) (traced : Bool) (p : Placed) (kind : Option ℕ) (lines : List (Placed × ℕ)) → p.place ≤ 1048576 → sled_kind p.statement ≡ kind → p.owner.traced ≡ traced
    → LiesAmong base None fs p → AllByRecursion (SledFacts base fs) lines → AllByRecursion (SledFacts base fs) (cons_option (sled_line traced p kind) lines)
facts_first base fs true p None lines h e t among rest = rest
facts_first base fs true p (Some k) lines h e t among rest = ((h, e, among k t e), rest)
facts_first base fs false p kind lines h e t among rest = rest

sled_facts : (base : ℕ) (fs : List Function) (lines : List Placed) → AllLie 1048576 lines → AllByRecursion (LiesAmong base None fs) lines → AllByRecursion (SledFacts base fs) (sled_lines lines)
sled_facts base fs [] lie among = tt
sled_facts base fs (p ∷ following) lie among =
    facts_first base fs p.owner.traced p (sled_kind p.statement) (sled_lines following) lie.0.0 refl refl among.0 (sled_facts base fs following lie.1 among.1)

each_line : (base : ℕ) (fs : List Function) (P : SledPlace → MapEntry → Type 0) (lines : List (Placed × ℕ)) → AllByRecursion (SledFacts base fs) lines
    → ((line : Placed × ℕ) → SledFacts base fs line → P (place_for base line) (entry_for base line)) → EachSled (map (place_for base) lines) (map (entry_for base) lines) P
each_line base fs P [] facts h i place entry e d = absurd (cc e)
each_line base fs P (line ∷ following) facts h zero place entry e d =
    let at : place_for base line ≡ place = cc e in
    let of : entry_for base line ≡ entry = cc d in
    subst (λ p. P p entry) at (subst (λ x. P (place_for base line) x) of (h line facts.0))
each_line base fs P (line ∷ following) facts h (suc i) place entry e d = each_line base fs P following facts.1 h i place entry e d

-- the kinds that lines have
kind_cases : (K : ℕ → Type 0) → K 0 → K 1 → K 2 → K 3 → (s : Statement) (k : ℕ) → sled_kind s ≡ Some k → K k
kind_cases K a b c d (Base address) k e = absurd (cc e)
kind_cases K a b c d (Entry name) k e = absurd (cc e)
kind_cases K a b c d (Func name ByLength) k e = let at : 0 ≡ k = cc e in subst K at a
kind_cases K a b c d (Func name Always) k e = let at : 0 ≡ k = cc e in subst K at a
kind_cases K a b c d (Func name Args) k e = let at : 3 ≡ k = cc e in subst K at d
kind_cases K a b c d (Func name Never) k e = let at : 0 ≡ k = cc e in subst K at a
kind_cases K a b c d (Label name) k e = absurd (cc e)
kind_cases K a b c d (Does (Plain instr)) k e = absurd (cc e)
kind_cases K a b c d (Does (Go branch name)) k e = absurd (cc e)
kind_cases K a b c d (Does (TailJump name)) k e = let at : 2 ≡ k = cc e in subst K at c
kind_cases K a b c d (Does Return) k e = let at : 1 ≡ k = cc e in subst K at b

kind_fits : (s : Statement) (k : ℕ) → sled_kind s ≡ Some k → KindFits (eqb k 1) k
kind_fits s k e = kind_cases (λ n. KindFits (eqb n 1) n) (inl refl) refl (inr (inl refl)) (inr (inr refl)) s k e

-- a trampoline's distance fits its field
distance_near : (base far place : ℕ) → 0x200000 ≤ far → far ≤ 0x200030 → place ≤ 1048576 → FitsSigned w32 (pos (base + far) -ℤ pos (base + (place + place % 2) + 11))
distance_near base far place low high h = omega (arith, ints)

near_line : (base : ℕ) (fs : List Function) (line : Placed × ℕ) → SledFacts base fs line → Reaches (trampolines_at base) (place_for base line) (entry_for base line)
near_line base fs line facts =
    kind_cases (λ k. FitsSigned w32 (pos (trampoline_of (trampolines_at base) (kind_of k)) -ℤ pos (base + (line.0.place + line.0.place % 2) + 11)))
    (distance_near base 0x200000 line.0.place (omega arith) (omega arith) facts.0)
    (distance_near base 0x200010 line.0.place (omega arith) (omega arith) facts.0)
    (distance_near base 0x200020 line.0.place (omega arith) (omega arith) facts.0)
    (distance_near base 0x200030 line.0.place (omega arith) (omega arith) facts.0)
    line.0.statement line.1 facts.1

each_sled : (base : ℕ) (chosen : Choosing) (said : StatementLines) (P : SledPlace → MapEntry → Type 0) → AllLie 1048576 (lines_placed chosen said)
    → ((line : Placed × ℕ) → SledFacts base (functions base (lines_placed chosen said)) line → P (place_for base line) (entry_for base line))
    → EachSled (places_from base (pieces (lines_placed chosen said))) (map_entries base (lines_placed chosen said)) P
each_sled base chosen said P lie h =
    let fs = functions base (lines_placed chosen said) in
    subst (λ ps. EachSled ps (map_entries base (lines_placed chosen said)) P) (sym (places_by_lines base chosen said))
    (subst (λ es. EachSled (map (place_for base) (sled_lines (lines_placed chosen said))) es P) (sym (map_by_lines base (lines_placed chosen said)))
    (each_line base fs P (sled_lines (lines_placed chosen said)) (sled_facts base fs (lines_placed chosen said) lie (lines_lie chosen base said)) h))

-- a patched sled reaches its trampoline
pub near_sleds : (base : ℕ) (chosen : Choosing) (said : StatementLines) → AllLie 1048576 (lines_placed chosen said)
    → EachSled (places_from base (pieces (lines_placed chosen said))) (map_entries base (lines_placed chosen said)) (Reaches (trampolines_at base))
near_sleds base chosen said lie = each_sled base chosen said (Reaches (trampolines_at base)) lie (near_line base (functions base (lines_placed chosen said)))

-- an entry agrees with the code about its sled
pub entries_tell : (base : ℕ) (chosen : Choosing) (said : StatementLines) → AllLie 1048576 (lines_placed chosen said)
    → EachSled (places_from base (pieces (lines_placed chosen said))) (map_entries base (lines_placed chosen said)) (IsEntryOf (functions base (lines_placed chosen said)))
entries_tell base chosen said lie =
    each_sled base chosen said (IsEntryOf (functions base (lines_placed chosen said))) lie
    (λ line facts. record { in_function = facts.2; kind = kind_fits line.0.statement line.1 facts.1; known_version = omega arith })
