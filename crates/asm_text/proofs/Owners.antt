-- A sled lies in the function that its entry names: the last one that starts at its address or below.
use Rattle.std.proofs.Common.{◌≡◌, ℕ, ◌+◌, ◌%◌, ◌<◌, ◌≤◌, Bool, true, false, cond, List, [], ◌∷◌, Option, Some, None, refl, ap, subst, ◌∙◌, arith, leb, map}
use Rattle.std.specs.Prelude.{filter, ⊤}
use Rattle.std.specs.List.{cons_option, last_or, AllByRecursion}
use Rattle.std.proofs.lemmas.Bool.{le-leb, lt-leb}
use Rattle.xray_image.specs.Units.{JumpSled, ReturnSled}
use Rattle.xray_image.specs.Container.{Function}
use Rattle.asm_text.specs.declared.statement.Choice.{Choice}
use Rattle.asm_text.specs.declared.statement.Branch.TheVariants as branches
use Rattle.asm_text.specs.Statements.{Plain, Go, TailJump, Return, Statement, Base, Entry, Func, Label, Does}
use Rattle.asm_text.specs.Layout.{StatementLines, Placed, LineOwner, Choosing, owner_of, owner_at, instruction_lines, no_owner, parts_of_line, parts_at, placed_from, lines_placed, widths, sled_shift, sled_kind, functions, function_in, entry_kind}
use Rattle.asm_text.proofs.WidthLemmas.{widths_aligned, widths_aligned_branch}

-- the last start at or below an address, or else another
abbrev pub last_start : Option ℕ → ℕ → List Function → Option ℕ
last_start o address fs = last_or o (map (λ f. f.start) (filter (λ f. leb f.start address) fs))

last_above : (o : Option ℕ) (address : ℕ) (fs : List Function) → AllByRecursion (λ f. address < f.start) fs → last_start o address fs ≡ o
last_above o address [] above = refl
last_above o address (f ∷ fs) above =
    ap (λ t. last_or o (map (λ (g : Function). g.start) (cond t (f ∷ filter (λ g. leb g.start address) fs) (filter (λ g. leb g.start address) fs)))) (lt-leb f.start address above.0)
    ∙ last_above o address fs above.1

last_below : (o : Option ℕ) (address : ℕ) (f : Function) (fs : List Function) → f.start ≤ address → last_start o address (f ∷ fs) ≡ last_start (Some f.start) address fs
last_below o address f fs below =
    ap (λ t. last_or o (map (λ (g : Function). g.start) (cond t (f ∷ filter (λ g. leb g.start address) fs) (filter (λ g. leb g.start address) fs)))) (le-leb f.start address below)

-- a start isn't before its line's place, and a line with a sled is longer than its alignment
pub start_from : (chosen : Choosing) (place : ℕ) (owner : LineOwner) (name : List ℕ) (choice : Choice) (following : StatementLines)
    → place ≤ (owner_of chosen place owner (Func name choice) following).start
start_from chosen place owner name choice following = by_traced (chosen choice (instruction_lines following))
  where
    by_traced : (t : Bool) → place ≤ (owner_at t choice place).start
    by_traced true = omega arith
    by_traced false = omega arith

pub start_to : (chosen : Choosing) (place : ℕ) (owner : LineOwner) (name : List ℕ) (choice : Choice) (following : StatementLines)
    → let here = owner_of chosen place owner (Func name choice) following in here.start ≤ place + widths (parts_of_line here.traced place (Func name choice))
start_to chosen place owner name choice following = by_traced (chosen choice (instruction_lines following))
  where
    by_traced : (t : Bool) → (owner_at t choice place).start ≤ place + widths (parts_of_line t place (Func name choice))
    by_traced true = omega (arith, widths_aligned place (JumpSled sled_shift))
    by_traced false = omega arith

sled_width : (place : ℕ) (s : Statement) (k : ℕ) → sled_kind s ≡ Some k → place % 2 < widths (parts_of_line true place s)
sled_width place (Base address) k e = absurd (cc e)
sled_width place (Entry name) k e = absurd (cc e)
sled_width place (Func name choice) k e = omega (arith, widths_aligned place (JumpSled sled_shift))
sled_width place (Label name) k e = absurd (cc e)
sled_width place (Does (Plain instr)) k e = absurd (cc e)
sled_width place (Does (Go branch name)) k e = absurd (cc e)
sled_width place (Does (TailJump name)) k e = omega (arith, widths_aligned_branch place (JumpSled sled_shift) branches.Jmp name)
sled_width place (Does Return) k e = omega (arith, widths_aligned place (ReturnSled sled_shift))

weaker : (base m n : ℕ) (fs : List Function) → m ≤ n → AllByRecursion (λ f. base + n ≤ f.start) fs → AllByRecursion (λ f. base + m ≤ f.start) fs
weaker base m n [] h all = tt
weaker base m n (f ∷ fs) h all = (omega (arith, all.0), weaker base m n fs h all.1)

above : (base address n : ℕ) (fs : List Function) → address < base + n → AllByRecursion (λ f. base + n ≤ f.start) fs → AllByRecursion (λ f. address < f.start) fs
above base address n [] h all = tt
above base address n (f ∷ fs) h all = (omega (arith, all.0), above base address n fs h all.1)

start_first : (chosen : Choosing) (base place : ℕ) (owner : LineOwner) (number : ℕ) (s : Statement) (following : StatementLines) (fs : List Function)
    → AllByRecursion (λ f. base + place ≤ f.start) fs
    → AllByRecursion (λ f. base + place ≤ f.start) (cons_option (function_in base (record { line = number; statement = s; owner = owner_of chosen place owner s following; place = place }) s) fs)
start_first chosen base place owner number (Base address) following fs all = all
start_first chosen base place owner number (Entry name) following fs all = all
start_first chosen base place owner number (Func name choice) following fs all = (omega (arith, start_from chosen place owner name choice following), all)
start_first chosen base place owner number (Label name) following fs all = all
start_first chosen base place owner number (Does operation) following fs all = all

-- functions start where their lines begin, or after that
starts_from : (chosen : Choosing) (base place : ℕ) (owner : LineOwner) (lines : StatementLines) → AllByRecursion (λ f. base + place ≤ f.start) (functions base (placed_from chosen place owner lines))
starts_from chosen base place owner [] = tt
starts_from chosen base place owner (line ∷ following) =
    let here = owner_of chosen place owner line.1 following in
    let w = widths (parts_of_line here.traced place line.1) in
    let left = placed_from chosen (place + w) here following in
    start_first chosen base place owner line.0 line.1 following (functions base left)
    (weaker base place (place + w) (functions base left) (omega arith) (starts_from chosen base (place + w) here following))

-- lines begin where those before them end, or after that
places_from_next : (chosen : Choosing) (place : ℕ) (owner : LineOwner) (lines : StatementLines) (n : ℕ) → n ≤ place → AllByRecursion (λ p. n ≤ p.place) (placed_from chosen place owner lines)
places_from_next chosen place owner [] n h = tt
places_from_next chosen place owner (line ∷ following) n h =
    let here = owner_of chosen place owner line.1 following in
    (h, places_from_next chosen (place + widths (parts_of_line here.traced place line.1)) here following n (omega (arith, h)))

-- the address of a line's sled
abbrev pub sled_address : ℕ → Placed → ℕ
sled_address base p = base + (p.place + p.place % 2)

-- a line of an instrumented function that has a sled lies in that function
abbrev pub LiesAmong : ℕ → Option ℕ → List Function → Placed → Type 0
LiesAmong base o fs p = (k : ℕ) → p.owner.traced ≡ true → sled_kind p.statement ≡ Some k → last_start o (sled_address base p) fs ≡ Some (base + p.owner.start)

-- the last start before the lines, and after one more
abbrev pub start_after : ℕ → Placed → Statement → Option ℕ → Option ℕ
start_after base p (Base address) o = o
start_after base p (Entry name) o = o
start_after base p (Func name choice) o = Some (base + p.owner.start)
start_after base p (Label name) o = o
start_after base p (Does operation) o = o

-- a function starts at this place or before it
abbrev pub StartsTo : Placed → ℕ → Statement → Type 0
StartsTo p next (Base address) = ⊤
StartsTo p next (Entry name) = ⊤
StartsTo p next (Func name choice) = p.owner.start ≤ next
StartsTo p next (Label name) = ⊤
StartsTo p next (Does operation) = ⊤

-- one line before those that lie in their functions
more_among : (base next : ℕ) (o : Option ℕ) (p : Placed) (s : Statement) (fs : List Function) (lines : List Placed)
    → StartsTo p next s → AllByRecursion (λ q. next ≤ q.place) lines
    → AllByRecursion (LiesAmong base (start_after base p s o) fs) lines → AllByRecursion (LiesAmong base o (cons_option (function_in base p s) fs)) lines
more_among base next o p s fs [] h places among = tt
more_among base next o p (Base address) fs (q ∷ lines) h places among = (among.0, more_among base next o p (Base address) fs lines h places.1 among.1)
more_among base next o p (Entry name) fs (q ∷ lines) h places among = (among.0, more_among base next o p (Entry name) fs lines h places.1 among.1)
more_among base next o p (Func name choice) fs (q ∷ lines) h places among = (
  (λ k traced kind. last_below o (sled_address base q) (record { start = base + p.owner.start; name = name }) fs (omega (arith, h, places.0)) ∙ among.0 k traced kind),
  more_among base next o p (Func name choice) fs lines h places.1 among.1,
)
more_among base next o p (Label name) fs (q ∷ lines) h places among = (among.0, more_among base next o p (Label name) fs lines h places.1 among.1)
more_among base next o p (Does operation) fs (q ∷ lines) h places among = (among.0, more_among base next o p (Does operation) fs lines h places.1 among.1)

head_among : (chosen : Choosing) (base place : ℕ) (owner : LineOwner) (number : ℕ) (s : Statement) (following : StatementLines) (o : Option ℕ) (fs : List Function)
    → (owner.traced ≡ true → o ≡ Some (base + owner.start))
    → let p : Placed = record { line = number; statement = s; owner = owner_of chosen place owner s following; place = place } in
    AllByRecursion (λ f. base + (place + widths (parts_at p)) ≤ f.start) fs → LiesAmong base o (cons_option (function_in base p s) fs) p
head_among chosen base place owner number (Base address) following o fs h all k traced kind = absurd (cc kind)
head_among chosen base place owner number (Entry name) following o fs h all k traced kind = absurd (cc kind)
head_among chosen base place owner number (Func name choice) following o fs h all k traced kind = by_traced (chosen choice (instruction_lines following)) all traced
  where
    by_traced : (t : Bool) → AllByRecursion (λ f. base + (place + widths (parts_of_line t place (Func name choice))) ≤ f.start) fs → t ≡ true
        → last_start o (base + (place + place % 2)) (record { start = base + (owner_at t choice place).start; name = name } ∷ fs) ≡ Some (base + (owner_at t choice place).start)
    by_traced true all traced =
        last_below o (base + (place + place % 2)) (record { start = base + (place + place % 2); name = name }) fs (omega arith)
        ∙ last_above (Some (base + (place + place % 2))) (base + (place + place % 2)) fs
        (above base (base + (place + place % 2)) (place + widths (parts_of_line true place (Func name choice))) fs (omega (arith, sled_width place (Func name choice) (entry_kind choice) refl)) all)
    by_traced false all traced = absurd (cc traced)
head_among chosen base place owner number (Label name) following o fs h all k traced kind = absurd (cc kind)
head_among chosen base place owner number (Does operation) following o fs h all k traced kind =
    let whole : AllByRecursion (λ f. base + (place + widths (parts_of_line true place (Does operation))) ≤ f.start) fs =
    subst (λ t. AllByRecursion (λ (f : Function). base + (place + widths (parts_of_line t place (Does operation))) ≤ f.start) fs) traced all in
    last_above o (base + (place + place % 2)) fs
    (above base (base + (place + place % 2)) (place + widths (parts_of_line true place (Does operation))) fs (omega (arith, sled_width place (Does operation) k kind)) whole)
    ∙ h traced

keeps_start : (chosen : Choosing) (base place : ℕ) (owner : LineOwner) (number : ℕ) (s : Statement) (following : StatementLines) (o : Option ℕ)
    → (owner.traced ≡ true → o ≡ Some (base + owner.start))
    → let p : Placed = record { line = number; statement = s; owner = owner_of chosen place owner s following; place = place } in
    p.owner.traced ≡ true → start_after base p s o ≡ Some (base + p.owner.start)
keeps_start chosen base place owner number (Base address) following o h = h
keeps_start chosen base place owner number (Entry name) following o h = h
keeps_start chosen base place owner number (Func name choice) following o h = λ _. refl
keeps_start chosen base place owner number (Label name) following o h = h
keeps_start chosen base place owner number (Does operation) following o h = h

starts_to : (chosen : Choosing) (place : ℕ) (owner : LineOwner) (number : ℕ) (s : Statement) (following : StatementLines)
    → let p : Placed = record { line = number; statement = s; owner = owner_of chosen place owner s following; place = place } in StartsTo p (place + widths (parts_at p)) s
starts_to chosen place owner number (Base address) following = tt
starts_to chosen place owner number (Entry name) following = tt
starts_to chosen place owner number (Func name choice) following = start_to chosen place owner name choice following
starts_to chosen place owner number (Label name) following = tt
starts_to chosen place owner number (Does operation) following = tt

all_among : (chosen : Choosing) (base place : ℕ) (owner : LineOwner) (lines : StatementLines) (o : Option ℕ) → (owner.traced ≡ true → o ≡ Some (base + owner.start))
    → AllByRecursion (LiesAmong base o (functions base (placed_from chosen place owner lines))) (placed_from chosen place owner lines)
all_among chosen base place owner [] o h = tt
all_among chosen base place owner (line ∷ following) o h =
    let here = owner_of chosen place owner line.1 following in
    let p : Placed = record { line = line.0; statement = line.1; owner = here; place = place } in
    let next = place + widths (parts_at p) in
    let left = placed_from chosen next here following in (
      head_among chosen base place owner line.0 line.1 following o (functions base left) h (starts_from chosen base next here following),
      more_among base next o p line.1 (functions base left) left (starts_to chosen place owner line.0 line.1 following) (places_from_next chosen next here following next (omega arith))
          (all_among chosen base next here following (start_after base p line.1 o) (keeps_start chosen base place owner line.0 line.1 following o h)),
    )

-- each line with a sled is in its function
pub lines_lie : (chosen : Choosing) (base : ℕ) (said : StatementLines) → AllByRecursion (LiesAmong base None (functions base (lines_placed chosen said))) (lines_placed chosen said)
lines_lie chosen base said = all_among chosen base 0 no_owner said None (λ h. absurd (cc h))
