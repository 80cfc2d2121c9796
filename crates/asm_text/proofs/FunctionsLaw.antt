-- The functions of a text that was read can be those of an accepted image.
use Rattle.std.proofs.Common.{◌≡◌, ◌≢◌, ℕ, zero, suc, ◌+◌, ◌<◌, ◌≤◌, Bool, true, false, cond, not, ◌||◌, ◌&&◌, List, [], ◌∷◌, ◌++◌, length, get_or, take, Option, Some, None, refl, sym, ap, subst, ◌∙◌, arith, leb, add-zero}
use Rattle.std.specs.Prelude.{⊤, Ok, All, Contains, slice_get}
use Rattle.std.specs.List.{list_all, cons_option, last_or, AllByRecursion}
use Rattle.std.specs.Str.{bytes_eq}
use Rattle.std.proofs.lemmas.Bool.{and_parts, or_parts, not-false}
use Rattle.std.proofs.lemmas.List.Elements.{All-from_recursion}
use Rattle.std.proofs.lemmas.Slice.Eq.{bytes_eq-Decides}
use Rattle.xray_image.specs.Units.{units_from}
use Rattle.xray_image.specs.Container.{Function}
use Rattle.xray_image.specs.Program.{addresses, is_name_byte, BeginsAfter, IsFunction, AreFunctions}
use Rattle.asm_text.specs.declared.statement.Choice.{Choice}
use Rattle.asm_text.specs.Names.{is_name, is_decimal}
use Rattle.asm_text.specs.Statements.{Statement, Base, Entry, Func, Label, Does}
use Rattle.asm_text.specs.Layout.{StatementLines, Placed, LineOwner, Choosing, by_threshold, is_function, is_instruction, defines, owner_of, no_owner, owner_at, instruction_lines, parts_at, placed_from, lines_placed, widths, own_place, pieces, functions, function_in, base_of}
use Rattle.asm_text.specs.Refusals.{has_function, is_bare, is_defined}
use Rattle.asm_text.specs.Assembling.{statements_said}
use Rattle.asm_text.proofs.WidthLemmas.{operation_width}
use Rattle.asm_text.proofs.Owners.{start_from, start_to}
use Rattle.asm_text.proofs.SaidLines.{IsAllowed, Allowed, AreSaid, are_said, all_filled, is_bare-more, has_function-more, is_defined-more}
use Rattle.asm_text.proofs.Addresses.{addresses_from, addresses-units}
use Rattle.asm_text.proofs.OwnPlaces.{Stands, own_places}

-- ---- starts are where units begin

starts_first : (base : ℕ) (begins : List ℕ) (p : Placed) (s : Statement) (fs : List Function) → s ≡ p.statement → Stands base begins p
    → AllByRecursion (λ f. Contains begins f.start) fs → AllByRecursion (λ f. Contains begins f.start) (cons_option (function_in base p s) fs)
starts_first base begins p (Base address) fs is stands rest = rest
starts_first base begins p (Entry name) fs is stands rest = rest
starts_first base begins p (Func name choice) fs is stands rest =
    let own : own_place p ≡ Some p.owner.start = subst (λ s. cond (is_function s) (Some p.owner.start) (cond (is_instruction s) (Some p.place) None) ≡ Some p.owner.start) is refl in
    (stands p.owner.start own, rest)
starts_first base begins p (Label name) fs is stands rest = rest
starts_first base begins p (Does operation) fs is stands rest = rest

starts_at_units : (base : ℕ) (begins : List ℕ) (lines : List Placed) → AllByRecursion (Stands base begins) lines → AllByRecursion (λ f. Contains begins f.start) (functions base lines)
starts_at_units base begins [] all = tt
starts_at_units base begins (p ∷ following) all = starts_first base begins p p.statement (functions base following) refl all.0 (starts_at_units base begins following all.1)

-- ---- starts ascend

-- each function begins after the one before it
abbrev pub Ascend : ℕ → Option Function → List Function → Type 0
Ascend base o [] = ⊤
Ascend base o (f ∷ fs) = BeginsAfter base o f.start × Ascend base (Some f) fs

ascend_at : (base : ℕ) (o : Option Function) (fs : List Function) (i : ℕ) (f : Function) → Ascend base o fs → slice_get fs i ≡ Some f → BeginsAfter base (last_or o (take i fs)) f.start
ascend_at base o [] i f ascend e = absurd (cc e)
ascend_at base o (g ∷ fs) zero f ascend e = let at : g ≡ f = cc e in subst (λ (x : Function). BeginsAfter base o x.start) at ascend.0
ascend_at base o (g ∷ fs) (suc i) f ascend e = ascend_at base (Some g) fs i f ascend.1 e

-- where lines come: before all functions and all code, or not before the start of the last function
abbrev pub Stood : ℕ → ℕ → StatementLines → Option Function → Type 0
Stood base place before None = (place ≡ 0) × (has_function before ≡ false)
Stood base place before (Some f) = (f.start ≤ base + place) × (is_bare before ≡ false → f.start < base + place)

-- the last function, after a line
abbrev pub latest : Option Function → Option Function → Option Function
latest None o = o
latest (Some f) o = Some f

abbrev pub MayBegin : ℕ → Option Function → Option Function → Type 0
MayBegin base o None = ⊤
MayBegin base o (Some f) = BeginsAfter base o f.start

ascend_first : (base : ℕ) (o new : Option Function) (fs : List Function) → MayBegin base o new → Ascend base (latest new o) fs → Ascend base o (cons_option new fs)
ascend_first base o None fs begins rest = rest
ascend_first base o (Some f) fs begins rest = (begins, rest)

-- a line that begins no function and isn't an instruction line
stood_same : (base place : ℕ) (before : StatementLines) (number : ℕ) (s : Statement) (o : Option Function) → is_function s ≡ false → is_instruction s ≡ false
    → Stood base place before o → Stood base (place + 0) (before ++ (number, s) ∷ []) o
stood_same base place before number s None f i stood =
    let more : has_function (before ++ (number, s) ∷ []) ≡ (has_function before || is_function s) = has_function-more before (number, s) in
    (omega (arith, stood.0), rw (more, stood.1, f) refl)
stood_same base place before number s (Some g) f i stood =
    let more : is_bare (before ++ (number, s) ∷ []) ≡ cond (is_function s) true (cond (is_instruction s) false (is_bare before)) = is_bare-more before (number, s) in
    let same : cond (is_function s) true (cond (is_instruction s) false (is_bare before)) ≡ is_bare before = rw (f, i) refl in
    (omega (arith, stood.0), λ h. omega (arith, stood.1 (sym (more ∙ same) ∙ h)))

-- where a function starts
first_start : (chosen : Choosing) (base place : ℕ) (owner : LineOwner) (name : List ℕ) (choice : Choice) (following : StatementLines) → place ≡ 0
    → base + (owner_of chosen place owner (Func name choice) following).start ≡ base
first_start chosen base place owner name choice following h = by_traced (chosen choice (instruction_lines following))
  where
    by_traced : (t : Bool) → base + (owner_at t choice place).start ≡ base
    by_traced true = omega (arith, h)
    by_traced false = omega (arith, h)

-- one line
line_ascends : (chosen : Choosing) (base place : ℕ) (owner : LineOwner) (before : StatementLines) (number : ℕ) (s : Statement) (following : StatementLines) (o : Option Function)
    → IsAllowed before s → Stood base place before o
    → let p : Placed = record { line = number; statement = s; owner = owner_of chosen place owner s following; place = place } in
    MayBegin base o (function_in base p s) × Stood base (place + widths (parts_at p)) (before ++ (number, s) ∷ []) (latest (function_in base p s) o)
line_ascends chosen base place owner before number (Base address) following o may stood = (tt, stood_same base place before number (Base address) o refl refl stood)
line_ascends chosen base place owner before number (Entry name) following o may stood = (tt, stood_same base place before number (Entry name) o refl refl stood)
line_ascends chosen base place owner before number (Func name choice) following o may stood =
    let here = owner_of chosen place owner (Func name choice) following in
    (by_last o stood, (omega (arith, start_to chosen place owner name choice following), λ h. absurd (cc (h, is_bare-more before (number, Func name choice)))))
  where
    by_last : (o : Option Function) → Stood base place before o → BeginsAfter base o (base + (owner_of chosen place owner (Func name choice) following).start)
    by_last None stood = first_start chosen base place owner name choice following stood.0
    by_last (Some f) stood = omega (arith, stood.1 may.in_place, start_from chosen place owner name choice following)
line_ascends chosen base place owner before number (Label name) following o may stood = (tt, stood_same base place before number (Label name) o refl refl stood)
line_ascends chosen base place owner before number (Does operation) following None may stood =
    let some : has_function before ≡ true = not-false (has_function before) may.in_place in absurd (cc (some, stood.1))
line_ascends chosen base place owner before number (Does operation) following (Some f) may stood =
    (tt, (omega (arith, stood.0), λ h. omega (arith, stood.0, operation_width owner.traced place operation)))

pub ascending : (base : ℕ) (chosen : Choosing) (place : ℕ) (owner : LineOwner) (before lines : StatementLines) (o : Option Function) → Allowed before lines → Stood base place before o
    → Ascend base o (functions base (placed_from chosen place owner lines))
ascending base chosen place owner before [] o all stood = tt
ascending base chosen place owner before (line ∷ following) o all stood =
    let here = owner_of chosen place owner line.1 following in
    let p : Placed = record { line = line.0; statement = line.1; owner = here; place = place } in
    let next = place + widths (parts_at p) in
    let new = function_in base p line.1 in
    let one = line_ascends chosen base place owner before line.0 line.1 following o all.0 stood in
    ascend_first base o new (functions base (placed_from chosen next here following)) one.0
    (ascending base chosen next here (before ++ line ∷ []) following (latest new o) all.1 one.1)

-- ---- names

abbrev pub HasName : Function → Type 0
HasName f = is_name f.name ≡ true

names_first : (base : ℕ) (before : StatementLines) (p : Placed) (s : Statement) (fs : List Function) → IsAllowed before s → AllByRecursion HasName fs → AllByRecursion HasName (cons_option (function_in base p s) fs)
names_first base before p (Base address) fs may rest = rest
names_first base before p (Entry name) fs may rest = rest
names_first base before p (Func name choice) fs may rest = (may.short, rest)
names_first base before p (Label name) fs may rest = rest
names_first base before p (Does operation) fs may rest = rest

have_names : (base : ℕ) (chosen : Choosing) (place : ℕ) (owner : LineOwner) (before lines : StatementLines) → Allowed before lines → AllByRecursion HasName (functions base (placed_from chosen place owner lines))
have_names base chosen place owner before [] all = tt
have_names base chosen place owner before (line ∷ following) all =
    let here = owner_of chosen place owner line.1 following in
    let p : Placed = record { line = line.0; statement = line.1; owner = here; place = place } in
    let next = place + widths (parts_at p) in
    names_first base before p line.1 (functions base (placed_from chosen next here following)) all.0 (have_names base chosen next here (before ++ line ∷ []) following all.1)

name_parts : (name : List ℕ) → is_name name ≡ true → (leb 1 (length name) ≡ true) × (list_all is_name_byte name ≡ true)
name_parts name h =
    let a = and_parts ((leb 1 (length name) && leb (length name) 255) && not (is_decimal (get_or name 0 0))) (list_all is_name_byte name) h in
    let b = and_parts (leb 1 (length name) && leb (length name) 255) (not (is_decimal (get_or name 0 0))) a.0 in
    ((and_parts (leb 1 (length name)) (leb (length name) 255) b.0).0, a.1)

name_some : (name : List ℕ) → is_name name ≡ true → name ≢ []
name_some [] h e = let none : false ≡ true = (name_parts [] h).0 in absurd (cc none)
name_some (b ∷ bs) h e = absurd (cc e)

bytes_pass : (bs : List ℕ) → list_all is_name_byte bs ≡ true → AllByRecursion (λ b. is_name_byte b ≡ true) bs
bytes_pass [] h = tt
bytes_pass (b ∷ bs) h = let parts = and_parts (is_name_byte b) (list_all is_name_byte bs) h in (parts.0, bytes_pass bs parts.1)

name_of_bytes : (name : List ℕ) → is_name name ≡ true → All (λ b. is_name_byte b ≡ true) name
name_of_bytes name h = All-from_recursion (λ b. is_name_byte b ≡ true) name (bytes_pass name (name_parts name h).1)

-- ---- no name twice

-- a defined name isn't one of the names that aren't
abbrev pub Knows : List ℕ → StatementLines → Type 0
Knows name before = (other : List ℕ) → is_defined other before ≡ false → bytes_eq name other ≡ false

knows-more : (name : List ℕ) (before : StatementLines) (line : ℕ × Statement) → Knows name before → Knows name (before ++ line ∷ [])
knows-more name before line knows other free = knows other (or_parts (is_defined other before) (defines other line.1) (sym (is_defined-more other before line) ∙ free)).0

knows_itself : (before : StatementLines) (number : ℕ) (name : List ℕ) (choice : Choice) → Knows name (before ++ (number, Func name choice) ∷ [])
knows_itself before number name choice other free =
    let here = (or_parts (is_defined other before) (bytes_eq name other || false) (sym (is_defined-more other before (number, Func name choice)) ∙ free)).1 in
    (or_parts (bytes_eq name other) false here).0

apart_first : (base : ℕ) (before : StatementLines) (p : Placed) (s : Statement) (fs : List Function) (name : List ℕ) → IsAllowed before s → Knows name before
    → AllByRecursion (λ g. bytes_eq name g.name ≡ false) fs → AllByRecursion (λ g. bytes_eq name g.name ≡ false) (cons_option (function_in base p s) fs)
apart_first base before p (Base address) fs name may knows rest = rest
apart_first base before p (Entry other) fs name may knows rest = rest
apart_first base before p (Func other choice) fs name may knows rest = (knows other may.new_name, rest)
apart_first base before p (Label other) fs name may knows rest = rest
apart_first base before p (Does operation) fs name may knows rest = rest

apart : (base : ℕ) (chosen : Choosing) (place : ℕ) (owner : LineOwner) (before lines : StatementLines) (name : List ℕ) → Allowed before lines → Knows name before
    → AllByRecursion (λ g. bytes_eq name g.name ≡ false) (functions base (placed_from chosen place owner lines))
apart base chosen place owner before [] name all knows = tt
apart base chosen place owner before (line ∷ following) name all knows =
    let here = owner_of chosen place owner line.1 following in
    let p : Placed = record { line = line.0; statement = line.1; owner = here; place = place } in
    let next = place + widths (parts_at p) in
    apart_first base before p line.1 (functions base (placed_from chosen next here following)) name all.0 knows
    (apart base chosen next here (before ++ line ∷ []) following name all.1 (knows-more name before line knows))

-- each name differs from those after it
abbrev pub OwnNames : List Function → Type 0
OwnNames [] = ⊤
OwnNames (f ∷ fs) = AllByRecursion (λ g. bytes_eq f.name g.name ≡ false) fs × OwnNames fs

own_first : (base : ℕ) (p : Placed) (s : Statement) (fs : List Function)
    → ((name : List ℕ) (choice : Choice) → s ≡ Func name choice → AllByRecursion (λ g. bytes_eq name g.name ≡ false) fs) → OwnNames fs → OwnNames (cons_option (function_in base p s) fs)
own_first base p (Base address) fs first rest = rest
own_first base p (Entry name) fs first rest = rest
own_first base p (Func name choice) fs first rest = (first name choice refl, rest)
own_first base p (Label name) fs first rest = rest
own_first base p (Does operation) fs first rest = rest

own_names : (base : ℕ) (chosen : Choosing) (place : ℕ) (owner : LineOwner) (before lines : StatementLines) → Allowed before lines → OwnNames (functions base (placed_from chosen place owner lines))
own_names base chosen place owner before [] all = tt
own_names base chosen place owner before (line ∷ following) all =
    let here = owner_of chosen place owner line.1 following in
    let p : Placed = record { line = line.0; statement = line.1; owner = here; place = place } in
    let next = place + widths (parts_at p) in
    own_first base p line.1 (functions base (placed_from chosen next here following))
    (λ name choice is. apart base chosen next here (before ++ line ∷ []) following name all.1 (knows_line name choice is)) (own_names base chosen next here (before ++ line ∷ []) following all.1)
  where
    knows_line : (name : List ℕ) (choice : Choice) → line.1 ≡ Func name choice → Knows name (before ++ line ∷ [])
    knows_line name choice is = subst (λ s. Knows name (before ++ (line.0, s) ∷ [])) (sym is) (knows_itself before line.0 name choice)

differ : (f g : Function) → bytes_eq f.name g.name ≡ false → f.name ≢ g.name
differ f g apart same = let is : bytes_eq f.name g.name ≡ true = (bytes_eq-Decides f.name g.name).1 same in absurd (cc (apart, is))

each_at : (P : Function → Type 0) (fs : List Function) (i : ℕ) (f : Function) → AllByRecursion P fs → slice_get fs i ≡ Some f → P f
each_at P [] i f all e = absurd (cc e)
each_at P (g ∷ fs) zero f all e = let at : g ≡ f = cc e in subst P at all.0
each_at P (g ∷ fs) (suc i) f all e = each_at P fs i f all.1 e

own_at : (fs : List Function) (i : ℕ) (f : Function) → OwnNames fs → slice_get fs i ≡ Some f → AllByRecursion (λ g. g.name ≢ f.name) (take i fs)
own_at [] i f own e = absurd (cc e)
own_at (g ∷ fs) zero f own e = tt
own_at (g ∷ fs) (suc i) f own e = (differ g f (each_at (λ x. bytes_eq g.name x.name ≡ false) fs i f own.0 e), own_at fs i f own.1 e)

-- ---- all together

module _ (base : ℕ) (chosen : Choosing) (said : StatementLines) (are : AreSaid said) where
  begins_at : AllByRecursion (λ f. Contains (addresses (units_from base 0 (pieces (lines_placed chosen said)))) f.start) (functions base (lines_placed chosen said))
  begins_at =
      let all = lines_placed chosen said in
      let stands = own_places all base chosen 0 no_owner said (all_filled [] said are.allowed are.whole) in
      let at : addresses_from (base + 0) (pieces all) ≡ addresses (units_from base 0 (pieces all)) = ap (λ n. addresses_from n (pieces all)) (add-zero base) ∙ sym (addresses-units base 0 (pieces all)) in
      starts_at_units base (addresses (units_from base 0 (pieces all))) all (subst (λ ns. AllByRecursion (Stands base ns) all) at stands)

  function_at_place : (i : ℕ) (f : Function) → slice_get (functions base (lines_placed chosen said)) i ≡ Some f
      → IsFunction base (units_from base 0 (pieces (lines_placed chosen said))) (take i (functions base (lines_placed chosen said))) f
  function_at_place i f e =
      let fs = functions base (lines_placed chosen said) in
      let named = each_at HasName fs i f (have_names base chosen 0 no_owner [] said are.allowed) e in
      record {
        at_unit = each_at (λ g. Contains (addresses (units_from base 0 (pieces (lines_placed chosen said)))) g.start) fs i f begins_at e;
        in_order = ascend_at base None fs i f (ascending base chosen 0 no_owner [] said None are.allowed (refl, refl)) e;
        has_name = name_some f.name named;
        name_bytes = name_of_bytes f.name named;
        own_name = All-from_recursion (λ g. g.name ≢ f.name) (take i fs) (own_at fs i f (own_names base chosen 0 no_owner [] said are.allowed) e);
      }

-- the functions of a text
pub are_functions : (text : List ℕ) (threshold : ℕ) (said : StatementLines) → statements_said text ≡ Ok said
    → AreFunctions (base_of said) (units_from (base_of said) 0 (pieces (lines_placed (by_threshold threshold) said))) (functions (base_of said) (lines_placed (by_threshold threshold) said))
are_functions text threshold said read = function_at_place (base_of said) (by_threshold threshold) said (are_said text said read)
