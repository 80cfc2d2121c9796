-- The function of each sled has the name of the last function line up to the sled's line.
use Rattle.std.proofs.Common.{◌≡◌, ℕ, zero, suc, ◌+◌, ◌<◌, Bool, true, false, cond, ◌||◌, List, [], ◌∷◌, take, map, Option, Some, None, refl, sym, ap, subst, ◌∙◌, arith, eqb, ◌%◌}
use Rattle.std.specs.Prelude.{Ok, find, slice_get, option_map, option_and_then}
use Rattle.std.specs.List.{cons_option, filter_map, last_or, list_any, position_or_len, AllByRecursion}
use Rattle.std.proofs.lemmas.Bool.{eqb-true, eq-eqb, ne_eqb, or_right}
use Rattle.std.proofs.lemmas.List.Folds.{find_at}
use Rattle.xray_image.specs.declared.sled.Sled.{Sled}
use Rattle.xray_image.specs.Container.{Function, MapEntry}
use Rattle.xray_image.specs.Program.{Program, distinct}
use Rattle.xray_image.specs.Ids.{sledded_functions, name_at, name_of}
use Rattle.asm_text.specs.Statements.{Statement, Base, Entry, Func, Label, Does}
use Rattle.asm_text.specs.Layout.{StatementLines, Placed, LineOwner, Choosing, by_threshold, owner_of, no_owner, parts_at, placed_from, lines_placed, widths, base_of, functions, function_in, sled_kind, entry_in, map_entries}
use Rattle.asm_text.specs.Assembling.{statements_said}
use Rattle.asm_text.specs.Programs.{sled_said, program_said, function_named, function_over, sled_at_line}
use Rattle.asm_text.proofs.SaidLines.{are_said}
use Rattle.asm_text.proofs.FunctionsLaw.{Ascend, ascending}

-- ---- ids

-- a number of a list is among the distinct ones
distinct_step : (x y : ℕ) (seen ys : List ℕ)
    → ((more : List ℕ) → list_any (λ z. eqb z x) more ≡ false → list_any (λ z. eqb z x) ys ≡ true → find (λ z. eqb z x) (distinct more ys) ≡ Some x)
    → list_any (λ z. eqb z x) seen ≡ false → (same again : Bool) → eqb y x ≡ same → list_any (λ z. eqb z y) seen ≡ again → (same || list_any (λ z. eqb z x) ys) ≡ true
    → find (λ z. eqb z x) (cond again (distinct seen ys) (y ∷ distinct (y ∷ seen) ys)) ≡ Some x
distinct_step x y seen ys rest fresh true true is found h =
    let at : y ≡ x = eqb-true y x is in
    let met : list_any (λ z. eqb z x) seen ≡ true = subst (λ n. list_any (λ z. eqb z n) seen ≡ true) at found in
    absurd (cc (met, fresh))
distinct_step x y seen ys rest fresh true false is found h =
    let at : y ≡ x = eqb-true y x is in
    ap (λ t. cond t (Some y) (find (λ z. eqb z x) (distinct (y ∷ seen) ys))) is ∙ ap (λ n. Some n) at
distinct_step x y seen ys rest fresh false true is found h = rest seen fresh h
distinct_step x y seen ys rest fresh false false is found h =
    ap (λ t. cond t (Some y) (find (λ z. eqb z x) (distinct (y ∷ seen) ys))) is
    ∙ rest (y ∷ seen) (ap (λ t. t || list_any (λ z. eqb z x) seen) is ∙ fresh) h

distinct_finds : (x : ℕ) (seen xs : List ℕ) → list_any (λ z. eqb z x) seen ≡ false → list_any (λ z. eqb z x) xs ≡ true → find (λ z. eqb z x) (distinct seen xs) ≡ Some x
distinct_finds x seen [] fresh h = absurd (cc h)
distinct_finds x seen (y ∷ ys) fresh h =
    distinct_step x y seen ys (λ more free found. distinct_finds x more ys free found) fresh (eqb y x) (list_any (λ z. eqb z y) seen) refl refl h

-- the name by the id of a function that has a sled
name_by_id : (program : Program) (x : ℕ) → list_any (λ z. eqb z x) (map (λ s. s.function) program.sleds) ≡ true
    → name_of program (1 + position_or_len (λ z. eqb z x) (sledded_functions program)) ≡ name_at program x
name_by_id program x h =
    let n = position_or_len (λ z. eqb z x) (sledded_functions program) in
    let next : 1 + n ≡ suc n = omega arith in
    ap (name_of program) next
    ∙ ap (option_and_then (name_at program)) (sym (find_at (λ z. eqb z x) (sledded_functions program)) ∙ distinct_finds x [] (map (λ s. s.function) program.sleds) refl h)

functions_told : (entries es : List MapEntry) → map (λ s. s.function) (map (sled_said entries) es) ≡ map (λ e. e.function) es
functions_told entries [] = refl
functions_told entries (e ∷ es) = ap (λ ns. e.function ∷ ns) (functions_told entries es)

-- ---- the entry of a line

-- a line with a sled belongs to an instrumented function, and the sled lies in that function
entry_owner : (base : ℕ) (p : Placed) (entry : MapEntry) (traced : Bool) (kind : Option ℕ)
    → cond traced (option_map (λ k. record { sled = base + (p.place + p.place % 2); function = base + p.owner.start; kind = k; always = cond p.owner.always 1 0; version = 0 }) kind) None ≡ Some entry
    → (traced ≡ true) × (entry.function ≡ base + p.owner.start)
entry_owner base p entry true None e = absurd (cc e)
entry_owner base p entry true (Some k) e =
    let at : record { sled = base + (p.place + p.place % 2); function = base + p.owner.start; kind = k; always = cond p.owner.always 1 0; version = 0 } ≡ entry = cc e in
    (refl, sym (ap (λ (x : MapEntry). x.function) at))
entry_owner base p entry false kind e = absurd (cc e)

any_first : (x : ℕ) (o : Option MapEntry) (es : List MapEntry) → list_any (λ z. eqb z x) (map (λ e. e.function) es) ≡ true → list_any (λ z. eqb z x) (map (λ e. e.function) (cons_option o es)) ≡ true
any_first x None es h = h
any_first x (Some e) es h = or_right (eqb e.function x) (list_any (λ z. eqb z x) (map (λ e. e.function) es)) h

entry_found : (base : ℕ) (lines : List Placed) (i : ℕ) (p : Placed) (entry : MapEntry) → slice_get lines i ≡ Some p → entry_in base p ≡ Some entry
    → list_any (λ z. eqb z entry.function) (map (λ e. e.function) (map_entries base lines)) ≡ true
entry_found base [] i p entry e h = absurd (cc e)
entry_found base (q ∷ lines) zero p entry e h =
    let at : q ≡ p = cc e in
    let here : entry_in base q ≡ Some entry = subst (λ x. entry_in base x ≡ Some entry) (sym at) h in
    ap (λ o. list_any (λ z. eqb z entry.function) (map (λ e. e.function) (cons_option o (map_entries base lines)))) here
    ∙ ap (λ t. t || list_any (λ z. eqb z entry.function) (map (λ e. e.function) (map_entries base lines))) (eq-eqb entry.function entry.function refl)
entry_found base (q ∷ lines) (suc i) p entry e h = any_first entry.function (entry_in base q) (map_entries base lines) (entry_found base lines i p entry e h)

-- ---- functions by their starts

-- a function is found by its start
abbrev pub IsFound : List Function → Function → Type 0
IsFound all f = find (λ g. eqb g.start f.start) all ≡ Some f

above : (base : ℕ) (n : ℕ) (f : Function) (fs : List Function) → n < f.start → Ascend base (Some f) fs → AllByRecursion (λ g. n < g.start) fs
above base n f [] low ascend = tt
above base n f (g ∷ fs) low ascend = (omega (arith, ascend.0), above base n g fs (omega (arith, ascend.0)) ascend.1)

after_first : (f : Function) (fs gs : List Function) → AllByRecursion (λ g. f.start < g.start) gs → AllByRecursion (IsFound fs) gs → AllByRecursion (IsFound (f ∷ fs)) gs
after_first f fs [] up found = tt
after_first f fs (g ∷ gs) up found =
    let apart : eqb f.start g.start ≡ false = ne_eqb f.start g.start (λ same. absurd (omega (arith, same, up.0))) in
    (ap (λ t. cond t (Some f) (find (λ h. eqb h.start g.start) fs)) apart ∙ found.0, after_first f fs gs up.1 found.1)

all_above : (base : ℕ) (f : Function) (fs : List Function) → Ascend base (Some f) fs → AllByRecursion (λ g. f.start < g.start) fs
all_above base f [] ascend = tt
all_above base f (g ∷ fs) ascend = (ascend.0, above base f.start g fs ascend.0 ascend.1)

all_found : (base : ℕ) (o : Option Function) (fs : List Function) → Ascend base o fs → AllByRecursion (IsFound fs) fs
all_found base o [] ascend = tt
all_found base o (f ∷ fs) ascend =
    (ap (λ t. cond t (Some f) (find (λ g. eqb g.start f.start) fs)) (eq-eqb f.start f.start refl), after_first f fs fs (all_above base f fs ascend.1) (all_found base (Some f) fs ascend.1))

-- ---- the last function line

-- no function line came yet, or the owner starts where the function of that name does
abbrev pub OwnerIs : List Function → ℕ → Option (List ℕ) → LineOwner → Type 0
OwnerIs all base None owner = owner.traced ≡ false
OwnerIs all base (Some name) owner = IsFound all (record { start = base + owner.start; name = name })

module _ (all : List Function) (base : ℕ) (chosen : Choosing) where
  -- one line
  owner_first : (place : ℕ) (owner : LineOwner) (number : ℕ) (s : Statement) (following : StatementLines) (name : Option (List ℕ)) (fs : List Function) → OwnerIs all base name owner
      → let p : Placed = record { line = number; statement = s; owner = owner_of chosen place owner s following; place = place } in
      AllByRecursion (IsFound all) (cons_option (function_in base p s) fs)
      → OwnerIs all base (last_or name (cons_option (function_named s) [])) p.owner × AllByRecursion (IsFound all) fs
  owner_first place owner number (Base address) following name fs is found = (is, found)
  owner_first place owner number (Entry other) following name fs is found = (is, found)
  owner_first place owner number (Func other choice) following name fs is found = found
  owner_first place owner number (Label other) following name fs is found = (is, found)
  owner_first place owner number (Does operation) following name fs is found = (is, found)

  name_first : (s : Statement) (name : Option (List ℕ)) (names : List (List ℕ))
      → last_or (last_or name (cons_option (function_named s) [])) names ≡ last_or name (cons_option (function_named s) names)
  name_first (Base address) name names = refl
  name_first (Entry other) name names = refl
  name_first (Func other choice) name names = refl
  name_first (Label other) name names = refl
  name_first (Does operation) name names = refl

  owner_at : (place : ℕ) (owner : LineOwner) (lines : StatementLines) (name : Option (List ℕ)) (i : ℕ) (p : Placed) → OwnerIs all base name owner
      → AllByRecursion (IsFound all) (functions base (placed_from chosen place owner lines)) → slice_get (placed_from chosen place owner lines) i ≡ Some p
      → OwnerIs all base (last_or name (filter_map (λ line. function_named line.1) (take (suc i) lines))) p.owner
  owner_at place owner [] name i p is found e = absurd (cc e)
  owner_at place owner (line ∷ following) name zero p is found e =
      let here = owner_of chosen place owner line.1 following in
      let q : Placed = record { line = line.0; statement = line.1; owner = here; place = place } in
      let left = placed_from chosen (place + widths (parts_at q)) here following in
      let at : q ≡ p = cc e in
      subst (λ (x : Placed). OwnerIs all base (last_or name (cons_option (function_named line.1) [])) x.owner) at (owner_first place owner line.0 line.1 following name (functions base left) is found).0
  owner_at place owner (line ∷ following) name (suc i) p is found e =
      let here = owner_of chosen place owner line.1 following in
      let q : Placed = record { line = line.0; statement = line.1; owner = here; place = place } in
      let next = place + widths (parts_at q) in
      let left = placed_from chosen next here following in
      let first = owner_first place owner line.0 line.1 following name (functions base left) is found in
      subst (λ o. OwnerIs all base o p.owner) (name_first line.1 name (filter_map (λ line. function_named line.1) (take (suc i) following)))
      (owner_at next here following (last_or name (cons_option (function_named line.1) [])) i p first.0 first.1 e)

-- ---- all together

module _ (text : List ℕ) (threshold : ℕ) (said : StatementLines) (read : statements_said text ≡ Ok said) where
  found_starts : AllByRecursion (IsFound (functions (base_of said) (lines_placed (by_threshold threshold) said))) (functions (base_of said) (lines_placed (by_threshold threshold) said))
  found_starts =
      all_found (base_of said) None (functions (base_of said) (lines_placed (by_threshold threshold) said))
      (ascending (base_of said) (by_threshold threshold) 0 no_owner [] said None (are_said text said read).allowed (refl, refl))

  -- the entry of a line, by its function's id
  entry_named : (i : ℕ) (p : Placed) (entry : MapEntry) → slice_get (lines_placed (by_threshold threshold) said) i ≡ Some p → entry_in (base_of said) p ≡ Some entry
      → name_of (program_said threshold said) (sled_said (map_entries (base_of said) (lines_placed (by_threshold threshold) said)) entry).id ≡ function_over said i
  entry_named i p entry e h =
      let base = base_of said in
      let chosen = by_threshold threshold in
      let all = lines_placed chosen said in
      let es = map_entries base all in
      let fs = functions base all in
      let program = program_said threshold said in
      let told : map (λ s. s.function) program.sleds ≡ map (λ x. x.function) es = functions_told es es in
      let among : list_any (λ z. eqb z entry.function) (map (λ s. s.function) program.sleds) ≡ true =
      ap (list_any (λ z. eqb z entry.function)) told ∙ entry_found base all i p entry e h in
      let owner = entry_owner base p entry p.owner.traced (sled_kind p.statement) h in
      let next : suc i ≡ i + 1 = omega arith in
      let over : OwnerIs fs base (function_over said i) p.owner =
      subst (λ n. OwnerIs fs base (last_or None (filter_map (λ (line : ℕ × Statement). function_named line.1) (take n said))) p.owner) next (owner_at fs base chosen 0 no_owner said None i p refl found_starts e) in
      ap (λ ns. name_of program (1 + position_or_len (λ z. eqb z entry.function) (distinct [] ns))) (sym told)
      ∙ name_by_id program entry.function among
      ∙ ap (name_at program) owner.1
      ∙ by_over fs base p.owner (function_over said i) over owner.0
    where
      by_over : (fs : List Function) (base : ℕ) (owner : LineOwner) (o : Option (List ℕ)) → OwnerIs fs base o owner → owner.traced ≡ true
          → option_map (λ f. f.name) (find (λ f. eqb f.start (base + owner.start)) fs) ≡ o
      by_over fs base owner None over traced = absurd (cc (traced, over))
      by_over fs base owner (Some name) over traced = ap (option_map (λ f. f.name)) over

  -- the sled of a line
  pub sled_named : (i : ℕ) (sled : Sled) → sled_at_line threshold said i ≡ Some sled → name_of (program_said threshold said) sled.id ≡ function_over said i
  sled_named i sled e = by_line (slice_get (lines_placed (by_threshold threshold) said) i) refl e
    where
      by_entry : (p : Placed) (o : Option MapEntry) → slice_get (lines_placed (by_threshold threshold) said) i ≡ Some p → entry_in (base_of said) p ≡ o
          → option_map (sled_said (map_entries (base_of said) (lines_placed (by_threshold threshold) said))) o ≡ Some sled → name_of (program_said threshold said) sled.id ≡ function_over said i
      by_entry p None at is e = absurd (cc e)
      by_entry p (Some entry) at is e =
          let same : sled_said (map_entries (base_of said) (lines_placed (by_threshold threshold) said)) entry ≡ sled = cc e in
          subst (λ (s : Sled). name_of (program_said threshold said) s.id ≡ function_over said i) same (entry_named i p entry at is)

      by_line : (o : Option Placed) → slice_get (lines_placed (by_threshold threshold) said) i ≡ o
          → option_map (sled_said (map_entries (base_of said) (lines_placed (by_threshold threshold) said))) (option_and_then (entry_in (base_of said)) o) ≡ Some sled
          → name_of (program_said threshold said) sled.id ≡ function_over said i
      by_line None at e = absurd (cc e)
      by_line (Some p) at e = by_entry p (entry_in (base_of said) p) at refl e
