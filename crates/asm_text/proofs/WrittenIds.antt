-- If each function says always, each of them has an id.
use Rattle.std.proofs.Common.{◌≡◌, ℕ, ◌+◌, ◌%◌, ◌<◌, ◌≤◌, Bool, true, false, cond, List, [], ◌∷◌, length, map, None, Some, refl, ap, ◌∙◌, arith, ◌==◌}
use Rattle.std.specs.Prelude.{count_by, Option, option_map}
use Rattle.std.specs.List.{AllByRecursion, cons_option, list_all, list_any}
use Rattle.std.proofs.lemmas.Bool.{and_parts, eq-eqb, ne_eqb, or_from, or_left}
use Rattle.std.proofs.lemmas.List.Sums.{sum_by-cons}
use Rattle.xray_image.specs.Container.{MapEntry}
use Rattle.xray_image.specs.Program.{distinct}
use Rattle.xray_image.specs.Units.{JumpSled}
use Rattle.asm_text.specs.declared.statement.Choice.TheVariants.{ByLength, Always, Args, Never}
use Rattle.asm_text.specs.Statements.{Plain, Go, TailJump, Return, Statement, Base, Entry, Func, Label, Does}
use Rattle.asm_text.specs.Layout.{StatementLines, LineOwner, by_threshold, owner_of, no_owner, is_function, parts_of_line, placed_from, lines_placed, widths, sled_shift, map_entries, base_of}
use Rattle.asm_text.specs.Programs.{sled_said}
use Rattle.asm_text.specs.WrittenTexts.{is_always_function, AllHaveIds}
use Rattle.asm_text.proofs.WidthLemmas.{widths_aligned}

-- the functions of map entries
abbrev functions_in : List MapEntry → List ℕ
functions_in entries = map (λ e. e.function) entries

functions_of_sleds : (all entries : List MapEntry) → map (λ s. s.function) (map (sled_said all) entries) ≡ functions_in entries
functions_of_sleds all [] = refl
functions_of_sleds all (e ∷ entries) = ap (λ fs. e.function ∷ fs) (functions_of_sleds all entries)

-- ---- numbers that were seen

not_seen : (x : ℕ) (seen : List ℕ) → AllByRecursion (λ y. y < x) seen → list_any (λ y. y == x) seen ≡ false
not_seen x [] h = refl
not_seen x (y ∷ seen) h = or_from (y == x) (list_any (λ z. z == x) seen) (ne_eqb y x (λ e. omega (arith, e, h.0))) (not_seen x seen h.1)

weaker : (m n : ℕ) (seen : List ℕ) → m ≤ n → AllByRecursion (λ y. y < m) seen → AllByRecursion (λ y. y < n) seen
weaker m n [] le h = tt
weaker m n (y ∷ seen) le h = (omega (arith, le, h.0), weaker m n seen le h.1)

-- an entry of a function that was seen adds no number
maybe_seen : (t : Bool) (seen : List ℕ) (e : MapEntry) (entries : List MapEntry) → (t ≡ true → list_any (λ y. y == e.function) seen ≡ true)
    → distinct seen (functions_in (cons_option (cond t (Some e) None) entries)) ≡ distinct seen (functions_in entries)
maybe_seen true seen e entries h =
    ap (λ t. cond t (distinct seen (functions_in entries)) (e.function ∷ distinct (e.function ∷ seen) (functions_in entries))) (h refl)
maybe_seen false seen e entries h = refl

-- a line without a sled has no entry
no_entry : {A B : Type 0} (t : Bool) (f : A → B) → cond t (option_map f None) None ≡ None
no_entry true f = refl
no_entry false f = refl

-- ---- line after line

-- the function at hand was seen if it is instrumented, and all that was seen starts before the place
record IsKnown (base place : ℕ) (owner : LineOwner) (seen : List ℕ) : Type 0 where
  own : owner.traced ≡ true → list_any (λ y. y == base + owner.start) seen ≡ true
  below : AllByRecursion (λ y. y < base + place) seen

further : (base place more : ℕ) (owner : LineOwner) (seen : List ℕ) → IsKnown base place owner seen → IsKnown base (place + more) owner seen
further base place more owner seen known =
    record { own = known.own; below = weaker (base + place) (base + (place + more)) seen (omega arith) known.below }

module _ (threshold base : ℕ) where
  abbrev counted : (place : ℕ) → LineOwner → List ℕ → StatementLines → ℕ
  counted place owner seen said = length (distinct seen (functions_in (map_entries base (placed_from (by_threshold threshold) place owner said))))

  abbrev function_count : StatementLines → ℕ
  function_count said = count_by (λ line. is_function line.1) said

  -- what is counted in the rest of the lines, wherever they begin
  abbrev Counts : StatementLines → Type 0
  Counts said = (place : ℕ) (owner : LineOwner) (seen : List ℕ) → IsKnown base place owner seen → counted place owner seen said ≡ function_count said

  -- the entries of the lines after a line, and the sled's entry of a line that has one
  abbrev entries_after : (place : ℕ) → LineOwner → Statement → StatementLines → List MapEntry
  entries_after place owner s following =
      let here = owner_of (by_threshold threshold) place owner s following in
      map_entries base (placed_from (by_threshold threshold) (place + widths (parts_of_line here.traced place s)) here following)

  abbrev entry_at : (place : ℕ) → LineOwner → (kind : ℕ) → MapEntry
  entry_at place owner kind = record {
    sled = base + (place + place % 2);
    function = base + owner.start;
    kind = kind;
    always = cond owner.always 1 0;
    version = 0;
  }

  -- a line that makes no entry, or one of a function that was seen
  adds_none : (place : ℕ) (owner : LineOwner) (seen : List ℕ) (made : Option MapEntry) (entries : List MapEntry) → made ≡ None
      → length (distinct seen (functions_in (cons_option made entries))) ≡ length (distinct seen (functions_in entries))
  adds_none place owner seen made entries e = ap (λ m. length (distinct seen (functions_in (cons_option m entries)))) e

  one : (place : ℕ) (owner : LineOwner) (seen : List ℕ) (number : ℕ) (s : Statement) (following : StatementLines) → IsKnown base place owner seen
      → is_always_function s ≡ true → Counts following
      → counted place owner seen ((number, s) ∷ following) ≡ cond (is_function s) 1 0 + function_count following
  one place owner seen number (Base address) following known always rest =
      adds_none place owner seen (cond owner.traced (option_map (λ kind. entry_at place owner kind) None) None) (entries_after place owner (Base address) following) (no_entry owner.traced (λ kind. entry_at place owner kind))
      ∙ rest (place + 0) owner seen (further base place 0 owner seen known) ∙ omega arith
  one place owner seen number (Entry name) following known always rest =
      adds_none place owner seen (cond owner.traced (option_map (λ kind. entry_at place owner kind) None) None) (entries_after place owner (Entry name) following) (no_entry owner.traced (λ kind. entry_at place owner kind))
      ∙ rest (place + 0) owner seen (further base place 0 owner seen known) ∙ omega arith
  one place owner seen number (Label name) following known always rest =
      adds_none place owner seen (cond owner.traced (option_map (λ kind. entry_at place owner kind) None) None) (entries_after place owner (Label name) following) (no_entry owner.traced (λ kind. entry_at place owner kind))
      ∙ rest (place + 0) owner seen (further base place 0 owner seen known) ∙ omega arith
  one place owner seen number (Func name ByLength) following known always rest = absurd (cc always)
  one place owner seen number (Func name Never) following known always rest = absurd (cc always)
  one place owner seen number (Func name Always) following known always rest =
      let start = base + (place + place % 2) in
      let here : LineOwner = record { traced = true; always = true; start = place + place % 2 } in
      let width = widths (parts_of_line true place (Func name Always)) in
      let left = functions_in (entries_after place owner (Func name Always) following) in
      let fresh : list_any (λ y. y == start) seen ≡ false = not_seen start seen (weaker (base + place) start seen (omega arith) known.below) in
      let known_then : IsKnown base (place + width) here (start ∷ seen) = record {
        own = λ h. or_left (start == start) (list_any (λ y. y == start) seen) (eq-eqb start start refl);
        below = (omega (arith, widths_aligned place (JumpSled sled_shift)), weaker (base + place) (base + (place + width)) seen (omega arith) known.below);
      } in
      ap (λ t. length (cond t (distinct seen left) (start ∷ distinct (start ∷ seen) left))) fresh
      ∙ (let more = rest (place + width) here (start ∷ seen) known_then in omega (arith, more))
  one place owner seen number (Func name Args) following known always rest =
      let start = base + (place + place % 2) in
      let here : LineOwner = record { traced = true; always = true; start = place + place % 2 } in
      let width = widths (parts_of_line true place (Func name Args)) in
      let left = functions_in (entries_after place owner (Func name Args) following) in
      let fresh : list_any (λ y. y == start) seen ≡ false = not_seen start seen (weaker (base + place) start seen (omega arith) known.below) in
      let known_then : IsKnown base (place + width) here (start ∷ seen) = record {
        own = λ h. or_left (start == start) (list_any (λ y. y == start) seen) (eq-eqb start start refl);
        below = (omega (arith, widths_aligned place (JumpSled sled_shift)), weaker (base + place) (base + (place + width)) seen (omega arith) known.below);
      } in
      ap (λ t. length (cond t (distinct seen left) (start ∷ distinct (start ∷ seen) left))) fresh
      ∙ (let more = rest (place + width) here (start ∷ seen) known_then in omega (arith, more))
  one place owner seen number (Does (Plain instr)) following known always rest =
      let width = widths (parts_of_line owner.traced place (Does (Plain instr))) in
      adds_none place owner seen (cond owner.traced (option_map (λ kind. entry_at place owner kind) None) None) (entries_after place owner (Does (Plain instr)) following) (no_entry owner.traced (λ kind. entry_at place owner kind))
      ∙ rest (place + width) owner seen (further base place width owner seen known) ∙ omega arith
  one place owner seen number (Does (Go branch name)) following known always rest =
      let width = widths (parts_of_line owner.traced place (Does (Go branch name))) in
      adds_none place owner seen (cond owner.traced (option_map (λ kind. entry_at place owner kind) None) None) (entries_after place owner (Does (Go branch name)) following) (no_entry owner.traced (λ kind. entry_at place owner kind))
      ∙ rest (place + width) owner seen (further base place width owner seen known) ∙ omega arith
  one place owner seen number (Does (TailJump name)) following known always rest =
      let width = widths (parts_of_line owner.traced place (Does (TailJump name))) in
      ap length (maybe_seen owner.traced seen (entry_at place owner 2) (entries_after place owner (Does (TailJump name)) following) known.own)
      ∙ rest (place + width) owner seen (further base place width owner seen known) ∙ omega arith
  one place owner seen number (Does Return) following known always rest =
      let width = widths (parts_of_line owner.traced place (Does Return)) in
      ap length (maybe_seen owner.traced seen (entry_at place owner 1) (entries_after place owner (Does Return) following) known.own)
      ∙ rest (place + width) owner seen (further base place width owner seen known) ∙ omega arith

  ids : (said : StatementLines) → list_all (λ line. is_always_function line.1) said ≡ true → Counts said
  ids [] always place owner seen known = omega arith
  ids ((number, s) ∷ following) always place owner seen known =
      let parts = and_parts (is_always_function s) (list_all (λ line. is_always_function line.1) following) always in
      one place owner seen number s following known parts.0 (ids following parts.1)
      ∙ omega (arith, sum_by-cons (λ (line : ℕ × Statement). cond (is_function line.1) 1 0) (number, s) following)

pub all_have_ids : AllHaveIds
all_have_ids threshold said always =
    let entries = map_entries (base_of said) (lines_placed (by_threshold threshold) said) in
    ap (λ fs. length (distinct [] fs)) (functions_of_sleds entries entries)
    ∙ ids threshold (base_of said) said always 0 no_owner [] (record { own = λ h. absurd (cc h); below = tt })
