-- Names without places.
use Rattle.std.proofs.Common.{◌≡◌, ℕ, zero, suc, ◌<◌, ◌≤◌, Bool, true, false, cond, not, ◌||◌, List, [], ◌∷◌, length, drop, get_or, Option, Some, None, refl, sym, ap, ◌∙◌, arith}
use Rattle.std.specs.Prelude.{is_some, option_map, option_and_then, slice_get}
use Rattle.std.specs.Prelude.{Err}
use Rattle.std.specs.List.{list_any}
use Rattle.std.proofs.Math.Seq.{drop-cons}
use Rattle.std.proofs.lemmas.Option.{slice_get-get_or, slice_get_past}
use Rattle.std.proofs.lemmas.List.{length-map, drop-map}
use Rattle.asm_text.specs.declared.fault.AsmFault.TheVariants.{Label as Unresolved}
use Rattle.asm_text.specs.declared.layout.Laid.{Laid}
use Rattle.asm_text.specs.declared.name_table.NameTable.{NameTable}
use Rattle.asm_text.specs.Statements.{Statement}
use Rattle.asm_text.specs.Layout.{StatementLines, Placed, defines, is_function, is_instruction, own_place, next_place, place_of}
use Rattle.asm_text.specs.private.NameTables.{line_named}
use Rattle.asm_text.specs.private.FirstPass.{IsNames, defined_at}
use Rattle.asm_text.specs.Refusals.{is_defined, is_unresolved, resolved}
use Rattle.asm_text.specs.private.Views.{statement_said}
use Rattle.asm_text.specs.private.Laying.{line_placed, placed_in, lines_of, next_places, earlier, ArePlaces}
use Rattle.asm_text.proofs.TargetLemmas.{next_place-cons}
use Rattle.asm_text.proofs.NameTableLemmas.{is_defined-at}

-- whether an instruction line or a function follows
abbrev pub has_place : ℕ × Statement → Bool
has_place line = is_function line.1 || is_instruction line.1

none_next : (lines : List Placed) → not (is_some (next_place lines)) ≡ not (list_any has_place (lines_of lines))
none_next [] = refl
none_next (p ∷ following) =
    ap (λ o. not (is_some o)) (next_place-cons p following)
    ∙ (elim (is_function p.statement) as (λ f. not (is_some (earlier (cond f (Some p.owner.start) (cond (is_instruction p.statement) (Some p.place) None)) (next_place following))) ≡ not ((f || is_instruction p.statement) || list_any has_place (lines_of following))) [
      | true ↦ refl
      | false ↦ (elim (is_instruction p.statement) as (λ i. not (is_some (earlier (cond i (Some p.place) None) (next_place following))) ≡ not (i || list_any has_place (lines_of following))) [ true ↦ refl | false ↦ none_next following ])
    ])

-- a label's next place
pub label_unresolved : (p : Placed) (following : List Placed) → own_place p ≡ None → not (is_some (next_place (p ∷ following))) ≡ not (list_any has_place (lines_of following))
label_unresolved p following none = ap (λ o. not (is_some o)) (next_place-cons p following ∙ ap (λ o. earlier o (next_place following)) none) ∙ none_next following

-- a name that isn't in the table
pub missing_name : (lines : StatementLines) (names : NameTable) (name : List ℕ) → IsNames lines names → not (is_some (line_named names name)) ≡ not (is_defined name lines)
missing_name lines names name is = ap (λ o. not (is_some o)) (is name) ∙ ap not (sym (is_defined-at name lines))

-- a test with the opposite answer
pub other_way : (answer some : Bool) → some ≡ not answer → answer ≡ not some
other_way true some h = sym (ap not h)
other_way false some h = sym (ap not h)

-- the value of an option within an option
abbrev pub inner : Option (Option ℕ) → Option ℕ
inner None = None
inner (Some o) = o

after_one : (x : Option ℕ) (xs : List (Option ℕ)) (o : Option ℕ) → inner (option_and_then (slice_get (x ∷ xs)) (option_map suc o)) ≡ inner (option_and_then (slice_get xs) o)
after_one x xs None = refl
after_one x xs (Some n) = refl

-- the place of a name by the line that defines it
pub place_by_line : (name : List ℕ) (all : List Placed) → inner (option_and_then (slice_get (next_places all)) (defined_at name (lines_of all))) ≡ place_of name all
place_by_line name [] = refl
place_by_line name (p ∷ following) =
    elim (defines name p.statement) as (λ t. inner (option_and_then (slice_get (next_place (p ∷ following) ∷ next_places following)) (cond t (Some 0) (option_map suc (defined_at name (lines_of following))))) ≡ cond t (next_place (p ∷ following)) (place_of name following)) [
      | true ↦ refl
      | false ↦ after_one (next_place (p ∷ following)) (next_places following) (defined_at name (lines_of following)) ∙ place_by_line name following
    ]

-- the line of a name leads to its place
pub place_at_line : (name : List ℕ) (line : ℕ) (d : Option ℕ) (all : List Placed) (table : NameTable) (next : List (Option ℕ)) → ArePlaces all table next
    → Some line ≡ line_named table name → line < length next → get_or next line d ≡ place_of name all
place_at_line name line d all table next are found within =
    let at : defined_at name (lines_of all) ≡ Some line = sym (found ∙ are.names name) in
    sym (ap inner (slice_get-get_or next line d within))
    ∙ ap (λ targets. inner (slice_get targets line)) are.targets
    ∙ sym (ap (λ o. inner (option_and_then (slice_get (next_places all)) o)) at)
    ∙ place_by_line name all

-- a line after the last
pub place_past : (name : List ℕ) (line : ℕ) (all : List Placed) (table : NameTable) (next : List (Option ℕ)) → ArePlaces all table next
    → Some line ≡ line_named table name → length next ≤ line → None ≡ place_of name all
place_past name line all table next are found past =
    let at : defined_at name (lines_of all) ≡ Some line = sym (found ∙ are.names name) in
    sym (ap inner (slice_get_past next line past))
    ∙ ap (λ targets. inner (slice_get targets line)) are.targets
    ∙ sym (ap (λ o. inner (option_and_then (slice_get (next_places all)) o)) at)
    ∙ place_by_line name all

-- no line
pub place_nowhere : (name : List ℕ) (all : List Placed) (table : NameTable) (next : List (Option ℕ)) → ArePlaces all table next → None ≡ line_named table name → None ≡ place_of name all
place_nowhere name all table next are none =
    sym (ap (λ o. inner (option_and_then (slice_get (next_places all)) o)) (sym (none ∙ are.names name))) ∙ place_by_line name all

length-next_places : (all : List Placed) → length (next_places all) ≡ length all
length-next_places [] = refl
length-next_places (p ∷ following) = ap suc (length-next_places following)

-- there are as many places as lines
pub places_count : (laid : List Laid) (table : NameTable) (next : List (Option ℕ)) → ArePlaces (placed_in laid) table next → length next ≡ length laid
places_count laid table next are = ap length are.targets ∙ length-next_places (placed_in laid) ∙ simp length-map

next_places-at : (all : List Placed) (i : ℕ) (d : Option ℕ) → i < length all → get_or (next_places all) i d ≡ next_place (drop i all)
next_places-at [] i d within = absurd (omega arith)
next_places-at (p ∷ following) zero d within = refl
next_places-at (p ∷ following) (suc i) d within = next_places-at following i d (omega arith)

-- the place of a line and of those after it
pub target_at : (laid : List Laid) (i : ℕ) (d : Option ℕ) (e : Laid) (table : NameTable) (next : List (Option ℕ)) → ArePlaces (placed_in laid) table next → i < length laid
    → get_or next i d ≡ next_place (line_placed (get_or laid i e) ∷ placed_in (drop (suc i) laid))
target_at laid i d e table next are within =
    ap (λ targets. get_or targets i d) are.targets ∙ next_places-at (placed_in laid) i d (simp length-map within)
    ∙ ap next_place (drop-map line_placed i laid ∙ ap placed_in (drop-cons laid i e within))

-- one line of the search
pub resolved_step : (lines : StatementLines) (laid : List Laid) (i : ℕ) (e : Laid) → i < length laid
    → resolved lines (lines_of (placed_in (drop i laid)))
    ≡ cond (is_unresolved lines (statement_said (get_or laid i e).statement) (lines_of (placed_in (drop (suc i) laid)))) (Err (Unresolved (get_or laid i e).line)) (resolved lines (lines_of (placed_in (drop (suc i) laid))))
resolved_step lines laid i e within = ap (λ ls. resolved lines (lines_of (placed_in ls))) (drop-cons laid i e within)

-- what one turn of the search finds
abbrev pub Finds : List Laid → NameTable → ℕ → Option ℕ → Laid → Bool → Type 0
Finds laid table i target line answer =
    (following : List Placed) → IsNames (lines_of (placed_in laid)) table → target ≡ next_place (line_placed line ∷ following)
    → answer ≡ is_unresolved (lines_of (placed_in laid)) (statement_said line.statement) (lines_of following)

module _ (laid : List Laid) (i : ℕ) (d : Option ℕ) (e : Laid) (table : NameTable) (next : List (Option ℕ)) (are : ArePlaces (placed_in laid) table next) (within : i < length laid) (answer : Bool)
    (finds : Finds laid table i (get_or next i d) (get_or laid i e) answer) where
  turn : answer ≡ is_unresolved (lines_of (placed_in laid)) (statement_said (get_or laid i e).statement) (lines_of (placed_in (drop (suc i) laid)))
  turn = finds (placed_in (drop (suc i) laid)) are.names (target_at laid i d e table next are within)

  pub resolved_fails : answer ≡ true → resolved (lines_of (placed_in laid)) (lines_of (placed_in laid)) ≡ resolved (lines_of (placed_in laid)) (lines_of (placed_in (drop i laid)))
      → resolved (lines_of (placed_in laid)) (lines_of (placed_in laid)) ≡ Err (Unresolved (get_or laid i e).line)
  resolved_fails fails is =
      is ∙ resolved_step (lines_of (placed_in laid)) laid i e within
      ∙ ap (λ t. cond t (Err (Unresolved (get_or laid i e).line)) (resolved (lines_of (placed_in laid)) (lines_of (placed_in (drop (suc i) laid))))) (sym turn ∙ fails)

  pub resolved_goes : answer ≡ false → resolved (lines_of (placed_in laid)) (lines_of (placed_in laid)) ≡ resolved (lines_of (placed_in laid)) (lines_of (placed_in (drop i laid)))
      → resolved (lines_of (placed_in laid)) (lines_of (placed_in laid)) ≡ resolved (lines_of (placed_in laid)) (lines_of (placed_in (drop (suc i) laid)))
  resolved_goes goes is =
      is ∙ resolved_step (lines_of (placed_in laid)) laid i e within
      ∙ ap (λ t. cond t (Err (Unresolved (get_or laid i e).line)) (resolved (lines_of (placed_in laid)) (lines_of (placed_in (drop (suc i) laid))))) (sym turn ∙ goes)
