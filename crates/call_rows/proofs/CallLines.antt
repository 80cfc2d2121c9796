-- The lines of calls that end one after the other.
use Rattle.std.proofs.Common.{◌≡◌, ◌++◌, ◌∙◌, ℕ, List, [], ◌∷◌, length, reverse, refl, ap, sym, Bool, false, cond, Option, None, Some, append_assoc}
use Rattle.std.specs.List.{flat_map}
use Rattle.std.specs.Option.{option_to_list}
use Rattle.std.proofs.lemmas.List.{append-nil, reverse-append}
use Rattle.std.proofs.lemmas.List.Concat.{flat_map-append}
use Rattle.std.proofs.lemmas.List.Elements.{filter-append}
use Rattle.fdr_file.specs.ThreadEvents.{ThreadEvent}
use Rattle.map_names.specs.Naming.{Naming}
use Rattle.account_report.specs.declared.text.AccountLayout.{AccountLayout}
use Rattle.call_rows.specs.declared.row.CallRow.{CallRow}
use Rattle.call_rows.specs.declared.filter.CallFilter.{CallFilter}
use Rattle.call_rows.specs.CallRows.{passes, rows_after, wanted_rows}
use Rattle.call_rows.specs.CallText.{call_line}
use Rattle.call_rows.specs.private.Frames.{framed_after, row_on}
use Rattle.call_rows.proofs.FoldSteps.{rows_more}
use Rattle.call_rows.proofs.RowsStay.{AllWhole}
use Rattle.call_rows.proofs.SpentInCalls.{GoesOn}

-- the lines of the wanted ones among rows
abbrev pub lines_of : AccountLayout → Naming → CallFilter → List CallRow → List ℕ
lines_of format names wanted rows = flat_map (call_line format names) (wanted_rows wanted rows)

pub lines-append : (format : AccountLayout) (names : Naming) (wanted : CallFilter) (xs ys : List CallRow)
    → lines_of format names wanted (xs ++ ys) ≡ lines_of format names wanted xs ++ lines_of format names wanted ys
lines-append format names wanted xs ys =
    ap (flat_map (call_line format names)) (filter-append (passes wanted) xs ys)
    ∙ flat_map-append (call_line format names) (wanted_rows wanted xs) (wanted_rows wanted ys)

-- more events only add rows
rows_grow : GoesOn → AllWhole → (later h : List ThreadEvent) → (more : List CallRow) × (rows_after (reverse later ++ h) ≡ rows_after h ++ more)
rows_grow law whole [] h = ([], sym (append-nil (rows_after h)))
rows_grow law whole (e ∷ later) h =
    let there = rows_grow law whole later (e ∷ h) in
    let new = option_to_list (row_on e.thread (length h) e.event (framed_after h e.thread)) in
    let same : reverse (e ∷ later) ++ h ≡ reverse later ++ (e ∷ h) =
    ap (λ (es : List ThreadEvent). es ++ h) (reverse-append (e ∷ []) later) ∙ append_assoc (reverse later) (e ∷ []) h in
    (new ++ there.0, ap rows_after same ∙ (there.1 ∙ (ap (λ (rows : List CallRow). rows ++ there.0) (rows_more law whole e.thread e.pid e.event h) ∙ append_assoc (rows_after h) new there.0)))

-- ---- events that are given one after the other

-- these events were given, and these are left
pub record Given (all given left : List ThreadEvent) : Type 0 where
  pub are : all ≡ given ++ left

pub given_none : (all : List ThreadEvent) → Given all [] all
given_none all = record { are = refl }

pub given_more : (all given left later : List ThreadEvent) (e : ThreadEvent) → Given all given left → left ≡ e ∷ later → Given all (given ++ e ∷ []) later
given_more all given left later e before is = record {
  are = before.are ∙ (ap (λ (es : List ThreadEvent). given ++ es) is ∙ sym (append_assoc given (e ∷ []) later));
}

pub turned_more : (given : List ThreadEvent) (e : ThreadEvent) → e ∷ reverse given ≡ reverse (given ++ e ∷ [])
turned_more given e = sym (reverse-append given (e ∷ []))

-- the lines after one more event
pub lines_next : (format : AccountLayout) (names : Naming) (wanted : CallFilter) (given : List ThreadEvent) (e : ThreadEvent) (row : Option CallRow)
    → rows_after (e ∷ reverse given) ≡ rows_after (reverse given) ++ option_to_list row
    → lines_of format names wanted (rows_after (reverse given)) ++ lines_of format names wanted (option_to_list row)
    ≡ lines_of format names wanted (rows_after (reverse (given ++ e ∷ [])))
lines_next format names wanted given e row is =
    sym (lines-append format names wanted (rows_after (reverse given)) (option_to_list row))
    ∙ (ap (lines_of format names wanted) (sym is) ∙ ap (λ (h : List ThreadEvent). lines_of format names wanted (rows_after h)) (turned_more given e))

-- no event is left
pub lines_all : (format : AccountLayout) (names : Naming) (wanted : CallFilter) (all given left : List ThreadEvent) → Given all given left → left ≡ []
    → lines_of format names wanted (rows_after (reverse given)) ≡ lines_of format names wanted (rows_after (reverse all))
lines_all format names wanted all given left before none =
    ap (λ (es : List ThreadEvent). lines_of format names wanted (rows_after (reverse es)))
    (sym (before.are ∙ (ap (λ (es : List ThreadEvent). given ++ es) none ∙ append-nil given)))

-- the lines so far, and the rest
pub record RestOfLines (format : AccountLayout) (names : Naming) (wanted : CallFilter) (all given : List ThreadEvent) : Type 0 where
  pub rest : List ℕ
  pub is : lines_of format names wanted (rows_after (reverse given)) ++ rest ≡ lines_of format names wanted (rows_after (reverse all))

pub rest_of_lines : GoesOn → AllWhole → (format : AccountLayout) (names : Naming) (wanted : CallFilter) (all given left : List ThreadEvent) → Given all given left
    → RestOfLines format names wanted all given
rest_of_lines law whole format names wanted all given left before =
    let grown = rows_grow law whole left (reverse given) in
    let same : reverse all ≡ reverse left ++ reverse given = ap reverse before.are ∙ reverse-append given left in
    record {
      rest = lines_of format names wanted grown.0;
      is =
          sym (lines-append format names wanted (rows_after (reverse given)) grown.0)
          ∙ ap (lines_of format names wanted) (sym (ap rows_after same ∙ grown.1));
    }

-- ---- one call

pub no_call : (format : AccountLayout) (names : Naming) (wanted : CallFilter) (row : Option CallRow) → row ≡ None → [] ≡ lines_of format names wanted (option_to_list row)
no_call format names wanted row is = ap (λ (o : Option CallRow). lines_of format names wanted (option_to_list o)) (sym is)

pub unwanted_call : (format : AccountLayout) (names : Naming) (wanted : CallFilter) (row : Option CallRow) (r : CallRow) → row ≡ Some r → passes wanted r ≡ false
    → [] ≡ lines_of format names wanted (option_to_list row)
unwanted_call format names wanted row r is fails =
    ap (λ (b : Bool). flat_map (call_line format names) (cond b (r ∷ []) [])) (sym fails)
    ∙ ap (λ (o : Option CallRow). lines_of format names wanted (option_to_list o)) (sym is)
