-- A text that isn't refused has an entry function.
use Rattle.std.proofs.Common.{◌≡◌, ℕ, ◌+◌, ◌<◌, Bool, true, false, cond, not, ◌||◌, List, [], ◌∷◌, length, suc, Option, Some, None, refl, sym, ap, subst, ◌∙◌, arith}
use Rattle.std.specs.Prelude.{slice_get}
use Rattle.std.specs.List.{cons_option, filter_map, list_any, position_or_len}
use Rattle.std.specs.Str.{bytes_eq}
use Rattle.std.proofs.lemmas.Bool.{not-false}
use Rattle.std.proofs.lemmas.List.Folds.{find_at}
use Rattle.xray_image.specs.Container.{Function}
use Rattle.asm_text.specs.Statements.{Statement, Base, Entry, Func, Label, Does}
use Rattle.asm_text.specs.Layout.{StatementLines, Placed, LineOwner, Choosing, owner_of, no_owner, parts_of_line, placed_from, lines_placed, widths, is_function, names_function, functions, function_in, entry_in_line, number_of_function, entry_of}
use Rattle.asm_text.specs.Refusals.{has_function, is_unresolved}
use Rattle.asm_text.specs.Programs.{entry_function}
use Rattle.asm_text.proofs.SaidLines.{AreSaid, Settled}

-- ---- a function of each function line

some_first : (base : ℕ) (p : Placed) (s : Statement) (fs : List Function) (t : Bool) → (is_function s || t) ≡ true → (t ≡ true → 0 < length fs)
    → 0 < length (cons_option (function_in base p s) fs)
some_first base p (Base address) fs t h rest = rest h
some_first base p (Entry name) fs t h rest = rest h
some_first base p (Func name choice) fs t h rest = omega arith
some_first base p (Label name) fs t h rest = rest h
some_first base p (Does operation) fs t h rest = rest h

some_function : (base : ℕ) (chosen : Choosing) (place : ℕ) (owner : LineOwner) (lines : StatementLines) → has_function lines ≡ true → 0 < length (functions base (placed_from chosen place owner lines))
some_function base chosen place owner [] h = absurd (cc h)
some_function base chosen place owner (line ∷ following) h =
    let here = owner_of chosen place owner line.1 following in
    let p : Placed = record { line = line.0; statement = line.1; owner = here; place = place } in
    let next = place + widths (parts_of_line here.traced place line.1) in
    some_first base p line.1 (functions base (placed_from chosen next here following)) (has_function following) h (some_function base chosen next here following)

named_first : (name : List ℕ) (base : ℕ) (p : Placed) (s : Statement) (fs : List Function)
    → list_any (λ f. bytes_eq f.name name) (cons_option (function_in base p s) fs) ≡ (names_function name s || list_any (λ f. bytes_eq f.name name) fs)
named_first name base p (Base address) fs = refl
named_first name base p (Entry other) fs = refl
named_first name base p (Func other choice) fs = refl
named_first name base p (Label other) fs = refl
named_first name base p (Does operation) fs = refl

-- by its name
named_function : (name : List ℕ) (base : ℕ) (chosen : Choosing) (place : ℕ) (owner : LineOwner) (lines : StatementLines)
    → list_any (λ f. bytes_eq f.name name) (functions base (placed_from chosen place owner lines)) ≡ list_any (λ line. names_function name line.1) lines
named_function name base chosen place owner [] = refl
named_function name base chosen place owner (line ∷ following) =
    let here = owner_of chosen place owner line.1 following in
    let p : Placed = record { line = line.0; statement = line.1; owner = here; place = place } in
    let next = place + widths (parts_of_line here.traced place line.1) in
    named_first name base p line.1 (functions base (placed_from chosen next here following))
    ∙ ap (λ t. names_function name line.1 || t) (named_function name base chosen next here following)

-- ---- the first place that passes

first_place : (t u : Bool) (n m : ℕ) → (t || u) ≡ true → (u ≡ true → n < m) → cond (not t) (1 + n) 0 < suc m
first_place true u n m h rest = omega arith
first_place false u n m h rest = omega (arith, rest h)

place_found : {X : Type 0} (test : X → Bool) (xs : List X) → list_any test xs ≡ true → position_or_len test xs < length xs
place_found test [] h = absurd (cc h)
place_found test (x ∷ xs) h = first_place (test x) (list_any test xs) (position_or_len test xs) (length xs) h (place_found test xs)

-- ---- the entry

entry_first : (all : StatementLines) (s : Statement) (following : StatementLines) (names : List (List ℕ)) (name : List ℕ) → is_unresolved all s following ≡ false
    → (slice_get names 0 ≡ Some name → list_any (λ line. names_function name line.1) all ≡ true)
    → slice_get (cons_option (entry_in_line s) names) 0 ≡ Some name → list_any (λ line. names_function name line.1) all ≡ true
entry_first all (Base address) following names name free rest h = rest h
entry_first all (Entry other) following names name free rest h =
    let same : other ≡ name = cc h in
    subst (λ (n : List ℕ). list_any (λ (line : ℕ × Statement). names_function n line.1) all ≡ true) same (not-false (list_any (λ (line : ℕ × Statement). names_function other line.1) all) free)
entry_first all (Func other choice) following names name free rest h = rest h
entry_first all (Label other) following names name free rest h = rest h
entry_first all (Does operation) following names name free rest h = rest h

-- an entry names a function
entry_named : (all lines : StatementLines) → Settled all lines → (name : List ℕ) → slice_get (filter_map (λ line. entry_in_line line.1) lines) 0 ≡ Some name
    → list_any (λ line. names_function name line.1) all ≡ true
entry_named all [] settled name h = absurd (cc h)
entry_named all (line ∷ following) settled name h =
    entry_first all line.1 following (filter_map (λ line. entry_in_line line.1) following) name settled.0 (entry_named all following settled.1 name) h

-- the number of the entry is a function's
pub entry_exists : (base : ℕ) (chosen : Choosing) (said : StatementLines) → AreSaid said → entry_of said (functions base (lines_placed chosen said)) < length (functions base (lines_placed chosen said))
entry_exists base chosen said are = by_name (slice_get (filter_map (λ line. entry_in_line line.1) said) 0) refl
  where
    by_name : (o : Option (List ℕ)) → slice_get (filter_map (λ line. entry_in_line line.1) said) 0 ≡ o → number_of_function o (functions base (lines_placed chosen said)) < length (functions base (lines_placed chosen said))
    by_name None is = some_function base chosen 0 no_owner said are.some
    by_name (Some name) is =
        place_found (λ (f : Function). bytes_eq f.name name) (functions base (lines_placed chosen said))
        (named_function name base chosen 0 no_owner said ∙ entry_named said said are.settled name is)

-- the function of that number is the entry function
pub entry_is : (o : Option (List ℕ)) (all : List Function) → slice_get all (number_of_function o all) ≡ entry_function o all
entry_is None all = refl
entry_is (Some name) all = sym (find_at (λ (f : Function). bytes_eq f.name name) all)
