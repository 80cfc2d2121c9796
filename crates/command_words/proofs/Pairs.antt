-- What a run over items gives the arguments of a row: each value with what it is for, in the order of the items.
use Rattle.std.proofs.Common.{◌≡◌, ◌∙◌, ◌+◌, ◌≤◌, ◌==◌, ◌&&◌, ◌||◌, ◌⊎◌, ℕ, Bool, true, false, suc, refl, sym, ap, ap₂, arith, inl, inr, List, [], ◌∷◌, ◌++◌, length, map, Option, Some, None, append-nil, append_assoc, true≢false, nat_le}
use Rattle.std.specs.List.{cons_option, filter_map, list_all, list_any}
use Rattle.std.specs.Prelude.{if◌then◌else◌, option_and_then}
use Rattle.std.specs.Str.{bytes_eq}
use Rattle.std.proofs.lemmas.Bool.{le-leb, ne_eqb}
use Rattle.std.proofs.lemmas.Bool.Decides.{eqb_tells}
use Rattle.std.proofs.lemmas.List.{length-append, map-append}
use Rattle.std.proofs.lemmas.List.Elements.{filter_map-append}
use Rattle.clap.proofs.WalkLemmas.{list_any-map}
use Rattle.clap.specs.Lexer.{strip_byte}
use Rattle.clap.specs.Walk.{Row, Rule, Text, arg_by_index, arg_by_long}
use Rattle.clap.specs.declared.builder.value_parser.Reading.TheVariants.{AsWritten}
use Rattle.clap.specs.declared.parser.matches.ValueSource.TheVariants.{CommandLine}
use Rattle.command_words.specs.Items.{Item, File, Given, Bare, dashed, values_of}
use Rattle.command_words.specs.Rows.{FileRow}
use Rattle.command_words.specs.private.Allowed.{are_distinct}
use Rattle.command_words.proofs.Arguments.{Each, run, run_none, used_one}
use Rattle.command_words.proofs.ClapArguments.{at_place, built_file, built_option, long_is, rules_from}
use Rattle.command_words.proofs.Texts.{all_alike, distinct_parts, each_all, each_among, each_append, each_mapped, each_with, equal_texts, not_all, other_way, same_text}

-- what a value is for, and the value
abbrev pub Pair : Type 0
Pair = Text × Text

abbrev pub row_of : Pair → Row
row_of pair = record { id = pair.0; values = pair.1 ∷ []; count = None; source = Some CommandLine; reading = AsWritten }

abbrev pub rows_of : List Pair → List Row
rows_of pairs = map row_of pairs

-- ---- the shape of an option

-- the name of an option, without its two dashes (45)
abbrev pub undashed : Text → Option Text
undashed option = option_and_then (strip_byte 45) (strip_byte 45 option)

-- an option has two dashes before its name, or has no name
pub data Optional : Text → Type 0 where
  written : (name : Text) → Optional (45 ∷ 45 ∷ name)
  other : (option : Text) → undashed option ≡ None → ((name : Text) → bytes_eq (dashed name) option ≡ false) → Optional option

pub optional : (option : Text) → Optional option
optional [] = other [] refl (λ name. refl)
optional (x ∷ []) = go (x == 45) refl
  where
    last : (name : Text) → bytes_eq (dashed name) (x ∷ []) ≡ false
    last name = go (45 == x)
      where
        go : (b : Bool) → (b && false) ≡ false
        go true = refl
        go false = refl

    go : (b : Bool) → (x == 45) ≡ b → Optional (x ∷ [])
    go true e = other (x ∷ []) (rw e refl) last
    go false e = other (x ∷ []) (rw e refl) last
optional (x ∷ y ∷ name) = go (eqb_tells x 45) (eqb_tells y 45)
  where
    differs : (b : Bool) → (b && false) ≡ false
    differs true = refl
    differs false = refl

    go : ((x == 45) ≡ true) × (x ≡ 45) ⊎ ((x == 45) ≡ false) × (x ≡ 45 → ⊥) → ((y == 45) ≡ true) × (y ≡ 45) ⊎ ((y == 45) ≡ false) × (y ≡ 45 → ⊥) → Optional (x ∷ y ∷ name)
    go (inl first) (inl second) = rw (first.1, second.1) (written name)
    go (inl first) (inr second) = other (x ∷ y ∷ name) (rw (first.0, second.0) refl) (λ n. let unlike : (45 == y) ≡ false = ne_eqb 45 y (λ same. second.1 (sym same)) in rw unlike (differs (45 == x)))
    go (inr first) second = other (x ∷ y ∷ name) (rw first.0 refl) (λ n. let unlike : (45 == x) ≡ false = ne_eqb 45 x (λ same. first.1 (sym same)) in rw unlike refl)

-- ---- the pairs of items

-- an option's value, before the pairs of the items after it
abbrev pub named_pair : Option Text → Text → List Pair → List Pair
named_pair None value pairs = pairs
named_pair (Some name) value pairs = (name, value) ∷ pairs

-- each file name with the name of the next file, and each value with the name of its option
abbrev pub pairs_of : List FileRow → List Item → List Pair
pairs_of files [] = []
pairs_of [] (File name ∷ items) = []
pairs_of (file ∷ files) (File name ∷ items) = (file.label, name) ∷ pairs_of files items
pairs_of files (Given option value ∷ items) = named_pair (undashed option) value (pairs_of files items)
pairs_of files (Bare option ∷ items) = pairs_of files items

-- there is a file for each file name, and each option is of these names and has a value
abbrev pub takes : List FileRow → List Text → List Item → Bool
takes files names [] = true
takes [] names (File name ∷ items) = false
takes (file ∷ files) names (File name ∷ items) = takes files names items
takes files names (Given option value ∷ items) = list_any (λ name. bytes_eq (dashed name) option) names && takes files names items
takes files names (Bare option ∷ items) = false

-- ---- the values of one id

abbrev pub value_at : Text → Pair → Option Text
value_at id pair = if bytes_eq pair.0 id then Some pair.1 else None

abbrev pub values_at : Text → List Pair → List Text
values_at id pairs = filter_map (value_at id) pairs

abbrev pub taken : Text → List Pair → Bool
taken id pairs = list_any (λ pair. bytes_eq pair.0 id) pairs

-- an id that is taken has a value
taken_has : (id : Text) (pairs : List Pair) → taken id pairs ≡ true → 1 ≤ length (values_at id pairs)
taken_has id [] e = absurd (true≢false (sym e))
taken_has id (pair ∷ pairs) e = go (bytes_eq pair.0 id) e (taken_has id pairs)
  where
    go : (b : Bool) → (b || taken id pairs) ≡ true → (taken id pairs ≡ true → 1 ≤ length (values_at id pairs)) → 1 ≤ length (cons_option (if b then Some pair.1 else None) (values_at id pairs))
    go true h more = omega arith
    go false h more = more h

-- an id that isn't taken has none
free_has : (id : Text) (pairs : List Pair) → taken id pairs ≡ false → values_at id pairs ≡ []
free_has id [] e = refl
free_has id (pair ∷ pairs) e = go (bytes_eq pair.0 id) e (free_has id pairs)
  where
    go : (b : Bool) → (b || taken id pairs) ≡ false → (taken id pairs ≡ false → values_at id pairs ≡ []) → cons_option (if b then Some pair.1 else None) (values_at id pairs) ≡ []
    go true h more = absurd (true≢false h)
    go false h more = more h

taken_append : (id : Text) (pairs : List Pair) (pair : Pair) → taken id pairs ≡ false → bytes_eq pair.0 id ≡ false → taken id (pairs ++ pair ∷ []) ≡ false
taken_append id [] pair free differs = rw differs refl
taken_append id (first ∷ pairs) pair free differs = go (bytes_eq first.0 id) free (λ h. taken_append id pairs pair h differs)
  where
    go : (b : Bool) → (b || taken id pairs) ≡ false → (taken id pairs ≡ false → taken id (pairs ++ pair ∷ []) ≡ false) → (b || taken id (pairs ++ pair ∷ [])) ≡ false
    go true h more = absurd (true≢false h)
    go false h more = more h

values_append : (id : Text) (pairs : List Pair) (pair : Pair) → values_at id (pairs ++ pair ∷ []) ≡ values_at id pairs ++ values_at id (pair ∷ [])
values_append id pairs pair = filter_map-append (value_at id) pairs (pair ∷ [])

-- each id has at most one value
abbrev pub OnceEach : List Pair → Type 0
OnceEach pairs = (id : Text) → length (values_at id pairs) ≤ 1

once_more : (pairs : List Pair) (pair : Pair) → taken pair.0 pairs ≡ false → OnceEach pairs → OnceEach (pairs ++ pair ∷ [])
once_more pairs pair free once id = rw (values_append id pairs pair) (go (bytes_eq pair.0 id) refl)
  where
    go : (b : Bool) → bytes_eq pair.0 id ≡ b → length (values_at id pairs ++ cons_option (if b then Some pair.1 else None) []) ≤ 1
    go true same =
        let is : pair.0 ≡ id = equal_texts pair.0 id same in
        let none : values_at id pairs ≡ [] = free_has id pairs (rw (← is) free) in
        rw none (omega arith)
    go false differs = rw (append-nil (values_at id pairs)) (once id)

-- ---- the run

-- pairs and items give the option of this name a value at most once
abbrev pub within : List Pair → List Item → Text → Bool
within seen items name = nat_le (length (values_at name seen ++ values_of name items)) 1

all_within : (seen : List Pair) (names : List Text) → OnceEach seen → list_all (within seen []) names ≡ true
all_within seen [] once = refl
all_within seen (name ∷ names) once =
    let few : nat_le (length (values_at name seen)) 1 ≡ true = le-leb (length (values_at name seen)) 1 (once name) in
    rw (append-nil (values_at name seen), few) (all_within seen names once)

used_file : (place : ℕ) (file : FileRow) (value : Text) (seen : List Pair) → taken file.label seen ≡ false
    → used_one (built_file place file) value (rows_of seen) ≡ Some (rows_of (seen ++ (file.label, value) ∷ []))
used_file place file value seen free =
    rw (sym (list_any-map (λ (row : Row). bytes_eq row.id file.label) row_of seen), free) (ap (λ rows. Some rows) (sym (map-append row_of seen ((file.label, value) ∷ []))))

pub used_option : (name value : Text) (seen : List Pair) (b : Bool) → taken name seen ≡ b
    → used_one (built_option name) value (rows_of seen) ≡ (if b then None else Some (rows_of (seen ++ (name, value) ∷ [])))
used_option name value seen true has = rw (sym (list_any-map (λ (row : Row). bytes_eq row.id name) row_of seen), has) refl
used_option name value seen false has =
    rw (sym (list_any-map (λ (row : Row). bytes_eq row.id name) row_of seen), has) (ap (λ rows. Some rows) (sym (map-append row_of seen ((name, value) ∷ []))))

module _ (files : List FileRow) (names : List Text) where
  -- the arguments of the row
  abbrev rules : List Rule
  rules = rules_from 1 files names

  -- what the run over items comes to, from the files that are left and the pairs before
  abbrev Comes : List Item → List FileRow → List Pair → ℕ → Type 0
  Comes items left seen place =
      run rules (Some (rows_of seen)) place items
      ≡ (if takes left names items && list_all (within seen items) names then Some (rows_of (seen ++ pairs_of left items)) else None)

  -- a pair that the first of the items gave is one of the pairs before the rest
  moved : (left : List FileRow) (items met : List Item) (seen : List Pair) (pair : Pair) (place : ℕ)
      → list_all (within (seen ++ pair ∷ []) items) names ≡ list_all (within seen met) names → Comes items left (seen ++ pair ∷ []) place
      → run rules (Some (rows_of (seen ++ pair ∷ []))) place items
      ≡ (if takes left names items && list_all (within seen met) names then Some (rows_of (seen ++ pair ∷ pairs_of left items)) else None)
  moved left items met seen pair place once comes =
      comes ∙ ap₂ (λ b pairs. if takes left names items && b then Some (rows_of pairs) else None) once (append_assoc seen (pair ∷ []) (pairs_of left items))

  -- a file name gives no option a value
  file_within : (file : FileRow) (name : Text) (items : List Item) (seen : List Pair) → Each (λ n. bytes_eq file.label n ≡ false) names
      → list_all (within (seen ++ (file.label, name) ∷ []) items) names ≡ list_all (within seen (File name ∷ items)) names
  file_within file name items seen apart =
      all_alike (within (seen ++ (file.label, name) ∷ []) items) (within seen (File name ∷ items)) names
      (each_with (λ n. bytes_eq file.label n ≡ false) (λ n. Unit {0}) (λ n. within (seen ++ (file.label, name) ∷ []) items n ≡ within seen (File name ∷ items) n) names
      (λ n differs _. rw (values_append n seen (file.label, name), differs, append-nil (values_at n seen)) refl) apart (each_all (λ n. Unit {0}) names (λ n. tt)))

  -- an option's value counts wherever it is
  option_within : (option value : Text) (items : List Item) (seen : List Pair)
      → list_all (within (seen ++ (option, value) ∷ []) items) names ≡ list_all (within seen (Given (dashed option) value ∷ items)) names
  option_within option value items seen =
      all_alike (within (seen ++ (option, value) ∷ []) items) (within seen (Given (dashed option) value ∷ items)) names
      (each_all (λ n. within (seen ++ (option, value) ∷ []) items n ≡ within seen (Given (dashed option) value ∷ items) n) names
      (λ n. rw (values_append n seen (option, value), append_assoc (values_at n seen) (values_at n ((option, value) ∷ [])) (values_of n items)) (go (bytes_eq option n) n)))
    where
      go : (b : Bool) (n : Text)
          → nat_le (length (values_at n seen ++ (cons_option (if b then Some value else None) [] ++ values_of n items))) 1
          ≡ nat_le (length (values_at n seen ++ cons_option (if b then Some value else None) (values_of n items))) 1
      go true n = refl
      go false n = refl

  -- a second value is refused
  twice : (option value : Text) (items : List Item) (seen : List Pair) → list_any (λ n. bytes_eq n option) names ≡ true → taken option seen ≡ true
      → list_all (within seen (Given (dashed option) value ∷ items)) names ≡ false
  twice option value items seen among has =
      not_all (within seen (Given (dashed option) value ∷ items)) names option among
      (rw (same_text option) (le_false (length (values_at option seen ++ value ∷ values_of option items)) 1
      (let sizes = length-append (values_at option seen) (value ∷ values_of option items) in
      let some = taken_has option seen has in
      omega arith)))
    where
      le_false : (a b : ℕ) → suc b ≤ a → nat_le a b ≡ false
      le_false a b less = grind arith

  -- no file that is left has the name of an option
  pub apart : (left : List FileRow) (option : Text) → are_distinct (map (λ file. file.label) left ++ names) ≡ true → list_any (λ n. bytes_eq n option) names ≡ true
      → Each (λ file. bytes_eq option file.label ≡ false) left
  apart [] option distinct among = tt
  apart (file ∷ left) option distinct among =
      let parts = distinct_parts file.label (map (λ file. file.label) left ++ names) distinct in
      let others = (each_append (λ text. bytes_eq file.label text ≡ false) (map (λ file. file.label) left) names parts.0).1 in (
        other_way file.label option (each_among (λ text. bytes_eq file.label text ≡ false) names option others among),
        apart left option parts.1 among,
      )

  abbrev Free : List Pair → List FileRow → Type 0
  Free seen left = Each (λ file. taken file.label seen ≡ false) left

  still_free : (left : List FileRow) (seen : List Pair) (pair : Pair) → Free seen left → Each (λ file. bytes_eq pair.0 file.label ≡ false) left → Free (seen ++ pair ∷ []) left
  still_free left seen pair free differ =
      each_with (λ file. taken file.label seen ≡ false) (λ file. bytes_eq pair.0 file.label ≡ false) (λ file. taken file.label (seen ++ pair ∷ []) ≡ false) left
      (λ file free differs. taken_append file.label seen pair free differs) free differ

  past : (left : List FileRow) (items : List Item) (b : Bool) → b ≡ false → {X : Type 0} (x : Option X) → (if takes left names items && b then x else None) ≡ None
  past left items b fails x = rw fails (go (takes left names items))
    where
      go : (t : Bool) → (if t && false then x else None) ≡ None
      go true = refl
      go false = refl

  run_from : (items : List Item) (before left : List FileRow) → files ≡ before ++ left → (place : ℕ) → length before + 1 ≡ place → (seen : List Pair) → OnceEach seen
      → Free seen left → are_distinct (map (λ file. file.label) left ++ names) ≡ true → Comes items left seen place
  run_from [] before left is place here seen once free distinct =
      rw (all_within seen names once) (ap (λ pairs. Some (rows_of pairs)) (sym (append-nil seen)))
  run_from (Bare option ∷ items) before left is place here seen once free distinct = refl
  run_from (File name ∷ items) before [] is place here seen once free distinct =
      let found : arg_by_index rules place ≡ None = rw is (at_place 1 before [] names place here) in
      rw found (run_none rules (suc place) items)
  run_from (File name ∷ items) before (file ∷ left) is place here seen once free distinct =
      let found : arg_by_index rules place ≡ Some (built_file place file) = rw is (at_place 1 before (file ∷ left) names place here) in
      let parts = distinct_parts file.label (map (λ file. file.label) left ++ names) distinct in
      let others = each_append (λ text. bytes_eq file.label text ≡ false) (map (λ file. file.label) left) names parts.0 in
      let pair : Pair = (file.label, name) in
      rw (found, used_file place file name seen free.0)
      (moved left items (File name ∷ items) seen pair (suc place) (file_within file name items seen others.1)
      (run_from items (before ++ file ∷ []) left (is ∙ sym (append_assoc before (file ∷ []) left)) (suc place)
      (let sizes = length-append before (file ∷ []) in omega arith) (seen ++ pair ∷ []) (once_more seen pair free.0 once)
      (still_free left seen pair free.1 (each_mapped (λ text. bytes_eq file.label text ≡ false) (λ file. file.label) left others.0)) parts.1))
  run_from (Given option value ∷ items) before left is place here seen once free distinct =
      go option (optional option) (λ name among none. run_from items before left is place here (seen ++ (name, value) ∷ []) (once_more seen (name, value) none once)
      (still_free left seen (name, value) free (apart left name distinct among)) distinct)
    where
      no_name : (names : List Text) (option : Text) → ((name : Text) → bytes_eq (dashed name) option ≡ false) → list_any (λ name. bytes_eq (dashed name) option) names ≡ false
      no_name [] option none = refl
      no_name (name ∷ names) option none = rw (none name) (no_name names option none)

      known : (name : Text) (b : Bool) → list_any (λ n. bytes_eq n name) names ≡ b
          → (list_any (λ n. bytes_eq n name) names ≡ true → taken name seen ≡ false → Comes items left (seen ++ (name, value) ∷ []) place)
          → Comes (Given (dashed name) value ∷ items) left seen place
      known name false unknown more =
          let found : arg_by_long rules name ≡ None = long_is 1 files names name ∙ rw unknown refl in
          rw (found, unknown) (run_none rules place items)
      known name true among more =
          let found : arg_by_long rules name ≡ Some (built_option name) = long_is 1 files names name ∙ rw among refl in
          rw (found, among) (met (taken name seen) refl)
        where
          met : (b : Bool) → taken name seen ≡ b
              → run rules (used_one (built_option name) value (rows_of seen)) place items
              ≡ (if takes left names items && list_all (within seen (Given (dashed name) value ∷ items)) names then Some (rows_of (seen ++ (name, value) ∷ pairs_of left items)) else None)
          met true has =
              rw (used_option name value seen true has)
              (run_none rules place items ∙ sym (past left items (list_all (within seen (Given (dashed name) value ∷ items)) names) (twice name value items seen among has) _))
          met false none =
              rw (used_option name value seen false none)
              (moved left items (Given (dashed name) value ∷ items) seen (name, value) place (option_within name value items seen) (more among none))

      go : (option : Text) → Optional option → ((name : Text) → list_any (λ n. bytes_eq n name) names ≡ true → taken name seen ≡ false → Comes items left (seen ++ (name, value) ∷ []) place)
          → Comes (Given option value ∷ items) left seen place
      go _ (written name) more = known name (list_any (λ n. bytes_eq n name) names) refl (more name)
      go _ (other option none unlike) more = rw (none, no_name names option unlike) (run_none rules place items)

  -- the run over all items
  pub run_is : (items : List Item) → are_distinct (map (λ file. file.label) files ++ names) ≡ true
      → run rules (Some []) 1 items ≡ (if takes files names items && list_all (within [] items) names then Some (rows_of (pairs_of files items)) else None)
  run_is items distinct =
      run_from items [] files refl 1 (omega arith) [] (λ id. omega arith) (each_all (λ file. taken file.label [] ≡ false) files (λ file. refl)) distinct
