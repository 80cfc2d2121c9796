-- What clap makes of words is the line that they say by the definition.
use Rattle.std.proofs.Common.{◌≡◌, ◌∙◌, ◌&&◌, ◌||◌, Bool, true, false, not, refl, sym, ap, ap₂, List, [], ◌∷◌, ◌++◌, map, Option, Some, None, true≢false}
use Rattle.std.specs.List.{filter_map, list_all, list_any}
use Rattle.std.specs.Prelude.{if◌then◌else◌, option_and_then, option_map, slice_get}
use Rattle.std.specs.Str.{bytes_eq}
use Rattle.clap.specs.Takes.{is_given}
use Rattle.clap.specs.Walk.{Text, first_of}
use Rattle.command_words.specs.private.Clapped.{app_by, clap_rows, given_in, line_in, names_in}
use Rattle.command_words.specs.Items.{Item, File, Given, Bare, dashed, files_of, items_of, values_of}
use Rattle.command_words.specs.Lines.{Line, comes_once, fit, given_by, have_only, row_allows, is_cut, line_by, line_of}
use Rattle.command_words.specs.Rows.{CommandRow, FileRow, is_optional, option_names}
use Rattle.command_words.specs.private.Allowed.{are_distinct, is_row, labels_of}
use Rattle.command_words.proofs.Arguments.{Each, run}
use Rattle.command_words.proofs.ClapArguments.{built_option, row_is_distinct, rows_are, rules_by, rules_from}
use Rattle.command_words.proofs.ClapCommand.{complete, lacks}
use Rattle.command_words.proofs.Pairs.{Optional, Pair, apart, named_pair, optional, other, pairs_of, rows_of, run_is, taken, takes, undashed, written}
use Rattle.command_words.proofs.Texts.{and_parts, any_alike, distinct_parts, each_append, each_mapped, each_with, found_alike, other_way, same_text}
use Rattle.command_words.proofs.WordShapes.{IsText}

-- ---- what is required

-- a file that may not be absent has no name
abbrev misses : List FileRow → List Pair → Bool
misses files pairs = list_any (λ file. not (is_optional file) && not (taken file.label pairs)) files

given_is : (id : Text) (pairs : List Pair) → is_given id (rows_of pairs) ≡ taken id pairs
given_is id [] = refl
given_is id (pair ∷ pairs) = go (bytes_eq pair.0 id) refl (given_is id pairs)
  where
    go : (b : Bool) → bytes_eq pair.0 id ≡ b → is_given id (rows_of pairs) ≡ taken id pairs → is_given id (rows_of (pair ∷ pairs)) ≡ taken id (pair ∷ pairs)
    go true e more = rw e refl
    go false e more = rw e more

-- no option is required
options_lack : (names : List Text) (pairs : List Pair) → list_any (λ rule. rule.required && not (is_given rule.id (rows_of pairs))) (map built_option names) ≡ false
options_lack [] pairs = refl
options_lack (name ∷ names) pairs = options_lack names pairs

lacks_is : (place : _) (files : List FileRow) (names : List Text) (pairs : List Pair)
    → list_any (λ rule. rule.required && not (is_given rule.id (rows_of pairs))) (rules_from place files names) ≡ misses files pairs
lacks_is place [] names pairs = options_lack names pairs
lacks_is place (file ∷ files) names pairs =
    ap₂ (λ a b. (not (is_optional file) && not a) || b) (given_is file.label pairs) (lacks_is _ files names pairs)

-- ---- the test

-- if no file has a name, those that may not be absent are missing
nothing_misses : (files : List FileRow) → not (misses files []) ≡ list_all is_optional files
nothing_misses [] = refl
nothing_misses (file ∷ files) = go (is_optional file) (nothing_misses files)
  where
    go : (b : Bool) → not (misses files []) ≡ list_all is_optional files → not ((not b && true) || misses files []) ≡ (b && list_all is_optional files)
    go true more = more
    go false more = refl

-- a pair that belongs to no file changes nothing for files
misses_past : (files : List FileRow) (pair : Pair) (pairs : List Pair) → Each (λ file. bytes_eq pair.0 file.label ≡ false) files → misses files (pair ∷ pairs) ≡ misses files pairs
misses_past files pair pairs differ =
    any_alike (λ file. not (is_optional file) && not (taken file.label (pair ∷ pairs))) (λ file. not (is_optional file) && not (taken file.label pairs)) files
    (each_with (λ file. bytes_eq pair.0 file.label ≡ false) (λ file. bytes_eq pair.0 file.label ≡ false)
    (λ file. (not (is_optional file) && not (taken file.label (pair ∷ pairs))) ≡ (not (is_optional file) && not (taken file.label pairs))) files
    (λ file differs _. rw differs refl) differ differ)

module _ (names : List Text) where
  -- an option's pair, before the pairs after it, belongs to no file
  misses_option : (files : List FileRow) (option value : Text) (pairs : List Pair) → are_distinct (map (λ file. file.label) files ++ names) ≡ true
      → list_any (λ name. bytes_eq (dashed name) option) names ≡ true → misses files (named_pair (undashed option) value pairs) ≡ misses files pairs
  misses_option files option value pairs distinct among = go option (optional option) among
    where
      go : (option : Text) → Optional option → list_any (λ name. bytes_eq (dashed name) option) names ≡ true → misses files (named_pair (undashed option) value pairs) ≡ misses files pairs
      go _ (written name) among = misses_past files (name, value) pairs (apart files names files name distinct among)
      go _ (other option none unlike) among = rw none refl

  -- what clap takes, with nothing missing, are files that fit and options that the command has
  fits : (items : List Item) (files : List FileRow) → are_distinct (map (λ file. file.label) files ++ names) ≡ true
      → (takes files names items && not (misses files (pairs_of files items))) ≡ (have_only names items && fit files (files_of items))
  fits [] files distinct = nothing_misses files
  fits (Bare option ∷ items) files distinct = refl
  fits (File name ∷ items) [] distinct = last (have_only names items)
    where
      last : (b : Bool) → false ≡ (b && false)
      last true = refl
      last false = refl
  fits (File name ∷ items) (file ∷ files) distinct =
      let parts = distinct_parts file.label (map (λ file. file.label) files ++ names) distinct in
      let others = each_append (λ text. bytes_eq file.label text ≡ false) (map (λ file. file.label) files) names parts.0 in
      let rest = misses_past files (file.label, name) (pairs_of files items) (each_mapped (λ text. bytes_eq file.label text ≡ false) (λ file. file.label) files others.0) in
      rw (same_text file.label) (ap (λ b. takes files names items && not b) (first (is_optional file) _ ∙ rest) ∙ fits items files parts.1)
    where
      first : (b c : Bool) → ((not b && false) || c) ≡ c
      first true c = refl
      first false c = refl
  fits (Given option value ∷ items) files distinct = go (list_any (λ name. bytes_eq (dashed name) option) names) refl (fits items files distinct)
    where
      go : (b : Bool) → list_any (λ name. bytes_eq (dashed name) option) names ≡ b
          → (takes files names items && not (misses files (pairs_of files items))) ≡ (have_only names items && fit files (files_of items))
          → ((b && takes files names items) && not (misses files (named_pair (undashed option) value (pairs_of files items)))) ≡ ((b && have_only names items) && fit files (files_of items))
      go false e more = refl
      go true e more = ap (λ m. takes files names items && not m) (misses_option files option value (pairs_of files items) distinct e) ∙ more

-- ---- the line

-- a row that belongs to no file changes nothing for files
names_past : (files : List FileRow) (pair : Pair) (pairs : List Pair) → Each (λ file. bytes_eq pair.0 file.label ≡ false) files
    → names_in files (rows_of (pair ∷ pairs)) ≡ names_in files (rows_of pairs)
names_past files pair pairs differ =
    found_alike (λ file. first_of file.label (rows_of (pair ∷ pairs))) (λ file. first_of file.label (rows_of pairs)) files
    (each_with (λ file. bytes_eq pair.0 file.label ≡ false) (λ file. bytes_eq pair.0 file.label ≡ false)
    (λ file. first_of file.label (rows_of (pair ∷ pairs)) ≡ first_of file.label (rows_of pairs)) files (λ file differs _. rw differs refl) differ differ)

no_names : (files : List FileRow) → names_in files [] ≡ []
no_names [] = refl
no_names (file ∷ files) = no_names files

module _ (names : List Text) where
  names_option : (files : List FileRow) (option value : Text) (pairs : List Pair) → are_distinct (map (λ file. file.label) files ++ names) ≡ true
      → list_any (λ name. bytes_eq (dashed name) option) names ≡ true → names_in files (rows_of (named_pair (undashed option) value pairs)) ≡ names_in files (rows_of pairs)
  names_option files option value pairs distinct among = go option (optional option) among
    where
      go : (option : Text) → Optional option → list_any (λ name. bytes_eq (dashed name) option) names ≡ true
          → names_in files (rows_of (named_pair (undashed option) value pairs)) ≡ names_in files (rows_of pairs)
      go _ (written name) among = names_past files (name, value) pairs (apart files names files name distinct among)
      go _ (other option none unlike) among = rw none refl

  -- the rows of the files have the file names
  names_are : (items : List Item) (files : List FileRow) → are_distinct (map (λ file. file.label) files ++ names) ≡ true → takes files names items ≡ true
      → names_in files (rows_of (pairs_of files items)) ≡ files_of items
  names_are [] files distinct all = no_names files
  names_are (Bare option ∷ items) files distinct all = absurd (true≢false (sym all))
  names_are (File name ∷ items) [] distinct all = absurd (true≢false (sym all))
  names_are (File name ∷ items) (file ∷ files) distinct all =
      let parts = distinct_parts file.label (map (λ file. file.label) files ++ names) distinct in
      let others = each_append (λ text. bytes_eq file.label text ≡ false) (map (λ file. file.label) files) names parts.0 in
      rw (same_text file.label) (ap (λ rest. name ∷ rest)
      (names_past files (file.label, name) (pairs_of files items) (each_mapped (λ text. bytes_eq file.label text ≡ false) (λ file. file.label) files others.0)
      ∙ names_are items files parts.1 all))
  names_are (Given option value ∷ items) files distinct all =
      let both = and_parts (list_any (λ name. bytes_eq (dashed name) option) names) (takes files names items) all in
      names_option files option value (pairs_of files items) distinct both.0 ∙ names_are items files distinct both.1

  -- the row of an option has its first value
  value_is : (name : Text) (items : List Item) (files : List FileRow) → Each (λ file. bytes_eq file.label name ≡ false) files → takes files names items ≡ true
      → first_of name (rows_of (pairs_of files items)) ≡ slice_get (values_of name items) 0
  value_is name [] files differ all = refl
  value_is name (Bare option ∷ items) files differ all = absurd (true≢false (sym all))
  value_is name (File file ∷ items) [] differ all = absurd (true≢false (sym all))
  value_is name (File value ∷ items) (file ∷ files) differ all = rw differ.0 (value_is name items files differ.1 all)
  value_is name (Given option value ∷ items) files differ all =
      let both = and_parts (list_any (λ name. bytes_eq (dashed name) option) names) (takes files names items) all in
      go option (optional option) (value_is name items files differ both.1)
    where
      go : (option : Text) → Optional option → first_of name (rows_of (pairs_of files items)) ≡ slice_get (values_of name items) 0
          → first_of name (rows_of (named_pair (undashed option) value (pairs_of files items))) ≡ slice_get (values_of name (Given option value ∷ items)) 0
      go _ (written known) more = met (bytes_eq known name) refl
        where
          met : (b : Bool) → bytes_eq known name ≡ b → first_of name (rows_of ((known, value) ∷ pairs_of files items)) ≡ slice_get (values_of name (Given (dashed known) value ∷ items)) 0
          met true e = rw e refl
          met false e = rw e more
      go _ (other option none unlike) more =
          let unlike_option : bytes_eq option (dashed name) ≡ false = other_way (dashed name) option (unlike name) in
          rw (none, unlike_option) more

-- no option has the name of a file
apart_each : (files : List FileRow) (names : List Text) → are_distinct (map (λ file. file.label) files ++ names) ≡ true → Each (λ name. Each (λ file. bytes_eq file.label name ≡ false) files) names
apart_each [] names distinct = all names
  where
    all : (names : List Text) → Each (λ name. Unit {0}) names
    all [] = tt
    all (name ∷ names) = (tt, all names)
apart_each (file ∷ files) names distinct =
    let parts = distinct_parts file.label (map (λ file. file.label) files ++ names) distinct in
    let others = each_append (λ text. bytes_eq file.label text ≡ false) (map (λ file. file.label) files) names parts.0 in
    each_with (λ name. bytes_eq file.label name ≡ false) (λ name. Each (λ file. bytes_eq file.label name ≡ false) files) (λ name. Each (λ file. bytes_eq file.label name ≡ false) (file ∷ files)) names
    (λ name differs more. (differs, more)) others.1 (apart_each files names parts.1)

line_is : (row : CommandRow) (items : List Item) → are_distinct (labels_of row ++ option_names row) ≡ true → takes row.files (option_names row) items ≡ true
    → line_in row (rows_of (pairs_of row.files items)) ≡ line_by row items
line_is row items distinct all =
    let rows = rows_of (pairs_of row.files items) in
    let names = option_names row in
    let apart_options = each_mapped (λ name. Each (λ file. bytes_eq file.label name ≡ false) row.files) (λ option. option.name) row.options (apart_each row.files names distinct) in
    let given : given_in row.options rows ≡ filter_map (given_by items) row.options =
    found_alike (λ option. option_map (λ value. (option.name, value)) (first_of option.name rows)) (given_by items) row.options
    (each_with (λ option. Each (λ file. bytes_eq file.label option.name ≡ false) row.files) (λ option. Each (λ file. bytes_eq file.label option.name ≡ false) row.files)
    (λ option. option_map (λ value. (option.name, value)) (first_of option.name rows) ≡ given_by items option) row.options
    (λ option differ _. ap (λ v. option_map (λ value. (option.name, value)) v) (value_is names option.name items row.files differ all)) apart_options apart_options) in
    ap₂ (λ files given. record { files = files; given = given }) (names_are names items row.files distinct all) given

-- ---- both

-- an answer, if three tests pass
none_where : {X : Type 0} (h o f : Bool) (x : Option X) → false ≡ (h && f) → (if h && o && f then x else None) ≡ None
none_where false o f x fails = refl
none_where true false f x fails = refl
none_where true true f x fails = rw (← fails) refl

none_at : {X : Type 0} (h f : Bool) (x : Option X) → (if h && false && f then x else None) ≡ None
none_at false f x = refl
none_at true f x = refl

-- the line, if items are the command's
cut : (row : CommandRow) (items : List Item) → are_distinct (labels_of row ++ option_names row) ≡ true
    → option_map (line_in row) (option_and_then (complete (rules_by row)) (run (rules_by row) (Some []) 1 items)) ≡ (if is_cut row items then Some (line_by row items) else None)
cut row items distinct =
    rw (run_is row.files (option_names row) items distinct)
    (go (takes row.files (option_names row) items) refl (list_all (comes_once items) (option_names row)) (misses row.files (pairs_of row.files items))
    (lacks_is 1 row.files (option_names row) (pairs_of row.files items)) (have_only (option_names row) items) (fit row.files (files_of items))
    (fits (option_names row) items row.files distinct))
  where
    go : (t : Bool) → takes row.files (option_names row) items ≡ t → (o m : Bool) → lacks (rules_by row) (rows_of (pairs_of row.files items)) ≡ m → (h f : Bool) → (t && not m) ≡ (h && f)
        → option_map (line_in row) (option_and_then (complete (rules_by row)) (if t && o then Some (rows_of (pairs_of row.files items)) else None)) ≡ (if h && o && f then Some (line_by row items) else None)
    go false e o m missing h f same = sym (none_where h o f (Some (line_by row items)) same)
    go true e false m missing h f same = sym (none_at h f (Some (line_by row items)))
    go true e true true missing h f same = rw missing (sym (none_where h true f (Some (line_by row items)) same))
    go true e true false missing h f same =
        let parts = and_parts h f (sym same) in
        rw (missing, parts.0, parts.1) (ap (λ line. Some line) (line_is row items distinct e))

-- clap's rows hold the line that the words say, if they say one
pub cut_is : (row : CommandRow) → is_row row ≡ true → (words : List Text) → Each IsText words
    → option_map (line_in row) (clap_rows (app_by row) words) ≡ (if is_cut row (items_of words) then Some (line_by row (items_of words)) else None)
cut_is row is words texts = ap (option_map (line_in row)) (rows_are row is words texts) ∙ cut row (items_of words) (row_is_distinct row is)

-- ---- the answer

-- if clap takes no words, they say no line
pub refused : (row : CommandRow) (items : List Item) → None ≡ (if is_cut row items then Some (line_by row items) else None) → None ≡ line_of row items
refused row items none = go (is_cut row items) (row_allows row (line_by row items)) none
  where
    go : (b d : Bool) → None ≡ (if b then Some (line_by row items) else None) → None ≡ (if b && d then Some (line_by row items) else None)
    go true d h = cc
    go false d h = refl

-- if it does, they say one, if the row allows it
pub answered : (row : CommandRow) (items : List Item) (line : Line) → Some line ≡ (if is_cut row items then Some (line_by row items) else None)
    → (if row_allows row line then Some line else None) ≡ line_of row items
answered row items line some = go (is_cut row items) some
  where
    go : (b : Bool) → Some line ≡ (if b then Some (line_by row items) else None)
        → (if row_allows row line then Some line else None) ≡ (if b && row_allows row (line_by row items) then Some (line_by row items) else None)
    go true h =
        let same : line ≡ line_by row items = cc in
        rw same refl
    go false h = cc
