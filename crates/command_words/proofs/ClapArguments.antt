-- What clap makes of a row: its arguments, each file at its place and each option by its name.
use Rattle.std.proofs.Common.{◌≡◌, ◌∙◌, ◌+◌, ◌≤◌, ◌==◌, ℕ, Bool, true, false, cond, suc, refl, sym, ap, arith, min, List, [], ◌∷◌, ◌++◌, map, fold, length, Option, Some, None, nat_lt, append-nil, append_assoc, true≢false, is_some, count_by, inl, inr, ◌⊎◌}
use Rattle.std.specs.List.{list_all, list_any}
use Rattle.std.specs.Prelude.{if◌then◌else◌, option_and_then}
use Rattle.std.specs.Str.{bytes_eq}
use Rattle.std.proofs.lemmas.Bool.{lt-ltb, ne_eqb}
use Rattle.std.proofs.lemmas.Bool.Decides.{eqb_tells}
use Rattle.clap.specs.Lexer.{usize_max}
use Rattle.clap.specs.Faults.{is_simple_and_free}
use Rattle.clap.specs.Walk.{Rule, Text, arg_by_id, arg_by_index, arg_by_long, is_early_multiple, nothing_held, rows_after}
use Rattle.clap.specs.Simple.{App, filled, filled_from, with_index, with_rule, on_top}
use Rattle.clap.proofs.FaultLemmas.{leaf_fault}
use Rattle.command_words.specs.private.Clapped.{after, app_by, bare_app, clap_rows, file_rule, option_rule}
use Rattle.command_words.specs.Items.{items_of}
use Rattle.command_words.specs.Rows.{CommandRow, FileRow, OptionRow, option_names}
use Rattle.command_words.specs.private.Allowed.{are_distinct, is_row, labels_of}
use Rattle.command_words.proofs.Arguments.{Each, IsOne, leaf, run}
use Rattle.command_words.proofs.ClapCommand.{complete, level_is}
use Rattle.command_words.proofs.Texts.{and_parts, distinct_parts, each_mapped, each_with, equal_texts, same_text}
use Rattle.command_words.proofs.WordShapes.{IsText}

-- a file at its place, and an option, as clap builds them
abbrev pub built_file : ℕ → FileRow → Rule
built_file place file = with_index place (filled (file_rule file))

abbrev pub built_option : Text → Rule
built_option name = with_index 0 (filled (option_rule name))

-- the files from a place on, and the options
abbrev pub rules_from : ℕ → List FileRow → List Text → List Rule
rules_from place [] names = map built_option names
rules_from place (file ∷ files) names = built_file place file ∷ rules_from (suc place) files names

-- ---- building

filled_options : (place : ℕ) (names : List Text) → filled_from place (map option_rule names) ≡ map built_option names
filled_options place [] = refl
filled_options place (name ∷ names) = ap (λ rules. built_option name ∷ rules) (filled_options place names)

filled_is : (place : ℕ) (files : List FileRow) (names : List Text) → place + length files ≤ 1000
    → filled_from place (map file_rule files ++ map option_rule names) ≡ rules_from place files names
filled_is place [] names few = filled_options place names
filled_is place (file ∷ files) names few =
    let next : min (place + 1) usize_max ≡ suc place = omega arith in
    rw next (ap (λ rules. built_file place file ∷ rules) (filled_is (suc place) files names (omega arith)))

-- a command with more arguments
abbrev with_more : App → List Rule → App
with_more app rules = on_top (λ s. record s { rules = s.rules ++ rules }) app

with_rules : (app : App) (rules : List Rule) → fold with_rule app rules ≡ with_more app rules
with_rules app [] = ap (λ rules. on_top (λ s. record s { rules = rules }) app) (sym (append-nil app.top.rules))
with_rules app (rule ∷ rules) =
    with_rules (with_rule app rule) rules ∙ ap (λ rules. on_top (λ s. record s { rules = rules }) app) (append_assoc app.top.rules (rule ∷ []) rules)

-- the arguments of a row, as clap is asked for them and as it builds them
abbrev asked : CommandRow → List Rule
asked row = map file_rule row.files ++ map option_rule (option_names row)

abbrev pub rules_by : CommandRow → List Rule
rules_by row = rules_from 1 row.files (option_names row)

names_mapped : (options : List OptionRow) → map (λ option. option_rule option.name) options ≡ map option_rule (map (λ option. option.name) options)
names_mapped [] = refl
names_mapped (option ∷ options) = ap (λ rules. option_rule option.name ∷ rules) (names_mapped options)

app_is : (row : CommandRow) → app_by row ≡ with_more (bare_app row.word) (asked row)
app_is row =
    ap (λ rules. fold with_rule (fold with_rule (bare_app row.word) (map file_rule row.files)) rules) (names_mapped row.options)
    ∙ with_rules (fold with_rule (bare_app row.word) (map file_rule row.files)) (map option_rule (option_names row))
    ∙ ap (λ app. with_more app (map option_rule (option_names row))) (with_rules (bare_app row.word) (map file_rule row.files))

few_files : (row : CommandRow) → is_row row ≡ true → 1 + length row.files ≤ 1000
few_files row is = go (nat_lt (length row.files) 100) refl (and_parts (are_distinct (labels_of row ++ option_names row)) (nat_lt (length row.files) 100) is).1
  where
    go : (b : Bool) → nat_lt (length row.files) 100 ≡ b → b ≡ true → 1 + length row.files ≤ 1000
    go b e h =
        let few : nat_lt (length row.files) 100 ≡ true = e ∙ h in
        grind (arith)

-- ---- looking an argument up

-- the file at this place, if there is one
abbrev pub first_built : ℕ → List FileRow → Option Rule
first_built place [] = None
first_built place (file ∷ files) = Some (built_file place file)

no_place : (names : List Text) (place : ℕ) → arg_by_index (map built_option names) place ≡ None
no_place [] place = refl
no_place (name ∷ names) place = no_place names place

-- after these files comes the next one, at the next place
pub at_place : (from : ℕ) (before files : List FileRow) (names : List Text) (place : ℕ) → length before + from ≡ place
    → arg_by_index (rules_from from (before ++ files) names) place ≡ first_built place files
at_place from [] [] names place here = no_place names place
at_place from [] (file ∷ files) names place here =
    let same : from ≡ place = omega arith in
    rw same (go (place == place) (eqb_tells place place))
  where
    go : (b : Bool) → ((b ≡ true) × (place ≡ place)) ⊎ ((b ≡ false) × (place ≡ place → ⊥))
        → cond b (Some (built_file place file)) (arg_by_index (rules_from (suc place) files names) place) ≡ Some (built_file place file)
    go true told = refl
    go false told = elim told [ inl h ↦ absurd (true≢false (sym h.0)) | inr h ↦ absurd (h.1 refl) ]
at_place from (first ∷ before) files names place here =
    let other : (from == place) ≡ false = ne_eqb from place (λ same. omega arith) in
    rw other (at_place (suc from) before files names place (omega arith))

-- an option is found by its name
abbrev pub option_named : Text → List Text → Option Rule
option_named name names = if list_any (λ n. bytes_eq n name) names then Some (built_option name) else None

pub long_is : (place : ℕ) (files : List FileRow) (names : List Text) (name : Text) → arg_by_long (rules_from place files names) name ≡ option_named name names
long_is place (file ∷ files) names name = long_is (suc place) files names name
long_is place [] [] name = refl
long_is place [] (n ∷ names) name = go (bytes_eq n name) refl (long_is place [] names name)
  where
    go : (b : Bool) → bytes_eq n name ≡ b → arg_by_long (map built_option names) name ≡ option_named name names
        → arg_by_long (map built_option (n ∷ names)) name ≡ option_named name (n ∷ names)
    go true e more =
        let same : n ≡ name = equal_texts n name e in
        rw (e, same) refl
    go false e more = rw e more

-- ---- each argument takes one value

ids_of_options : (names : List Text) → map (λ rule. rule.id) (map built_option names) ≡ names
ids_of_options [] = refl
ids_of_options (name ∷ names) = ap (λ ids. name ∷ ids) (ids_of_options names)

ids_are : (place : ℕ) (files : List FileRow) (names : List Text) → map (λ rule. rule.id) (rules_from place files names) ≡ map (λ file. file.label) files ++ names
ids_are place [] names = ids_of_options names
ids_are place (file ∷ files) names = ap (λ ids. file.label ∷ ids) (ids_are (suc place) files names)

-- if ids differ, each finds its own argument
each_only : (rules : List Rule) → are_distinct (map (λ rule. rule.id) rules) ≡ true → Each (λ rule. arg_by_id rules rule.id ≡ Some rule) rules
each_only [] distinct = tt
each_only (rule ∷ rules) distinct =
    let parts = distinct_parts rule.id (map (λ rule. rule.id) rules) distinct in (
      rw (same_text rule.id) refl,
      each_with (λ other. bytes_eq rule.id other.id ≡ false) (λ other. arg_by_id rules other.id ≡ Some other) (λ other. arg_by_id (rule ∷ rules) other.id ≡ Some other) rules
          (λ other differ found. rw differ found)
          (each_mapped (λ id. bytes_eq rule.id id ≡ false) (λ rule. rule.id) rules parts.0)
          (each_only rules parts.1),
    )

-- the rest of what lets an argument take one value
abbrev IsMade : Rule → Type 0
IsMade rule = (rules : List Rule) → arg_by_id rules rule.id ≡ Some rule → IsOne rules rule

options_made : (names : List Text) → Each IsMade (map built_option names)
options_made [] = tt
options_made (name ∷ names) = (
  λ rules found. record { only = found; range = refl; action = refl; text = refl; trailing = refl; short = refl; short_aliases = refl; defaults = refl; near = refl },
  options_made names,
)

all_made : (place : ℕ) (files : List FileRow) (names : List Text) → place + length files ≤ 1000 → Each IsMade (rules_from place files names)
all_made place [] names few = options_made names
all_made place (file ∷ files) names few = (
  λ rules found. record { only = found; range = refl; action = refl; text = refl; trailing = refl; short = refl; short_aliases = refl; defaults = refl; near = lt-ltb place 1000 (omega arith) },
  all_made (suc place) files names (omega arith),
)

pub row_is_distinct : (row : CommandRow) → is_row row ≡ true → are_distinct (labels_of row ++ option_names row) ≡ true
row_is_distinct row is = (and_parts (are_distinct (labels_of row ++ option_names row)) (nat_lt (length row.files) 100) is).0

pub each_one : (row : CommandRow) → is_row row ≡ true → Each (IsOne (rules_by row)) (rules_by row)
each_one row is =
    let rules = rules_by row in
    let distinct : are_distinct (map (λ rule. rule.id) rules) ≡ true =
    ap are_distinct (ids_are 1 row.files (option_names row)) ∙ row_is_distinct row is in
    each_with IsMade (λ rule. arg_by_id rules rule.id ≡ Some rule) (IsOne rules) rules (λ rule made found. made rules found)
    (all_made 1 row.files (option_names row) (few_files row is)) (each_only rules distinct)

-- ---- the command is simple to clap

-- each argument of a row is asked for in a simple way
asked_is_simple : (files : List FileRow) (names : List Text) → list_all (λ a. a.is_simple) (map file_rule files ++ map option_rule names) ≡ true
asked_is_simple [] [] = refl
asked_is_simple [] (name ∷ names) = asked_is_simple [] names
asked_is_simple (file ∷ files) names = asked_is_simple files names

rules_are_simple : (place : ℕ) (files : List FileRow) (names : List Text) → list_all (λ a. a.is_simple) (rules_from place files names) ≡ true
rules_are_simple place [] [] = refl
rules_are_simple place [] (name ∷ names) = rules_are_simple place [] names
rules_are_simple place (file ∷ files) names = rules_are_simple (suc place) files names

rules_are_free : (place : ℕ) (files : List FileRow) (names : List Text) → list_all (λ a. a.is_free) (rules_from place files names) ≡ true
rules_are_free place [] [] = refl
rules_are_free place [] (name ∷ names) = rules_are_free place [] names
rules_are_free place (file ∷ files) names = rules_are_free (suc place) files names

none_is_early : (count place : ℕ) (files : List FileRow) (names : List Text) → list_any (is_early_multiple count) (rules_from place files names) ≡ false
none_is_early count place [] [] = refl
none_is_early count place [] (name ∷ names) = none_is_early count place [] names
none_is_early count place (file ∷ files) names = none_is_early count (suc place) files names

-- the tests of clap; the command passes them if its arguments do
passes : (word : Text) (asked filled : List Rule) (count : ℕ) → list_all (λ a. a.is_simple) asked ≡ true → list_all (λ a. a.is_simple) filled ≡ true
    → list_any (is_early_multiple (count_by (λ a. is_some a.index) filled)) filled ≡ false → list_all (λ a. a.is_free) filled ≡ true
    → filled_from 1 asked ≡ filled → is_simple_and_free (with_more (bare_app word) asked) ≡ true
passes word asked filled count simple built_simple early free is = rw (simple, is, built_simple, early, free) refl

pub row_is_simple : (row : CommandRow) → is_row row ≡ true → is_simple_and_free (app_by row) ≡ true
row_is_simple row is =
    ap is_simple_and_free (app_is row)
    ∙ passes row.word (asked row) (rules_by row) 0 (asked_is_simple row.files (option_names row)) (rules_are_simple 1 row.files (option_names row))
    (none_is_early _ 1 row.files (option_names row)) (rules_are_free 1 row.files (option_names row))
    (filled_is 1 row.files (option_names row) (few_files row is))

-- ---- what it makes of words

rows_by : (word : Text) (asked filled : List Rule) → filled_from 1 asked ≡ filled → Each (IsOne filled) filled → (words : List Text) → Each IsText words
    → clap_rows (with_more (bare_app word) asked) words ≡ option_and_then (complete filled) (run filled (Some []) 1 (items_of words))
rows_by word asked filled is each words texts =
    rw is (ap (λ faults. after faults (Some (rows_after filled [] words))) (leaf_fault (record { top = leaf word filled; subs = [] }) nothing_held words refl)
    ∙ level_is filled word each words texts)

-- clap's rows are a run over the items that the words say, after which nothing is missing
pub rows_are : (row : CommandRow) → is_row row ≡ true → (words : List Text) → Each IsText words
    → clap_rows (app_by row) words ≡ option_and_then (complete (rules_by row)) (run (rules_by row) (Some []) 1 (items_of words))
rows_are row is words texts =
    ap (λ app. clap_rows app words) (app_is row)
    ∙ rows_by row.word (asked row) (rules_by row) (filled_is 1 row.files (option_names row) (few_files row is)) (each_one row is) words texts
