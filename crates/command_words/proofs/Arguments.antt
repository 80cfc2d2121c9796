-- What items do to the arguments of a command of clap that takes files, and options with one value.
use Rattle.std.proofs.Common.{◌≡◌, ◌∙◌, ℕ, Bool, cond, true, false, suc, refl, ap, List, [], ◌∷◌, ◌++◌, Option, Some, None, append-nil, true≢false, nat_lt}
use Rattle.std.specs.List.{find}
use Rattle.std.specs.Option.{option_map_or, option_and_then}
use Rattle.std.specs.Prelude.{if◌then◌else◌, ◌||◌}
use Rattle.std.specs.Str.{bytes_eq}
use Rattle.clap.specs.Lexer.{strip_byte}
use Rattle.clap.specs.Kinds.{Kinds, or_else}
use Rattle.clap.specs.Walk.{Row, Rule, Text, arg_by_id, arg_by_index, arg_by_long, at_row, has_row, more_values, reading_by, used, without}
use Rattle.clap.specs.Faults.{repeat_fault, use_fault}
use Rattle.clap.specs.Simple.{Shape, new_shape}
use Rattle.clap.specs.declared.builder.action.ArgAction.TheVariants.{Set}
use Rattle.clap.specs.declared.builder.value_parser.ValueParser.TheVariants as parser
use Rattle.clap.specs.declared.parser.matches.ValueSource.TheVariants.{CommandLine}
use Rattle.command_words.specs.private.Clapped.{after}
use Rattle.command_words.specs.Items.{Item, File, Given, Bare}

-- a command with these arguments, as clap builds it: it has no help, no version and no subcommand
abbrev pub leaf : Text → List Rule → Shape
leaf word rules = record (new_shape word) {
  rules = rules;
  no_binary_name = true;
  disable_help_flag = true;
  disable_help_subcommand = true;
  disable_version_flag = true;
  is_built = true;
}

-- An argument, as clap builds it, that takes one value, once. No other has its id. It has no short name and no default.
pub record IsOne (rules : List Rule) (rule : Rule) : Type 0 where
  pub only : arg_by_id rules rule.id ≡ Some rule
  pub range : rule.range ≡ Some (record { start_inclusive = 1; end_inclusive = 1 })
  pub action : rule.action ≡ Some Set
  pub text : rule.parser ≡ Some parser.String
  pub trailing : rule.trailing_var_arg ≡ false
  pub short : rule.short ≡ None
  pub short_aliases : rule.short_aliases ≡ []
  pub defaults : rule.defaults ≡ []
  pub near : option_map_or (λ place. nat_lt place 1000) rule.index true ≡ true

-- this holds of each
abbrev pub Each : {X : Type 0} → (X → Type 0) → List X → Type 0
Each P [] = Unit {0}
Each P (x ∷ xs) = P x × Each P xs

-- so it holds of the first that passes a test
pub found_each : {X : Type 0} (P : X → Type 0) (p : X → Bool) (xs : List X) (x : X) → Each P xs → find p xs ≡ Some x → P x × (p x ≡ true)
found_each P p [] x each found = cc
found_each P p (y ∷ ys) x each found = go (p y) refl found (λ h. found_each P p ys x each.1 h)
  where
    go : (b : Bool) → p y ≡ b → cond b (Some y) (find p ys) ≡ Some x → (find p ys ≡ Some x → P x × (p x ≡ true)) → P x × (p x ≡ true)
    go true e h more =
        let same : y ≡ x = cc in
        rw (← same) (each.0, e)
    go false e h more = more h

-- ---- outcomes

pub after_else : {X : Type 0} (first second : Kinds) (outcome : Option X) → after (or_else first second) outcome ≡ after first (after second outcome)
after_else [] second outcome = refl
after_else (kind ∷ kinds) second outcome = refl

-- ---- one use of an argument

-- the row of an argument that was used with this value
abbrev pub row_for : Rule → Text → Row
row_for rule value = record { id = rule.id; values = value ∷ []; count = None; source = Some CommandLine; reading = reading_by rule }

-- the rows after its use, or none if it was used before
abbrev pub used_one : Rule → Text → List Row → Option (List Row)
used_one rule value rows = if has_row rule.id rows then None else Some (rows ++ row_for rule value ∷ [])

-- a row that isn't there is added
absent : (id : Text) (change : Row → List Row) (missing rows : List Row) → has_row id rows ≡ false → at_row id change missing rows ≡ rows ++ missing
absent id change missing [] none = refl
absent id change missing (row ∷ rows) none = go (bytes_eq row.id id) none (absent id change missing rows)
  where
    go : (b : Bool) → (b || has_row id rows) ≡ false → (has_row id rows ≡ false → at_row id change missing rows ≡ rows ++ missing)
        → cond b (change row ++ rows) (row ∷ at_row id change missing rows) ≡ row ∷ (rows ++ missing)
    go true h more = absurd (true≢false h)
    go false h more = ap (λ rest. row ∷ rest) (more h)

use_at : (id : Text) (change : Row → List Row) (row : Row) (rows : List Row) (b : Bool) → has_row id rows ≡ b
    → after (or_else (repeat_fault false id rows) []) (Some (at_row id change (row ∷ []) (without id rows))) ≡ (if b then None else Some (rows ++ row ∷ []))
use_at id change row rows true has = rw has refl
use_at id change row rows false has =
    let same : without id rows ≡ rows = absent id (λ _. []) [] rows has ∙ append-nil rows in
    rw (same, has) (ap (λ found. Some found) (absent id change (row ∷ []) rows has))

-- what clap makes of one use with one value
pub use_is : (rules : List Rule) (rule : Rule) → IsOne rules rule → (value : Text) (rows : List Row)
    → after (use_fault false rule (value ∷ []) rows) (Some (used rule (value ∷ []) rows)) ≡ used_one rule value rows
use_is rules rule one value rows =
    rw (one.range, one.action, one.text) (use_at rule.id (more_values CommandLine (value ∷ [])) _ rows (has_row rule.id rows) refl)

-- ---- a run over items

-- the rows after a use of an argument, if there is one
abbrev pub used_by : Option Rule → Text → Option (List Row) → Option (List Row)
used_by None value rows = None
used_by (Some rule) value None = None
used_by (Some rule) value (Some rows) = used_one rule value rows

-- the argument of an option as written, with two dashes (45)
abbrev pub arg_by_option : List Rule → Text → Option Rule
arg_by_option rules option = option_and_then (arg_by_long rules) (option_and_then (strip_byte 45) (strip_byte 45 option))

-- the rows after items, from the rows before them and the place of the next file
abbrev pub run : List Rule → Option (List Row) → ℕ → List Item → Option (List Row)
run rules rows place [] = rows
run rules rows place (File name ∷ items) = run rules (used_by (arg_by_index rules place) name rows) (suc place) items
run rules rows place (Given option value ∷ items) = run rules (used_by (arg_by_option rules option) value rows) place items
run rules rows place (Bare option ∷ items) = None

used_none : (rule : Option Rule) (value : Text) → used_by rule value None ≡ None
used_none None value = refl
used_none (Some rule) value = refl

-- if one item failed, the run fails
pub run_none : (rules : List Rule) (place : ℕ) (items : List Item) → run rules None place items ≡ None
run_none rules place [] = refl
run_none rules place (File name ∷ items) = rw (used_none (arg_by_index rules place) name) (run_none rules (suc place) items)
run_none rules place (Given option value ∷ items) = rw (used_none (arg_by_option rules option) value) (run_none rules place items)
run_none rules place (Bare option ∷ items) = refl
