-- What clap makes of the words of a command that takes files and options with one value: a run over their items, after
-- which nothing required is missing.
use Rattle.std.proofs.Common.{◌≡◌, ◌∙◌, ◌&&◌, Bool, cond, true, false, not, refl, ap, ap₂, List, [], ◌∷◌, Option, Some, None}
use Rattle.std.specs.List.{fold, list_any}
use Rattle.std.specs.Prelude.{if◌then◌else◌, option_and_then}
use Rattle.std.proofs.Math.Bool.{or-true}
use Rattle.clap.specs.Kinds.{Kinds, or_else}
use Rattle.clap.specs.Walk.{Row, Rule, Text, has_row, nothing_held, rows_after, settled, walk, walk_from, with_default}
use Rattle.clap.specs.Faults.{default_fault, defaults_fault, level_fault, settle_fault, walk_fault}
use Rattle.clap.specs.Takes.{is_given}
use Rattle.clap.specs.declared.error.kind.ErrorKind.TheVariants.{MissingRequiredArgument}
use Rattle.command_words.specs.private.Clapped.{after}
use Rattle.command_words.specs.Items.{items_of}
use Rattle.command_words.proofs.Arguments.{Each, IsOne, leaf, run}
use Rattle.command_words.proofs.WordShapes.{IsText}
use Rattle.command_words.proofs.ClapWalk.{walk_is}

-- a required argument has no row
abbrev pub lacks : List Rule → List Row → Bool
lacks rules rows = list_any (λ rule. rule.required && not (is_given rule.id rows)) rules

-- the rows, if what is required is there
abbrev pub complete : List Rule → List Row → Option (List Row)
complete rules rows = if lacks rules rows then None else Some rows

-- ---- no argument has a default

same_rows : (b : Bool) (rows : List Row) → cond b rows rows ≡ rows
same_rows true rows = refl
same_rows false rows = refl

no_default : (rules : List Rule) (a : Rule) → IsOne rules a → (rows : List Row) → with_default rows a ≡ rows
no_default rules a one rows = rw one.defaults (same_rows (has_row a.id rows) rows)

no_default_fault : (rules : List Rule) (a : Rule) → IsOne rules a → (rows : List Row) → default_fault rows a ≡ []
no_default_fault rules a one rows = rw (one.defaults, or-true (has_row a.id rows)) refl

no_defaults : (rules xs : List Rule) (rows : List Row) → Each (IsOne rules) xs → fold with_default rows xs ≡ rows
no_defaults rules [] rows each = refl
no_defaults rules (a ∷ xs) rows each = ap (λ r. fold with_default r xs) (no_default rules a each.0 rows) ∙ no_defaults rules xs rows each.1

no_defaults_fault : (rules xs : List Rule) (rows : List Row) → Each (IsOne rules) xs → defaults_fault rows xs ≡ []
unfolding defaults_fault
no_defaults_fault rules [] rows each = refl
no_defaults_fault rules (a ∷ xs) rows each =
    ap₂ (λ k r. or_else k (defaults_fault r xs)) (no_default_fault rules a each.0 rows) (no_default rules a each.0 rows) ∙ no_defaults_fault rules xs rows each.1

-- ---- the steps of a parse, in turn

in_turn : (rules : List Rule) (walked settled defaulted : Kinds) (rows ended : List Row) → defaulted ≡ [] → ended ≡ rows
    → after (or_else walked (or_else settled (or_else defaulted (if lacks rules ended then MissingRequiredArgument ∷ [] else [])))) (Some ended)
    ≡ option_and_then (complete rules) (after walked (after settled (Some rows)))
in_turn rules (k ∷ ks) settled defaulted rows ended none same = refl
in_turn rules [] (k ∷ ks) defaulted rows ended none same = refl
in_turn rules [] [] defaulted rows ended none same = rw (none, same) (go (lacks rules rows))
  where
    go : (b : Bool) → after (if b then MissingRequiredArgument ∷ [] else []) (Some rows) ≡ (if b then None else Some rows)
    go true = refl
    go false = refl

pub level_is : (rules : List Rule) (command : Text) → Each (IsOne rules) rules → (words : List Text) → Each IsText words
    → after (level_fault (leaf command rules) [] nothing_held words false []) (Some (rows_after rules [] words))
    ≡ option_and_then (complete rules) (run rules (Some []) 1 (items_of words))
level_is rules command each words texts =
    let ending = (walk rules [] nothing_held words).held in
    in_turn rules (walk_fault (leaf command rules) [] (walk_from nothing_held) words) (settle_fault rules false ending) (defaults_fault (settled rules ending).rows rules)
    (settled rules ending).rows (rows_after rules [] words)
    (no_defaults_fault rules rules (settled rules ending).rows each) (no_defaults rules rules (settled rules ending).rows each)
    ∙ ap (option_and_then (complete rules)) (walk_is rules command each words texts)
