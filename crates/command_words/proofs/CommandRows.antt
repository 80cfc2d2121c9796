-- The row of a command that a word names.
use Rattle.std.proofs.Common.{◌≡◌, Bool, cond, true, false, refl, List, [], ◌∷◌, map, find, option_map, Some, IfSome}
use Rattle.std.specs.List.{list_all}
use Rattle.std.specs.Str.{bytes_eq}
use Rattle.clap.specs.Walk.{Text}
use Rattle.command_words.specs.declared.rows.CommandRow as code
use Rattle.command_words.specs.private.Allowed.{is_row}
use Rattle.command_words.specs.private.CodeViews.{row_view}
use Rattle.command_words.proofs.Texts.{and_parts}

-- the row of the code is that of the definitions
pub found_viewed : (word : Text) (rows : List code.CommandRow)
    → option_map row_view (find (λ row. bytes_eq word row.word.now) rows) ≡ find (λ row. bytes_eq word row.word) (map row_view rows)
found_viewed word [] = refl
found_viewed word (row ∷ rows) = go (bytes_eq word row.word.now) (found_viewed word rows)
  where
    go : (b : Bool) → option_map row_view (find (λ row. bytes_eq word row.word.now) rows) ≡ find (λ row. bytes_eq word row.word) (map row_view rows)
        → option_map row_view (cond b (Some row) (find (λ row. bytes_eq word row.word.now) rows))
        ≡ cond b (Some (row_view row)) (find (λ row. bytes_eq word row.word) (map row_view rows))
    go true more = refl
    go false more = more

-- if each row may be in a table, so may the one that is found
pub found_allowed : (word : Text) (rows : List code.CommandRow) → list_all is_row (map row_view rows) ≡ true
    → IfSome (find (λ row. bytes_eq word row.word.now) rows) (λ row. is_row (row_view row) ≡ true)
found_allowed word [] all = tt
found_allowed word (row ∷ rows) all =
    let parts = and_parts (is_row (row_view row)) (list_all is_row (map row_view rows)) all in
    go (bytes_eq word row.word.now) parts.0 (found_allowed word rows parts.1)
  where
    Is : code.CommandRow → Type 0
    Is row = is_row (row_view row) ≡ true

    go : (b : Bool) → Is row → IfSome (find (λ row. bytes_eq word row.word.now) rows) Is
        → IfSome (cond b (Some row) (find (λ row. bytes_eq word row.word.now) rows)) Is
    go true is more = is
    go false is more = more
