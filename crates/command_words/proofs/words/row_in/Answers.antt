use Rattle.std.proofs.Common.{◌≡◌, ◌∙◌, ap, find, option_map, rules, subst, sym, tests, true, IfSome, Option}
use Rattle.std.specs.Str.{bytes_eq}
use Rattle.std.proofs.lemmas.Iterator.{YieldsList-from_slice}
use Rattle.std.proofs.lemmas.Iterator.Search.{find_from_yields_List}
use Rattle.command_words.specs.declared.rows.CommandRow.{CommandRow}
use Rattle.command_words.specs.private.Allowed.{is_row}
use Rattle.command_words.specs.private.CodeViews.{row_view}
use Rattle.command_words.proofs.CommandRows.{found_allowed, found_viewed}
use Rattle.command_words.proofs.words.row_in.Goals as goal

first : (c : goal.After-copied) → c.copied.result ≡ find (λ (row : CommandRow). bytes_eq c.args.word.now row.word.now) c.args.rows.now
first c =
    c.copied.ensures
    ∙ find_from_yields_List (λ (row : CommandRow). bytes_eq c.args.word.now row.word.now) _ _ _ c.find.ensures.ran (YieldsList-from_slice c.args.rows.now cc) (λ x b q k. search (rules, tests))

pub returns-clause-found : goal.returns-clause-found
returns-clause-found c = ap (option_map row_view) (first c) ∙ found_viewed c.args.word.now c.args.rows.now

pub returns-clause-allowed : goal.returns-clause-allowed
returns-clause-allowed c = λ all.
    let Allowed : Option CommandRow → Type 0 = λ found. IfSome found (λ row. is_row (row_view row) ≡ true) in
    subst Allowed (sym (first c)) (found_allowed c.args.word.now c.args.rows.now all)
