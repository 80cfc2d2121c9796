use Rattle.std.proofs.Common.{◌≡◌, ◌∙◌, ap, sym, List, option_map, Option, Some, None, true}
use Rattle.std.specs.Prelude.{String, if◌then◌else◌}
use Rattle.std.specs.declared.alloc.Global.{Global}
use Rattle.clap.specs.declared.parser.matches.ArgMatches.{ArgMatches}
use Rattle.command_words.specs.private.Clapped.{app_by, clap_rows, line_in, rows_in}
use Rattle.command_words.specs.Items.{items_of, texts}
use Rattle.command_words.specs.Lines.{is_cut, line_by}
use Rattle.command_words.specs.Rows.{CommandRow}
use Rattle.command_words.specs.private.Allowed.{is_row}
use Rattle.command_words.specs.private.CodeViews.{line_view, row_view}
use Rattle.command_words.proofs.ReadWords.{answered, cut_is, refused}
use Rattle.command_words.proofs.ClapMatches.{words_are_text}
use Rattle.command_words.proofs.cutting.cut_line.Goals as goal

-- what is found is the line of the definition, except for what the row allows
found_is : (row : CommandRow) → is_row row ≡ true → (words : List (String Global)) → (found now : Option ArgMatches)
    → option_map rows_in found ≡ clap_rows (app_by row) (texts words) → found ≡ now
    → option_map (line_in row) (option_map rows_in now) ≡ (if is_cut row (items_of (texts words)) then Some (line_by row (items_of (texts words))) else None)
found_is row is words found now rows same =
    ap (λ f. option_map (line_in row) (option_map rows_in f)) (sym same)
    ∙ ap (option_map (line_in row)) rows ∙ cut_is row is (texts words) (words_are_text words)

pub returns-in_default : goal.returns-in_default
returns-in_default c =
    refused (row_view c.args.row.now) (items_of (texts c.args.words.now))
    (found_is (row_view c.args.row.now) c.requires c.args.words.now _ None c.in_ok-matches.ensures c.in_default.is)

pub returns : goal.returns
returns c =
    let row = row_view c.args.row.now in
    let found = found_is row c.requires c.args.words.now _ (Some c.in-Some.matches) c.in_ok-matches.ensures c.in-Some.is in
    c.if_allowed.ensures ∙ answered row (items_of (texts c.args.words.now)) (line_view c.in_ok-line.line) (ap (λ line. Some line) c.in_ok-line.ensures ∙ found)
