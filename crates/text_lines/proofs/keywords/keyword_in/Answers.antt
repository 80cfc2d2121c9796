use Rattle.std.proofs.Common.{sym, ◌∙◌}
use Rattle.text_lines.proofs.KeywordLemmas.{find_map}
use Rattle.text_lines.proofs.keywords.keyword_in.Goals as goal

pub returns : goal.returns
returns g c = c.keyword_at.ensures ∙ sym (find_map c.args.word.now c.args.table.now)
