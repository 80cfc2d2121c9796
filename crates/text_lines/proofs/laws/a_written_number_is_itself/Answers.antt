use Rattle.text_lines.proofs.WrittenLemmas.{number_long, number_short, number_word}
use Rattle.text_lines.proofs.laws.a_written_number_is_itself.Goals as goal

pub returns : goal.returns
returns c = record { word = number_word; long = number_long; short = number_short }
