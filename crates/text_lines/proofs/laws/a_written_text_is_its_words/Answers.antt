use Rattle.text_lines.proofs.WrittenLemmas.{written_clean, written_lines, written_words}
use Rattle.text_lines.proofs.laws.a_written_text_is_its_words.Goals as goal

pub returns : goal.returns
returns c = record { lines = written_lines; clean = written_clean; words = written_words }
