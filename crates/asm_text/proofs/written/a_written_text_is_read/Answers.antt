use Rattle.asm_text.proofs.WrittenLemmas.{text_read}
use Rattle.asm_text.proofs.written.a_written_text_is_read.Goals as goal

pub returns : goal.returns
returns c = text_read c.a_written_text_is_its_words.ensures
