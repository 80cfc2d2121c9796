use Rattle.patch_script.proofs.WrittenLemmas.{script_read}
use Rattle.patch_script.proofs.written.a_written_script_is_read.Goals as goal

pub returns : goal.returns
returns c = script_read c.a_written_text_is_its_words.ensures c.a_written_number_is_itself.ensures
